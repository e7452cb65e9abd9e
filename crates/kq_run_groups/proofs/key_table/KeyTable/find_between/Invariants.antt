use Rattle.kq_run_groups.specs.Found.{FoundBetween}
use Rattle.kq_run_groups.proofs.key_table.KeyTable.find_between.Given as goal

abbrev pub invariant-loop-place : goal.invariant-loop-place
invariant-loop-place l = FoundBetween l.self.keys l.other.keys l.from l.place l.found.items
