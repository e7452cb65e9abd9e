use Rattle.std.proofs.Common.{◌≡◌, drop}
use Rattle.kq_engine_prepare.specs.Found.{is_source}
use Rattle.kq_engine_prepare.proofs.offers.is_source.Given as goal

abbrev pub invariant-loop-due : goal.invariant-loop-due
invariant-loop-due l = is_source l.table (drop l.due-index l.dues) ≡ is_source l.table l.dues
