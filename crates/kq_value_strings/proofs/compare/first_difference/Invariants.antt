use Rattle.kq_value_strings.specs.Case.{StandsBetween}
use Rattle.kq_value_strings.proofs.compare.first_difference.Given as goal

abbrev pub invariant-loop-place : goal.invariant-loop-place
invariant-loop-place l = StandsBetween l.by l.text l.part l.at l.start l.place
