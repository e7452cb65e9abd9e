use Rattle.std.proofs.Common.{◌-◌, ◌<◌, ◌≤◌, length}
use Rattle.kq_value_strings.specs.Case.{in_case, StandsBetween}
use Rattle.kq_value_strings.specs.Found.{NoneBelow}
use Rattle.kq_value_strings.proofs.search.is_found_from.Given as goal

abbrev pub invariant-loop-at : goal.invariant-loop-at
invariant-loop-at l =
    (l.at ≤ length l.text)
    × NoneBelow l.occurrence (in_case l.by l.text) (in_case l.by l.part) l.at
    × (l.known < length l.part)
    × StandsBetween l.by l.text l.part l.at 0 l.known

abbrev pub decreases-loop-at : goal.decreases-loop-at
decreases-loop-at l = length l.text - l.at
