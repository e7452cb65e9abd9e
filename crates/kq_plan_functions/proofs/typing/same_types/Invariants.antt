use Rattle.std.proofs.Common.{◌≡◌, map, drop}
use Rattle.kq_plan_functions.specs.Table.{same_types}
use Rattle.kq_plan_functions.specs.Seen.{seen}
use Rattle.kq_plan_functions.proofs.typing.same_types.Given as goal

abbrev pub invariant-loop-i : goal.invariant-loop-i
invariant-loop-i l = same_types (drop l.i l.takes) (map (seen l.widen) (drop l.i l.args)) ≡ same_types l.takes (map (seen l.widen) l.args)
