use Rattle.std.proofs.Common.{◌≡◌, map, drop}
use Rattle.kq_plan_functions.specs.Table.{all_same}
use Rattle.kq_plan_functions.specs.Seen.{seen}
use Rattle.kq_plan_functions.proofs.typing.all_same.Given as goal

abbrev pub invariant-loop-other : goal.invariant-loop-other
invariant-loop-other l = all_same l.first (map (seen l.widen) l.others) ≡ all_same l.first (map (seen l.widen) (drop l.other-index l.others))
