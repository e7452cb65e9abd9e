use Rattle.std.proofs.Common.{◌≡◌, map, drop}
use Rattle.kq_plan_functions.specs.Table.{all_comparable}
use Rattle.kq_plan_functions.specs.Seen.{seen}
use Rattle.kq_plan_functions.proofs.typing.all_comparable.Given as goal

abbrev pub invariant-loop-other : goal.invariant-loop-other
invariant-loop-other l = all_comparable l.first (map (seen l.widen) l.others) ≡ all_comparable l.first (map (seen l.widen) (drop l.other-index l.others))
