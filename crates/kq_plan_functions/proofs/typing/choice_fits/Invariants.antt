use Rattle.std.proofs.Common.{◌≡◌, map, length}
use Rattle.kq_plan_functions.specs.Table.{choice_fits}
use Rattle.kq_plan_functions.specs.Seen.{seen}
use Rattle.kq_plan_functions.proofs.typing.choice_fits.Given as goal

abbrev pub invariant-loop-rest : goal.invariant-loop-rest
invariant-loop-rest l = choice_fits l.value (map (seen l.widen) l.rest) ≡ choice_fits l.value (map (seen l.widen) l.args)

abbrev pub decreases-loop-rest : goal.decreases-loop-rest
decreases-loop-rest l = length l.rest
