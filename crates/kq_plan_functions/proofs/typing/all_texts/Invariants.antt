use Rattle.std.proofs.Common.{◌≡◌, map, drop}
use Rattle.kq_plan_functions.specs.Table.{all_texts}
use Rattle.kq_plan_functions.specs.Seen.{seen}
use Rattle.kq_plan_functions.proofs.typing.all_texts.Given as goal

abbrev pub invariant-loop-arg : goal.invariant-loop-arg
invariant-loop-arg l = all_texts (map (seen l.widen) l.args) ≡ all_texts (map (seen l.widen) (drop l.arg-index l.args))
