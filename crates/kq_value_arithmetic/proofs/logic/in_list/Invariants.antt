use Rattle.std.proofs.Common.{◌≡◌, drop}
use Rattle.std.specs.Prelude.{false}
use Rattle.kq_value.specs.declared.value.Value.TheVariants.{Bool as Truth}
use Rattle.kq_value_arithmetic.specs.Comparing.{equal}
use Rattle.kq_value_arithmetic.specs.Logic.{disjunction, in_list}
use Rattle.kq_value_arithmetic.proofs.logic.in_list.Given as goal

-- the whole is what is found, or what the rest finds
abbrev pub invariant-loop-value : goal.invariant-loop-value
invariant-loop-value l = (in_list equal l.x l.list ≡ disjunction l.found (in_list equal l.x (drop l.value-index l.list)))
    × (disjunction l.found (Truth false) ≡ l.found)
