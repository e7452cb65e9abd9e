use Rattle.std.proofs.Common.{◌≡◌, drop}
use Rattle.std.specs.Prelude.{false}
use Rattle.kq_value.specs.declared.value.Value.TheVariants.{Bool as Truth}
use Rattle.kq_value_arithmetic.specs.Logic.{disjunction, in_list}
use Rattle.kq_value_string_functions.specs.Texts.{equal_folded}
use Rattle.kq_eval_row.proofs.apply.in_list_folded.Given as goal

-- the whole is what is found, or what the rest finds
abbrev pub invariant-loop-other : goal.invariant-loop-other
invariant-loop-other l = (in_list equal_folded l.x l.others ≡ disjunction l.found (in_list equal_folded l.x (drop l.other-index l.others)))
    × (disjunction l.found (Truth false) ≡ l.found)
