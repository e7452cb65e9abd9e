use Rattle.std.proofs.Common.{refl}
use Rattle.kq_value_arithmetic.proofs.Truths.{false_in_list, more_in_list, disjunction_false}
use Rattle.kq_value_arithmetic.specs.Logic.{in_list}
use Rattle.kq_value_string_functions.specs.Texts.{equal_folded}
use Rattle.kq_eval_row.proofs.apply.in_list_folded.Goals as goal

pub loop-other-init : goal.loop-other-init
loop-other-init c = (false_in_list equal_folded c.args.x.now c.args.others.now, refl)

pub loop-other-preserved : goal.loop-other-preserved
loop-other-preserved c = rw (c.disjunction-found.ensures, c.in_ok-equal_folded.ensures.value)
    (more_in_list equal_folded c.args.x.now c.loop-other.found c.other-item.result (in_list equal_folded c.args.x.now c.args.others.now) c.args.others.now c.loop-other.other-index c.loop-other-test.true c.other-item.is c.loop-other.invariant.0, disjunction_false c.loop-other.found (equal_folded c.args.x.now c.other-item.result))
