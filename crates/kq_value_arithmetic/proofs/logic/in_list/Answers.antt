use Rattle.std.proofs.Common.{refl}
use Rattle.kq_value_arithmetic.specs.Comparing.{equal}
use Rattle.kq_value_arithmetic.proofs.Truths.{false_in_list, more_in_list, disjunction_false}
use Rattle.kq_value_arithmetic.proofs.logic.in_list.Goals as goal

pub loop-value-init : goal.loop-value-init
loop-value-init c = (false_in_list equal c.args.x.now c.args.list.now, refl)

pub loop-value-preserved : goal.loop-value-preserved
loop-value-preserved c = rw (c.disjunction-found.ensures, c.equal.ensures)
    (more_in_list equal c.args.x.now c.loop-value.found c.value-item.result _ c.args.list.now c.loop-value.value-index c.loop-value-test.true c.value-item.is c.loop-value.invariant.0, disjunction_false _ _)
