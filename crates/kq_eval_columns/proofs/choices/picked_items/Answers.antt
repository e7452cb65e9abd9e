use Rattle.std.proofs.Common.{◌<◌, length, arith, add-one, ◌∙◌, ap, ◌++◌}
use Rattle.kq_eval_columns.proofs.Picking.{picked_true, picked_false, picked_end, list_goes_on, list_ends}
use Rattle.kq_eval_columns.proofs.choices.picked_items.Goals as goal
use Rattle.kq_eval_columns.proofs.choices.picked_items.Goals.{then-tests-i+in_ok-push, else-tests-i}

pub loop-i-preserved : goal.loop-i-preserved
loop-i-preserved g c =
    let ts = c.args.tests.now in
    let xs = c.args.items.now in
    let i = c.loop-i.i in
    let h : i < length ts = omega arith in
    let k : i < length xs = omega arith in
    elim c.if-tests-i.branch [
      | then-tests-i+in_ok-push w ↦ rw (w.found-is, w.in_ok-push.ensures.items, add-one) (list_goes_on _ _ _ _ _ c.loop-i.invariant (picked_true ts xs i _ w.index-items-i.result h k w.index-items-i.is w.if-tests-i.true))
      | else-tests-i w ↦ rw (w.found-is, add-one) (c.loop-i.invariant ∙ ap (λ z. c.loop-i.found.items ++ z) (picked_false ts xs i _ h k w.if-tests-i.false))
    ]

pub returns : goal.returns
returns g c = list_ends _ _ _ c.loop-i.invariant (picked_end c.args.tests.now c.args.items.now c.loop-i.i (omega arith))
