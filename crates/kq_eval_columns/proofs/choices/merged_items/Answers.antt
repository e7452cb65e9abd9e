use Rattle.std.proofs.Common.{◌<◌, length, arith, add-one}
use Rattle.kq_eval_columns.proofs.Picking.{merged_first, merged_second, list_goes_on}
use Rattle.kq_eval_columns.proofs.choices.merged_items.Goals as goal
use Rattle.kq_eval_columns.proofs.choices.merged_items.Goals.{then-tests-k+else-i-ys+in_ok-push, else-tests-k+else-j-zs+in_ok-push-2}

pub loop-k-preserved : goal.loop-k-preserved
loop-k-preserved g c =
    let ts = c.args.tests.now in
    let ys = c.args.ys.now in
    let zs = c.args.zs.now in
    let k = c.loop-k.k in
    let h : k < length ts = omega arith in
    elim c.if-tests-k.branch [
      | then-tests-k+else-i-ys+in_ok-push w ↦
          rw (w.all-is, w.i-is, w.j-is, w.in_ok-push.ensures.items, add-one, add-one)
          (list_goes_on _ _ _ _ _ c.loop-k.invariant.0 (merged_first ts ys zs k c.loop-k.i c.loop-k.j _ w.index-ys-i.result h w.if-tests-k.true (omega arith) w.index-ys-i.is), omega arith, c.loop-k.invariant.2)
      | else-tests-k+else-j-zs+in_ok-push-2 w ↦
          rw (w.all-is, w.i-is, w.j-is, w.in_ok-push-2.ensures.items, add-one, add-one)
          (list_goes_on _ _ _ _ _ c.loop-k.invariant.0 (merged_second ts ys zs k c.loop-k.i c.loop-k.j _ w.index-zs-j.result h w.if-tests-k.false (omega arith) w.index-zs-j.is), c.loop-k.invariant.1, omega arith)
    ]
