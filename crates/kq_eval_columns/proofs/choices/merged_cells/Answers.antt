use Rattle.std.proofs.Common.{◌<◌, length, arith, add-one}
use Rattle.kq_store_column_view.specs.Vectors.{cells_of}
use Rattle.kq_eval_columns.proofs.Picking.{merged_first_cell, merged_second_cell, list_goes_on}
use Rattle.kq_eval_columns.proofs.choices.merged_cells.Goals as goal
use Rattle.kq_eval_columns.proofs.choices.merged_cells.Goals.{then-tests-k+else-i-len+in_ok-cell+in_ok-push, else-tests-k+else-j-len+in_ok-cell-2+in_ok-push-2}

pub loop-k-preserved : goal.loop-k-preserved
loop-k-preserved c =
    let ts = c.args.tests.now in
    let ys = cells_of c.args.y.now in
    let zs = cells_of c.args.z.now in
    let k = c.loop-k.k in
    let h : k < length ts = omega arith in
    elim c.if-tests-k.branch [
      | then-tests-k+else-i-len+in_ok-cell+in_ok-push w ↦
          rw (w.all-is, w.i-is, w.j-is, w.in_ok-push.ensures.items, add-one, add-one)
          (list_goes_on _ _ _ _ _ c.loop-k.invariant.0 (merged_first_cell ts ys zs k c.loop-k.i c.loop-k.j _ _ h w.if-tests-k.true (omega arith) w.in_ok-cell.ensures), omega arith, c.loop-k.invariant.2)
      | else-tests-k+else-j-len+in_ok-cell-2+in_ok-push-2 w ↦
          rw (w.all-is, w.i-is, w.j-is, w.in_ok-push-2.ensures.items, add-one, add-one)
          (list_goes_on _ _ _ _ _ c.loop-k.invariant.0 (merged_second_cell ts ys zs k c.loop-k.i c.loop-k.j _ _ h w.if-tests-k.false (omega arith) w.in_ok-cell-2.ensures), c.loop-k.invariant.1, omega arith)
    ]
