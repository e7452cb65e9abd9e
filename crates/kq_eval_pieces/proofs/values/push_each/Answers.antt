use Rattle.std.proofs.Common.{arith, add-one}
use Rattle.kq_store_column_view.specs.Vectors.{cells_of}
use Rattle.kq_eval_pieces.proofs.Standing.{cells_more}
use Rattle.kq_eval_pieces.proofs.values.push_each.Goals as goal

pub loop-i-preserved : goal.loop-i-preserved
loop-i-preserved c = rw (c.in_ok-push.ensures.items, add-one) (cells_more c.args.values.now.items c.loop-i.values.items (cells_of c.args.vector.now) c.loop-i.i c.in_ok-cell.field-0 (omega arith) c.loop-i.invariant c.in_ok-cell.ensures)
