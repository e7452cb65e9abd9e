use Rattle.std.proofs.Common.{arith, add-one, sym, ◌∙◌, ◌++◌, ◌∷◌, []}
use Rattle.kq_store_column_view.specs.Vectors.{cells_of}
use Rattle.kq_store_column_view.proofs.Picking.{cells_more}
use Rattle.kq_store_column_view.proofs.own.copies.Goals as goal

pub loop-i-preserved : goal.loop-i-preserved
loop-i-preserved c =
    rw (c.in_ok-push.ensures.items, add-one) ((λ j. c.loop-i.invariant j ++ c.in_ok-cell.ensures j ∷ []) ∙ sym (cells_more (cells_of c.args.vector.now) c.loop-i.i (omega arith)))
