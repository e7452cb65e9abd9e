use Rattle.std.proofs.Common.{◌<◌, length, arith, add-one, sym, ◌∙◌, ◌++◌, ◌∷◌, []}
use Rattle.kq_store_column_view.specs.Vectors.{cell_of, cells_of}
use Rattle.kq_store_column_view.proofs.Picking.{map_take_more}
use Rattle.kq_store_column_view.proofs.pick.copies_at.Goals as goal

pub loop-place-preserved : goal.loop-place-preserved
loop-place-preserved c =
    let h : c.loop-place.place-index < length c.args.places.now = omega arith in
    rw (c.in_ok-push.ensures.items, add-one)
    ((λ j. c.loop-place.invariant j ++ c.in_ok-cell.ensures j ∷ []) ∙ sym (map_take_more (cell_of (cells_of c.args.vector.now)) c.args.places.now c.loop-place.place-index h))
