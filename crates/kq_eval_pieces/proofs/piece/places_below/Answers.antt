use Rattle.std.proofs.Common.{◌∷◌, [], ◌++◌, ap, sym, ◌∙◌, arith, add-one}
use Rattle.kq_eval_pieces.proofs.Standing.{range_more}
use Rattle.kq_eval_pieces.proofs.piece.places_below.Goals as goal

pub loop-place-preserved : goal.loop-place-preserved
loop-place-preserved c = rw (c.in_ok-push.ensures.items, add-one) (ap (λ ps. ps ++ c.loop-place.place ∷ []) c.loop-place.invariant ∙ sym (range_more 0 c.loop-place.place c.loop-place.place (omega arith)))
