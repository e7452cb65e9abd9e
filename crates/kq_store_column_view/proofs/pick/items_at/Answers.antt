use Rattle.std.proofs.Common.{◌<◌, ℕ, length, get_or, arith, add-one, ◌++◌, ◌∷◌, []}
use Rattle.std.specs.Prelude.{slice_get}
use Rattle.std.proofs.lemmas.List.{map-append}
use Rattle.kq_store_column_view.proofs.Picking.{map_take_more, some_at}
use Rattle.kq_store_column_view.proofs.pick.items_at.Goals as goal

pub loop-place-preserved : goal.loop-place-preserved
loop-place-preserved g c =
    let places = c.args.places.now in
    let xs = c.args.items.now in
    let i = c.loop-place.place-index in
    let h : i < length places = omega arith in
    let p : ℕ = get_or places i 0 in
    let k : p < length xs = omega arith in
    rw (c.in_ok-push.ensures.items, add-one, map-append, map_take_more (slice_get xs) places i h) (λ j. c.loop-place.invariant j ++ some_at xs p c.index-items-place.result k c.index-items-place.is j ∷ [])
