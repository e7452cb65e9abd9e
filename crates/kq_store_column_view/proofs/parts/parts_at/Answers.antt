use Rattle.std.proofs.Common.{◌<◌, ℕ, length, get_or, arith, add-one, ap, sym, ◌∙◌, ◌++◌, ◌∷◌, []}
use Rattle.std.proofs.lemmas.List.{map-append}
use Rattle.kq_value.specs.declared.value.Value.{Value}
use Rattle.kq_store_column_view.specs.Vectors.{cell_of, member_at}
use Rattle.kq_store_column_view.proofs.Picking.{map_take_more, item_cell}
use Rattle.kq_store_column_view.proofs.parts.parts_at.Goals as goal

pub loop-place-preserved : goal.loop-place-preserved
loop-place-preserved c =
    let places = c.args.places.now in
    let cells = c.args.cells.now in
    let i = c.loop-place.place-index in
    let h : i < length places = omega arith in
    let p : ℕ = get_or places i 0 in
    let k : p < length cells = omega arith in
    let g : ℕ → Value = λ n. member_at c.args.key.now (cell_of cells n) in
    let e = c.part_of.ensures ∙ ap (member_at c.args.key.now) (sym (item_cell cells p c.index-cells-place.result k c.index-cells-place.is)) in
    rw (c.in_ok-push.ensures.items, add-one, map-append, map_take_more g places i h) (λ j. c.loop-place.invariant j ++ e j ∷ [])
