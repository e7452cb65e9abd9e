use Rattle.std.proofs.Common.{◌+◌, ◌++◌, ◌∷◌, [], List, ap, map, sym, take, ◌∙◌, arith}
use Rattle.std.proofs.lemmas.List.{map_more, take_all}
use Rattle.std.proofs.lemmas.Simd.{map-map}
use Rattle.kq_store_column_view.specs.Vectors.{cell_of}
use Rattle.kq_run_sort.specs.Orders.{Row}
use Rattle.kq_run_sort.specs.Parts.{row_of_spot}
use Rattle.kq_run_sort.specs.declared.parts.Spot.{Spot}
use Rattle.kq_run_sort.proofs.columns.cells_at.Goals as goal

pub loop-spot-preserved : goal.loop-spot-preserved
loop-spot-preserved c =
    let parts = c.args.parts.now in
    let places = c.args.places.now in
    let i = c.loop-spot.spot-index in
    let at = λ (r : Row). cell_of r c.args.j in
    let f = λ (s : Spot). at (row_of_spot parts s) in
    let both = λ (ss : List Spot). map-map at (row_of_spot parts) ss in
    c.in_ok-push.ensures.items ∙ (λ t. (c.loop-spot.invariant ∙ both (take i places)) t ++ c.in_ok-cell_at.ensures t ∷ []) ∙ sym (map_more f places i _ c.loop-spot-test.true) ∙ sym (both (take (i + 1) places))

pub returns : goal.returns
returns c =
    let parts = c.args.parts.now in
    c.loop-spot.invariant ∙ ap (λ (ss : List Spot). map (λ (r : Row). cell_of r c.args.j) (map (row_of_spot parts) ss)) (take_all c.loop-spot.spot-index c.args.places.now (omega (arith, c.loop-spot-test.false)))
