use Rattle.std.proofs.Common.{◌≡◌, ◌<◌, ◌∷◌, [], ◌++◌, take, sym, ◌∙◌, length, get_or, arith, List, subst}
use Rattle.std.specs.List.{All}
use Rattle.std.proofs.lemmas.List.{map_more}
use Rattle.std.proofs.lemmas.List.Elements.{All-take}
use Rattle.std.proofs.lemmas.Option.{get_or_from_slice_get}
use Rattle.kq_value.specs.declared.value.Value.{Value}
use Rattle.kq_store_rows.specs.Chunks.{chunks, HasWidth, row_at}
use Rattle.kq_store_rows.proofs.Chunked.{All-got, picked_width, chunks_wide}
use Rattle.kq_store_rows.proofs.rows.Rows.select.Goals as goal

pub push_copy-requires : goal.push_copy-requires
push_copy-requires c =
    let s = c.self.inside in
    let all = c.args.self.now in
    let v : chunks s.count s.width s.cells.items ≡ all = c.self.view_is in
    let wide = subst (λ (rs : List (List Value)). All (HasWidth s.width) rs) v (chunks_wide s.count s.width s.cells.items c.self.invariant.0) in
    let place = get_or c.args.places.now c.loop-place.place-index 0 in
    let row = All-got (HasWidth s.width) all place c.row.result.now wide (c.requires c.loop-place.place-index 0 (omega arith)) c.row.ensures in
    rw c.loop-place.invariant (picked_width all (take c.loop-place.place-index c.args.places.now) c.row.result.now s.width wide row (All-take (λ i. i < length all) c.loop-place.place-index c.args.places.now c.requires))

pub loop-place-preserved : goal.loop-place-preserved
loop-place-preserved c =
    let all = c.args.self.now in
    let place = get_or c.args.places.now c.loop-place.place-index 0 in
    let row : row_at all place ≡ c.row.result.now = get_or_from_slice_get all place c.row.result.now [] c.row.ensures in
    let more = map_more (row_at all) c.args.places.now c.loop-place.place-index 0 (omega arith) in
    c.in_ok-push_copy.ensures.ok ∙ (λ i. c.loop-place.invariant i ++ sym row i ∷ []) ∙ sym more
