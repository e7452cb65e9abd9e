use Rattle.std.proofs.Common.{◌≡◌, ◌<◌, w64, length, get_or, Some, Bor, sym, ap, ◌∙◌}
use Rattle.std.proofs.lemmas.Int.{to_z-of_z}
use Rattle.std.specs.Prelude.{slice_get}
use Rattle.std.specs.List.{HoldsAt}
use Rattle.kq_value.specs.declared.dynamic.Dyn.{Dyn}
use Rattle.kq_value.specs.Tree.{items_of}
use Rattle.kq_value.specs.Seen.{trees_of}
use Rattle.kq_value_json.specs.Places.{place_of}
use Rattle.kq_value_json.proofs.Places.{item_at-place, got, MatchOption-weaker}
use Rattle.kq_value_json.proofs.members.at_index.Goals as goal

pub returns-in_ok-place-in-List : goal.returns-in_ok-place-in-List
returns-in_ok-place-in-List c =
    let ts = c.in-List.items in
    let p : place_of (length (items_of ts)) c.args.index ≡ Some c.in_ok-place-in-List.field-0 = ap (λ n. place_of n c.args.index) (sym c.len.ensures) ∙ sym (rw (to_z-of_z w64 c.args.index c.ranges.index) at c.in_ok-place-in-List.ensures) in
    let item : (x : Bor Dyn) → (c.in_ok-place-in-List.field-0 < length c.as_slice.result.now) × HoldsAt (λ y. x.now ≡ y) c.as_slice.result.now c.in_ok-place-in-List.field-0
    → (c.in_ok-place-in-List.field-0 < length c.as_slice.result.now) × (x.now ≡ get_or c.as_slice.result.now c.in_ok-place-in-List.field-0 x.now) = λ x h. (h.0, h.1 x.now) in
    let r = got c.get.result c.as_slice.result.now c.in_ok-place-in-List.field-0 (MatchOption-weaker _ c.get.result item c.get.ensures.lookup.3) in
    let e : slice_get (items_of (trees_of c.as_slice.result.now)) c.in_ok-place-in-List.field-0 ≡ slice_get (items_of ts) c.in_ok-place-in-List.field-0 = rw c.as_slice.ensures.items in
    rw c.in-List.is (r ∙ e ∙ sym (item_at-place (items_of ts) _ _ p))
