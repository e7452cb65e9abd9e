-- The test of a zone, and what it says.
use Rattle.std.proofs.Common.{◌≡◌, ◌&&◌, true, List, Option, Some, sym, ap, ◌∙◌}
use Rattle.std.specs.List.{list_all, list_any}
use Rattle.std.specs.Ordering.{is_le}
use Rattle.std.specs.Cmp.{decided}
use Rattle.std.proofs.lemmas.Bool.{and_parts, and_from}
use Rattle.std.proofs.lemmas.List.Sums.{AllPass-from_list_all, list_all-from_AllPass}
use Rattle.std.proofs.lemmas.Map.Views.{Contains-from_any, list_any-from_Contains}
use Rattle.kq_value.specs.declared.value.Value.{Value}
use Rattle.kq_value.specs.Values.{value_cmp, is_same}
use Rattle.kq_value.proofs.Equals.{is_same-Decides}
use Rattle.kq_store_column.specs.Bounds.{AreBounds}
use Rattle.kq_store_column.specs.Cells.{cells_present, IsAtMost}
use Rattle.kq_store_column.specs.Zones.{are_bounds, is_zone}

same_values : (v w : Value) → is_same v w ≡ true → v ≡ w
same_values v w h = (is_same-Decides v w).0 h

pub are_bounds-AreBounds : (cells : List Value) (least greatest : Value) → are_bounds cells least greatest ≡ true → AreBounds IsAtMost cells least greatest
are_bounds-AreBounds cells least greatest h =
    let low = and_parts (list_any (is_same least) cells && list_all (λ v. is_le (value_cmp least v)) cells) _ h in
    let below = and_parts (list_any (is_same least) cells) _ low.0 in
    let above = and_parts (list_any (is_same greatest) cells) _ low.1 in
    record {
      least_stands = Contains-from_any {eq = is_same} same_values least cells below.0;
      none_below = AllPass-from_list_all (λ v. is_le (value_cmp least v)) cells below.1;
      greatest_stands = Contains-from_any {eq = is_same} same_values greatest cells above.0;
      none_above = AllPass-from_list_all (λ v. is_le (value_cmp v greatest)) cells above.1;
    }

pub AreBounds-are_bounds : (cells : List Value) (least greatest : Value) → AreBounds IsAtMost cells least greatest → are_bounds cells least greatest ≡ true
AreBounds-are_bounds cells least greatest bounds =
    and_from _ _
    (and_from _ _ (list_any-from_Contains (decided is_same is_same-Decides) least cells bounds.least_stands) (list_all-from_AllPass (λ v. is_le (value_cmp least v)) cells bounds.none_below))
    (and_from _ _ (list_any-from_Contains (decided is_same is_same-Decides) greatest cells bounds.greatest_stands) (list_all-from_AllPass (λ v. is_le (value_cmp v greatest)) cells bounds.none_above))

-- where a column keeps two cells, they are its bounds
pub zone_bounds : (cells : List Value) (kept : Option (Value × Value)) (least greatest : Value) → is_zone cells kept ≡ true → kept ≡ Some (least, greatest) → AreBounds IsAtMost (cells_present cells) least greatest
zone_bounds cells kept least greatest h is = are_bounds-AreBounds (cells_present cells) least greatest (sym (ap (is_zone cells) is) ∙ h)
