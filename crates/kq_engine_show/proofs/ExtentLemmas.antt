-- The rows of extents.
use Rattle.std.proofs.Common.{◌≡◌, ◌<◌, ℕ, ◌^◌, pos, nat_lt, Bool, true, false, not, cond, List, [], ◌∷◌, ◌++◌, length, map, get_or, Option, Some, None, refl, ap, sym, subst, ◌∙◌, arith}
use Rattle.std.specs.List.{All, filter}
use Rattle.std.specs.List.Sorted.{IsPermutation}
use Rattle.std.proofs.lemmas.List.{map-append}
use Rattle.std.proofs.lemmas.List.Elements.{All-map}
use Rattle.std.proofs.lemmas.List.Sorted.{IsPermutation-filter_both, IsPermutation-map, IsPermutation-sym}
use Rattle.kq_value.specs.Same.{Same}
use Rattle.kq_value.specs.Tree.{trees_depth}
use Rattle.kq_value.specs.Seen.{trees_of}
use Rattle.kq_value.specs.Typed.{HasType, HasTypes}
use Rattle.kq_value.specs.declared.dynamic.Dyn.{Dyn}
use Rattle.kq_value.specs.declared.dynamic.Dyn.TheVariants as dyn
use Rattle.kq_value.specs.declared.ty.Ty.TheVariants as ty
use Rattle.kq_value.specs.declared.value.Value.{Value}
use Rattle.kq_value.specs.declared.value.Value.TheVariants.{Null, Long}
use Rattle.kq_value.proofs.SameLemmas.{Same-from_permutation}
use Rattle.kq_store_extent.specs.Seen.{ExtentView, HeldExtents, held_extents}
use Rattle.kq_catalog_journal.specs.Records.{ExtentItem, is_small_item}
use Rattle.kq_catalog.specs.Held.{AreItems, extent_item}
use Rattle.kq_engine_show.specs.Cells.{number_cell, number_or_null}
use Rattle.kq_engine_show.specs.ExtentRows.{cursors, extent_columns, extent_row, greatest, held_row, least, strings}

-- ---- types

long_or_null : (b : Bool) (v : Value) → HasType ty.Long v → HasType ty.Long (cond b v (Null ty.Long))
long_or_null true v h = h
long_or_null false v h = (refl, ((λ e. cc), (λ e. cc)))

pub number_cell-typed : (n : ℕ) → HasType ty.Long (number_cell n)
number_cell-typed n = long_or_null (nat_lt n (2 ^ 63)) (Long (pos n)) (refl, tt)

number_or_null-typed : (o : Option ℕ) → HasType ty.Long (number_or_null o)
number_or_null-typed (Some n) = number_cell-typed n
number_or_null-typed None = (refl, ((λ e. cc), (λ e. cc)))

pub extent_row-typed : (e : ExtentItem) → HasTypes extent_columns (extent_row e)
extent_row-typed e =
    (number_cell-typed e.id, (number_cell-typed (length e.records), (number_or_null-typed (least (cursors e)), (number_or_null-typed (greatest (cursors e)), ((refl, tt), tt)))))

pub held_rows-typed : (es : List ExtentView) → All (HasTypes extent_columns) (map held_row es)
held_rows-typed es = All-map (HasTypes extent_columns) held_row es (λ k d lt. extent_row-typed (extent_item (get_or es k d)))

-- ---- the extents of a history are those that are held, in some order

as_items : (es : List ExtentView) → map held_row es ≡ map extent_row (map extent_item es)
as_items [] = refl
as_items (e ∷ es) = ap (λ rows. held_row e ∷ rows) (as_items es)

pub rows-same : (items : List ExtentItem) (held : HeldExtents) → AreItems items held → Same (map held_row (held_extents held)) (map extent_row items)
rows-same items held are =
    let big : ExtentItem → Bool = λ i. not (is_small_item i) in
    let split : map extent_item (held_extents held) ≡ filter is_small_item items ++ filter big items =
    map-append extent_item held.small held.big ∙ ap (λ l. l ++ map extent_item held.big) are.small ∙ ap (λ l. filter is_small_item items ++ l) are.big in
    let same : IsPermutation items (map extent_item (held_extents held)) =
    subst (λ l. IsPermutation items l) (sym split) (IsPermutation-filter_both is_small_item big (λ i. refl) items) in
    rw (as_items (held_extents held)) (Same-from_permutation (map extent_row (map extent_item (held_extents held))) (map extent_row items)
    (IsPermutation-map extent_row (map extent_item (held_extents held)) items (IsPermutation-sym items (map extent_item (held_extents held)) same)))

-- ---- tags

pub trees_of-texts : (texts : List (List ℕ)) → trees_of (map dyn.Text texts) ≡ strings texts
trees_of-texts [] = refl
trees_of-texts (t ∷ ts) = rw (trees_of-texts ts) refl

strings-flat : (texts : List (List ℕ)) → trees_depth (strings texts) ≡ 0
strings-flat [] = refl
strings-flat (t ∷ ts) = rw (strings-flat ts) refl

pub texts-flat : (texts : List (List ℕ)) (items : List Dyn) → items ≡ map dyn.Text texts → trees_depth (trees_of items) < 127
texts-flat texts items e = rw (e, trees_of-texts texts, strings-flat texts) (omega arith)
