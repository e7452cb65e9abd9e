-- The extents that are held are those that a merge picks, and what they become is their union.
use Rattle.std.proofs.Common.{◌≡◌, ◌<◌, ◌≤◌, ◌+◌, ℕ, Bool, true, false, cond, List, [], ◌∷◌, ◌++◌, All, Contains, get_or, length, map, take, min, nat_lt, Option, Some, None, refl, ap, sym, ◌∙◌, subst, arith}
use Rattle.std.specs.List.{flat_map, slice_get}
use Rattle.std.specs.List.Sorted.{IsPermutation}
use Rattle.std.specs.Option.{option_map, unwrap_or}
use Rattle.std.proofs.lemmas.Bool.{ltb-false}
use Rattle.std.proofs.lemmas.List.{length-map, length-take, map_push, take-map, take_all, take_more}
use Rattle.std.proofs.lemmas.List.Elements.{All-cons, All-contains, All-head, All-map, All-nil, All-tail, All-weaker}
use Rattle.kq_value.specs.declared.record.Record.{Record}
use Rattle.kq_value.specs.declared.record_id.RecordId.{RecordId}
use Rattle.kq_value.specs.declared.schema.Field.{Field}
use Rattle.kq_value.specs.declared.value.Value.{Value}
use Rattle.kq_value.specs.Typed.{HasTypes}
use Rattle.kq_value_text_sets.specs.EachOnce.{each_once}
use Rattle.kq_store_rows.proofs.WidenedLemmas.{widened_records-ids}
use Rattle.kq_store_extent.specs.Seen.{ExtentView, HeldExtents, held_records, records_in, row_of}
use Rattle.kq_store_extent.specs.Wide.{wide, wide_held}
use Rattle.kq_store_merge.specs.Merges.{merge_of, picked_of, tags_in}
use Rattle.kq_catalog_journal.specs.declared.table.Table.{Table}
use Rattle.kq_catalog_journal.specs.History.{History, log, tables}
use Rattle.kq_catalog_journal.specs.Records.{ExtentItem, extents, item_ids, picked, records, rows_in, schema_of, united}
use Rattle.kq_catalog.specs.declared.merging.Merging.{Merging}
use Rattle.kq_catalog.specs.Held.{AreItems, extent_item}
use Rattle.kq_catalog.specs.Merges.{IsUnion}
use Rattle.kq_catalog.proofs.Merged.{first_rows, ids_in_items}
use Rattle.kq_engine_prepare.specs.Merges.{IsMergingIn}

-- ---- the extents

-- an extent is the same item under more columns
item_wide : (fields : List Field) (e : ExtentView) → extent_item (wide fields e) ≡ extent_item e
item_wide fields e = ap (λ (ids : List RecordId). let i : ExtentItem = record { id = e.id; records = ids; tags = e.tags } in i) (widened_records-ids fields e.records)

items_wide : (fields : List Field) (es : List ExtentView) → map extent_item (map (wide fields) es) ≡ map extent_item es
items_wide fields [] = refl
items_wide fields (e ∷ es) = ap (λ (i : ExtentItem). i ∷ map extent_item (map (wide fields) es)) (item_wide fields e) ∙ ap (λ (is : List ExtentItem). extent_item e ∷ is) (items_wide fields es)

tags_in_items : (es : List ExtentView) → tags_in es ≡ flat_map (λ (i : ExtentItem). i.tags) (map extent_item es)
tags_in_items [] = refl
tags_in_items (e ∷ es) = ap (λ (tags : List (List ℕ)). e.tags ++ tags) (tags_in_items es)

ids_of_items : (es : List ExtentView) → map (λ (e : ExtentView). e.id) es ≡ item_ids (map extent_item es)
ids_of_items [] = refl
ids_of_items (e ∷ es) = ap (λ (ids : List ℕ). e.id ∷ ids) (ids_of_items es)

-- what extents become is the union of their items
item_merge : (id : ℕ) (es : List ExtentView) → extent_item (merge_of id es) ≡ united id (map extent_item es)
item_merge id es = λ i. record { id = id; records = ids_in_items es i; tags = ap each_once (tags_in_items es) i }

-- the first of the small extents that are held are those that are picked
picked_held : (h : History) (t : ℕ) (held : HeldExtents) → AreItems (extents h t) held → picked h t ≡ map extent_item (take 64 held.small)
picked_held h t held are = ap (take 64) (sym are.small) ∙ take-map extent_item 64 held.small

long_picked : (h : History) (t : ℕ) (held : HeldExtents) → AreItems (extents h t) held → length (picked h t) ≡ min 64 (length held.small)
long_picked h t held are = ap length (picked_held h t held are) ∙ length-map (take 64 held.small) extent_item ∙ length-take 64 held.small

-- ---- what is picked

-- two or more are picked
pub record ArePicked (small es : List ExtentView) : Type 0 where
  pub are : es ≡ take 64 small
  pub some : 2 ≤ length small

pub some_picked : (small es : List ExtentView) → Some es ≡ picked_of small → ArePicked small es
some_picked small es is = by_test (nat_lt (length small) 2) refl is
  where
    by_test : (b : Bool) → nat_lt (length small) 2 ≡ b → Some es ≡ cond b None (Some (take 64 small)) → ArePicked small es
    by_test true few e = cc
    by_test false few e = record { are = cc; some = ltb-false (length small) 2 few }

-- ---- the rows

-- the columns of a table that stands
pub schema_at : (h : History) (t : ℕ) (table : Table) → slice_get (tables (log h)) t ≡ Some table → schema_of (log h) t ≡ table.schema
schema_at h t table at = ap (λ (o : Option Table). unwrap_or (option_map (λ (x : Table). x.schema) o) []) at

-- what is picked has the table's records
picked_rows : (h : History) (t : ℕ) (fields : List Field) (held : HeldExtents) → IsPermutation (held_records (wide_held fields held)) (records (log h) t)
    → All (Contains (records (log h) t)) (records_in (map (wide fields) (take 64 held.small)))
picked_rows h t fields held once =
    subst (λ (es : List ExtentView). All (Contains (records (log h) t)) (records_in es)) (take-map (wide fields) 64 held.small)
    (first_rows (records (log h) t) (wide_held fields held) 64 once)

all_rows : (P : List Value → Type 0) (rs : List Record) → All P (map row_of rs) → All (λ (r : Record). P (row_of r)) rs
all_rows P [] all = All-nil (λ (r : Record). P (row_of r))
all_rows P (r ∷ rs) all = All-cons (λ (x : Record). P (row_of x)) r rs (All-head P (row_of r) (map row_of rs) all) (all_rows P rs (All-tail P (row_of r) (map row_of rs) all))

-- what is picked has the types of the table
pub typed_picked : (h : History) (t : ℕ) (table : Table) (held : HeldExtents) → slice_get (tables (log h)) t ≡ Some table → IsPermutation (held_records (wide_held (schema_of (log h) t) held)) (records (log h) t)
    → All (HasTypes table.schema) (rows_in h t) → All (HasTypes table.schema) (map row_of (records_in (map (wide table.schema) (take 64 held.small))))
typed_picked h t table held at once typed =
    let fields = table.schema in
    let rs = records_in (map (wide fields) (take 64 held.small)) in
    let there = subst (λ (fs : List Field). IsPermutation (held_records (wide_held fs held)) (records (log h) t)) (schema_at h t table at) once in
    let all = records (log h) t in
    let IsTyped = λ (r : Record). HasTypes fields (row_of r) in
    All-map (HasTypes fields) row_of rs
    (All-weaker (Contains all) IsTyped (λ r. All-contains IsTyped all r (all_rows (HasTypes fields) all typed)) rs (picked_rows h t fields held there))

-- ---- the union

-- what was picked and made into one
pub record IsOneOf (t : ℕ) (fields : List Field) (small : List ExtentView) (m : Merging) : Type 0 where
  pub table : m.table ≡ t
  pub old : m.old ≡ map (λ (e : ExtentView). e.id) (take 64 small)
  pub id : ℕ
  pub extent : m.extent ≡ merge_of id (map (wide fields) (take 64 small))

pub union_picked : (h : History) (t : ℕ) (table : Table) (held : HeldExtents) (m : Merging) → slice_get (tables (log h)) t ≡ Some table → IsPermutation (held_records (wide_held (schema_of (log h) t) held)) (records (log h) t)
    → AreItems (extents h t) held → 2 ≤ length held.small → IsOneOf t table.schema held.small m → IsMergingIn h t m
union_picked h t table held m at once are some one =
    let fields = table.schema in
    let es = map (wide fields) (take 64 held.small) in
    let there = subst (λ (fs : List Field). IsPermutation (held_records (wide_held fs held)) (records (log h) t)) (schema_at h t table at) once in
    let whole : take (length (picked h t)) (picked h t) ≡ picked h t = take_all (length (picked h t)) (picked h t) (omega arith) in
    let all : m.old ≡ item_ids (picked h t) = one.old ∙ ids_of_items (take 64 held.small) ∙ ap item_ids (sym (picked_held h t held are)) in
    let union : IsUnion h t m.old (merge_of one.id es) = record {
      count = length (picked h t);
      some = omega (arith, long_picked h t held are, some);
      within = omega arith;
      first = all ∙ ap item_ids (sym whole);
      same = item_merge one.id es ∙ ap (united one.id) (items_wide fields (take 64 held.small) ∙ sym (picked_held h t held are) ∙ sym whole);
      rows = picked_rows h t fields held there;
    } in
    record { table = one.table; all = all; union = subst (IsUnion h t m.old) (sym one.extent) union }

-- one id more
pub ids_more : (es : List ExtentView) (i : ℕ) (e : ExtentView) → i < length es → get_or es i e ≡ e → map (λ (x : ExtentView). x.id) (take i es) ++ e.id ∷ [] ≡ map (λ (x : ExtentView). x.id) (take (i + 1) es)
ids_more es i e within is =
    sym (map_push (λ (x : ExtentView). x.id) (take i es) e) ∙ ap (map (λ (x : ExtentView). x.id)) (ap (λ (x : ExtentView). take i es ++ x ∷ []) (sym is) ∙ sym (take_more es i e within))
