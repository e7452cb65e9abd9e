-- A merge keeps that of each table is held what the history says of it.
use Rattle.std.proofs.Common.{◌≡◌, ◌<◌, ◌≤◌, ◌+◌, refl, subst, ℕ, zero, suc, Bool, true, false, not, List, [], ◌∷◌, ◌++◌, All, Contains, length, map, take, drop, slice_index_or, nat_eq, nat_lt, Some, ap, sym, ◌∙◌, arith, append-nil, append_assoc, length-append, length-take, take-append-drop, zero-add}
use Rattle.std.specs.List.{AllZip, filter, flat_map, slice_get, list_any}
use Rattle.std.specs.List.Sorted.{IsPermutation}
use Rattle.std.proofs.lemmas.Bool.{eq-eqb, eqb-true, ltb-true, ltb-false, true≢false}
use Rattle.std.proofs.lemmas.List.{map-append, length-map, take-map, drop-map, take-append-le, length-take-le, get_or_append_left}
use Rattle.std.proofs.lemmas.List.Concat.{flat_map-append}
use Rattle.std.proofs.lemmas.List.Elements.{All-contains_itself}
use Rattle.std.proofs.lemmas.List.Sorted.{IsPermutation-refl, IsPermutation-sym, IsPermutation-trans, IsPermutation-append_comm, IsPermutation-map, All-permutation}
use Rattle.kq_value.specs.declared.record.Record.{Record}
use Rattle.kq_value.specs.declared.record_id.RecordId.{RecordId}
use Rattle.kq_value.specs.declared.schema.Field.{Field}
use Rattle.kq_store_rows.specs.Widened.{widened_record, widened_records}
use Rattle.kq_store_rows.proofs.WidenedLemmas.{widened_records-ids}
use Rattle.kq_store_extent.specs.Seen.{ExtentView, HeldExtents, held_records, records_in}
use Rattle.kq_store_extent.specs.Split.{put, without_first}
use Rattle.kq_store_extent.specs.Wide.{wide, wide_held}
use Rattle.kq_store_extent.proofs.Wide.{held_records-wide, records_in-wide}
use Rattle.kq_catalog_journal.specs.declared.event.By.{By}
use Rattle.kq_catalog_journal.specs.declared.table.Table.{Table}
use Rattle.kq_catalog_journal.specs.Edits.{changed}
use Rattle.kq_catalog_journal.proofs.Edited.{with_merged as state_merged}
use Rattle.kq_catalog_journal.specs.History.{History, Log, log, tables}
use Rattle.kq_catalog_journal.specs.Lawful.{AreLawful, IsMerge}
use Rattle.kq_catalog_journal.specs.Policies.{noted, policies}
use Rattle.kq_catalog_journal.specs.Records.{ExtentItem, extents, has_id_of, ids_of, is_small_item, item_ids, extents_made, merged, picked, records, schema_of, small_items, united}
use Rattle.kq_catalog_journal.specs.Tables.{TableState, states_from, table_states}
use Rattle.kq_catalog_journal.proofs.Bounded.{no_items}
use Rattle.kq_catalog_journal.proofs.Histories.{AreLawful-push, log-append, log-push}
use Rattle.kq_catalog_journal.proofs.Merging.{Goes_on, Takes, first_picked, gone_after, lawful_parts, merge-takes, still_first}
use Rattle.kq_catalog_journal.proofs.Records.{extents_made-push}
use Rattle.kq_catalog_journal.proofs.States.{table_states-merge}
use Rattle.kq_catalog_journal.proofs.Growing.{records-go_on, tables-stay}
use Rattle.kq_catalog_journal.proofs.Unique.{same_by_ids}
use Rattle.kq_catalog_indexes.specs.declared.tag_entry.Entry.{Entry}
use Rattle.kq_catalog.specs.declared.merging.Merging.{Merging}
use Rattle.kq_catalog.specs.Edits.{with_merged}
use Rattle.kq_catalog.specs.Held.{AreItems, HeldTable, IsHeld, extent_item}
use Rattle.kq_catalog.specs.Merges.{IsGone, IsInFront, IsUnion, WasPicked, comes_first, merge_event}
use Rattle.kq_catalog.specs.Seen.{CatalogView, HoldsHistory, Sound, hist}
use Rattle.kq_catalog.specs.Tagged.{TellsTags}
use Rattle.kq_catalog.proofs.Keeping.{AllZip-changed_at, items-put, records-put}
use Rattle.kq_catalog.proofs.Standing.{count_held, held_at, schema_held}
use Rattle.kq_catalog.proofs.Viewing.{views-merge}

-- ---- one table

-- the records of the new extent are those of the old ones, under these columns, and the others stay
records_apart : (fields : List Field) (k : ℕ) (held : HeldExtents) (e : ExtentView) → widened_records fields e.records ≡ widened_records fields (records_in (take k held.small))
    → IsPermutation (widened_records fields (held_records (put (without_first k held) e))) (widened_records fields (held_records held))
records_apart fields k held e is =
    let f = widened_record fields in
    let left = without_first k held in
    let first = records_in (take k held.small) in
    let later = records_in (drop k held.small) in
    let big = records_in held.big in
    let whole : first ++ held_records left ≡ held_records held =
    sym (append_assoc first later big)
    ∙ ap (λ (rs : List Record). rs ++ big) (sym (flat_map-append (λ (x : ExtentView). x.records) (take k held.small) (drop k held.small)) ∙ ap records_in (take-append-drop k held.small)) in
    let same : map f (held_records left ++ e.records) ≡ map f (held_records left ++ first) =
    map-append f (held_records left) e.records ∙ ap (λ (rs : List Record). map f (held_records left) ++ rs) is ∙ sym (map-append f (held_records left) first) in
    let apart : IsPermutation (held_records left ++ first) (held_records held) = subst (IsPermutation (held_records left ++ first)) whole (IsPermutation-append_comm (held_records left) first) in
    IsPermutation-trans (map f (held_records (put left e))) (map f (held_records left ++ e.records)) (map f (held_records held))
    (IsPermutation-map f (held_records (put left e)) (held_records left ++ e.records) (records-put left e (held_records left) (IsPermutation-refl (held_records left))))
    (subst (λ (rs : List Record). IsPermutation rs (map f (held_records held))) (sym same) (IsPermutation-map f (held_records left ++ first) (held_records held) apart))

-- and so it is with the extents
items_merged : (k : ℕ) (held : HeldExtents) (e : ExtentView) (items : List ExtentItem) (old : List ℕ) (new : ℕ) → AreItems items held → Takes is_small_item k items old → extent_item e ≡ united new (filter (has_id_of old) items)
    → AreItems (merged old new items) (put (without_first k held) e)
items_merged k held e items old new are takes is =
    let keeps = filter (λ i. not (has_id_of old i)) items in
    subst (λ (i : ExtentItem). AreItems (keeps ++ i ∷ []) (put (without_first k held) e)) is
    (items-put (without_first k held) e keeps (record { small = sym (drop-map extent_item k held.small) ∙ ap (drop k) are.small ∙ sym takes.some; big = are.big ∙ sym takes.others }))

held_merged : (k : ℕ) (e : ExtentView) (h : HeldTable) (s : TableState) (old : List ℕ) (new : ℕ) → IsHeld h s → widened_records h.table.schema e.records ≡ widened_records h.table.schema (records_in (take k h.extents.small)) → Takes is_small_item k s.items old
    → extent_item e ≡ united new (filter (has_id_of old) s.items) → IsHeld (with_merged k e h) (state_merged old new s)
held_merged k e h s old new held records takes is =
    let fields = h.table.schema in
    let now = put (without_first k h.extents) e in
    record {
      table = held.table;
      once = subst (λ (rs : List Record). IsPermutation rs s.records) (sym (held_records-wide fields now))
          (IsPermutation-trans (widened_records fields (held_records now)) (widened_records fields (held_records h.extents)) s.records (records_apart fields k h.extents e records)
          (subst (λ (rs : List Record). IsPermutation rs s.records) (held_records-wide fields h.extents) held.once));
      in_order = items_merged k h.extents e s.items old new held.in_order takes is;
      typed = held.typed;
    }

-- ---- what was picked, later

all_left : {X : Type 0} (P : X → Type 0) (xs ys : List X) → All P (xs ++ ys) → All P xs
all_left P xs ys all = λ k d h. subst P (get_or_append_left xs ys d k h) (all k d (let n = length-append xs ys in omega (arith, n, h)))

-- the records of the first small extents are the table's
pub first_rows : (rs : List Record) (held : HeldExtents) (n : ℕ) → IsPermutation (held_records held) rs → All (Contains rs) (records_in (take n held.small))
first_rows rs held n once =
    let P = Contains rs in
    let all : All P (held_records held) = All-permutation P rs (held_records held) (IsPermutation-sym (held_records held) rs once) (All-contains_itself rs) in
    let parts : records_in held.small ≡ records_in (take n held.small) ++ records_in (drop n held.small) =
    ap records_in (sym (take-append-drop n held.small)) ∙ flat_map-append (λ (e : ExtentView). e.records) (take n held.small) (drop n held.small) in
    all_left P (records_in (take n held.small)) (records_in (drop n held.small)) (subst (All P) parts (all_left P (records_in held.small) (records_in held.big) all))

-- the record ids of extents are those of their items
pub ids_in_items : (es : List ExtentView) → ids_of (records_in es) ≡ flat_map (λ (i : ExtentItem). i.records) (map extent_item es)
ids_in_items [] = refl
ids_in_items (e ∷ es) = map-append (λ (r : Record). r.id) e.records (records_in es) ∙ ap (λ (ids : List RecordId). ids_of e.records ++ ids) (ids_in_items es)

-- the extents that were picked still stand before the others
pub record Stands_first (h now : History) (t : ℕ) : Type 0 where
  pub more : List ExtentItem
  pub is : small_items now t ≡ small_items h t ++ more

-- the first small extent, the others, and the id of the first
record Begins (h : History) (t : ℕ) (old : List ℕ) : Type 0 where
  first : ExtentItem
  others : List ExtentItem
  rest : List ℕ
  small : small_items h t ≡ first ∷ others
  ids : old ≡ first.id ∷ rest

begins_with : (h : History) (t : ℕ) (old : List ℕ) (e : ExtentView) → IsUnion h t old e → Begins h t old
begins_with h t old e union = by_small (small_items h t) refl
  where
    taken : old ≡ item_ids (take union.count (small_items h t))
    taken = union.first ∙ ap item_ids (first_picked h t union.count union.within)

    by_count : (k : ℕ) → 2 ≤ k → (first : ExtentItem) (others : List ExtentItem) → small_items h t ≡ first ∷ others → old ≡ item_ids (take k (small_items h t)) → Begins h t old
    by_count zero some first others is ids = absurd (omega (arith, some))
    by_count (suc k) some first others is ids = record { first = first; others = others; rest = item_ids (take k others); small = is; ids = ids ∙ ap (λ (js : List ExtentItem). item_ids (take (suc k) js)) is }

    by_small : (js : List ExtentItem) → small_items h t ≡ js → Begins h t old
    by_small [] is = let few = length-take 64 (small_items h t) in let none = ap length is in absurd (omega (arith, union.some, union.within, few, none))
    by_small (first ∷ others) is = by_count union.count union.some first others is taken

same_head : (a b : ℕ) (ms ns : List ℕ) → a ∷ ms ≡ b ∷ ns → a ≡ b
same_head a b ms ns e = cc

pub stands_first : (c : CatalogView) (m : Merging) → Sound c → (picked_then : WasPicked (hist c) m) → IsInFront (small_items (hist c) m.table) m.old → Stands_first (take picked_then.place (hist c)) (hist c) m.table
stands_first c m sound picked_then front = by_small (small_items (hist c) t) refl
  where
    t : ℕ
    t = m.table

    h : History
    h = take picked_then.place (hist c)

    later : History
    later = drop picked_then.place (hist c)

    whole : h ++ later ≡ hist c
    whole = take-append-drop picked_then.place (hist c)

    begins : Begins h t m.old
    begins = begins_with h t m.old m.extent picked_then.union

    by_small : (js : List ExtentItem) → small_items (hist c) t ≡ js → Stands_first h (hist c) t
    by_small [] is = let none = sym (ap (comes_first front.id) is) ∙ front.front in cc
    by_small (now ∷ others) is =
        let id : front.id ≡ begins.first.id = same_head front.id begins.first.id front.others begins.rest (sym front.is ∙ begins.ids) in
        let same : now.id ≡ front.id = eqb-true now.id front.id (sym (ap (comes_first front.id) is) ∙ front.front) in
        let goes : Goes_on begins.first begins.others (h ++ later) t =
        still_first c.limits h later t begins.first now begins.others others (subst (AreLawful c.limits) (sym whole) sound.lawful) begins.small (ap (λ (g : History). small_items g t) whole ∙ is) (same ∙ id) in
        record { more = goes.more; is = ap (λ (g : History). small_items g t) (sym whole) ∙ goes.is ∙ ap (λ (js : List ExtentItem). js ++ goes.more) (sym begins.small) }

-- what is known of a merge whose old extents still stand first
pub record IsMergedNow (c : CatalogView) (m : Merging) (x : HeldTable) : Type 0 where
  pub within : length m.old ≤ length x.extents.small
  pub lawful : IsMerge (hist c) m.table m.old (1 + extents_made (hist c))
  pub records : widened_records x.table.schema m.extent.records ≡ widened_records x.table.schema (records_in (take (length m.old) x.extents.small))
  pub takes : Takes is_small_item (length m.old) (extents (hist c) m.table) m.old
  pub item : (new : ℕ) → extent_item (record { id = new; records = m.extent.records; tags = m.extent.tags }) ≡ united new (filter (has_id_of m.old) (extents (hist c) m.table))

pub merged_now : (c : CatalogView) (m : Merging) (x : HeldTable) → Sound c → WasPicked (hist c) m → IsInFront (small_items (hist c) m.table) m.old → slice_get c.held m.table ≡ Some x → IsMergedNow c m x
merged_now c m x sound picked_then front at = record {
  within = omega (arith, long, inside, small_long);
  lawful = record { count = k; some = union.some; within = still; first = ids; next = refl };
  records = same_by_ids (log (hist c)) t (widened_records fields m.extent.records) (widened_records fields (records_in (take (length m.old) x.extents.small))) old_rows held_rows
      (widened_records-ids fields m.extent.records ∙ same_ids ∙ sym (widened_records-ids fields (records_in (take (length m.old) x.extents.small))));
  takes = takes;
  item = λ new. (λ i. record { id = new; records = ap (λ (j : ExtentItem). j.records) union.same i; tags = ap (λ (j : ExtentItem). j.tags) union.same i }) ∙ ap (united new) (sym gone);
}
  where
    t : ℕ
    t = m.table

    h : History
    h = take picked_then.place (hist c)

    fields : List Field
    fields = x.table.schema

    union : IsUnion h t m.old m.extent
    union = picked_then.union

    k : ℕ
    k = union.count

    stands : Stands_first h (hist c) t
    stands = stands_first c m sound picked_then front

    held : IsHeld x (record { table = x.table; records = records (log (hist c)) t; items = extents (hist c) t })
    held = held_at c t x sound at

    inside : k ≤ length (small_items h t)
    inside = let few = length-take 64 (small_items h t) in omega (arith, union.within, few)

    taken : take k (small_items (hist c) t) ≡ take k (picked h t)
    taken = ap (take k) stands.is ∙ take-append-le k (small_items h t) stands.more inside ∙ sym (first_picked h t k union.within)

    still : k ≤ length (picked (hist c) t)
    still =
        let before = length-take 64 (small_items h t) in
        let now = length-take 64 (small_items (hist c) t) in
        let more = ap length stands.is ∙ length-append (small_items h t) stands.more in
        omega (arith, union.within, before, now, more)

    same_picked : take k (picked (hist c) t) ≡ take k (picked h t)
    same_picked = first_picked (hist c) t k still ∙ taken

    ids : m.old ≡ item_ids (take k (picked (hist c) t))
    ids = union.first ∙ ap item_ids (sym same_picked)

    long : length m.old ≡ k
    long = ap length union.first ∙ length-map (take k (picked h t)) (λ (i : ExtentItem). i.id) ∙ length-take-le k (picked h t) union.within

    small_long : length (small_items h t) ≤ length x.extents.small
    small_long =
        let same = sym (length-map x.extents.small extent_item) ∙ ap length held.in_order.small in
        let more = ap length stands.is ∙ length-append (small_items h t) stands.more in
        omega (arith, same, more)

    takes : Takes is_small_item (length m.old) (extents (hist c) t) m.old
    takes =
        subst (λ (n : ℕ). Takes is_small_item n (extents (hist c) t) m.old) (sym long)
        (subst (Takes is_small_item k (extents (hist c) t)) (sym ids) (merge-takes c.limits (hist c) t k sound.lawful still))

    gone : filter (has_id_of m.old) (extents (hist c) t) ≡ take k (picked h t)
    gone = takes.gone ∙ ap (λ (n : ℕ). take n (small_items (hist c) t)) long ∙ taken

    old_rows : All (Contains (records (log (hist c)) t)) (widened_records fields m.extent.records)
    old_rows =
        let later = log (drop picked_then.place (hist c)) in
        let whole : log h ++ later ≡ log (hist c) = sym (log-append h (drop picked_then.place (hist c))) ∙ ap log (take-append-drop picked_then.place (hist c)) in
        let all : All (Contains (records (log (hist c)) t)) (widened_records (schema_of (log (hist c)) t) m.extent.records) =
        subst (λ (l : Log). All (Contains (records l t)) (widened_records (schema_of l t) m.extent.records)) whole (records-go_on (log h) later t m.extent.records union.rows) in
        subst (λ (fs : List Field). All (Contains (records (log (hist c)) t)) (widened_records fs m.extent.records)) (schema_held c t x sound at) all

    held_rows : All (Contains (records (log (hist c)) t)) (widened_records fields (records_in (take (length m.old) x.extents.small)))
    held_rows =
        let n = length m.old in
        let wider : records_in (take n (map (wide fields) x.extents.small)) ≡ widened_records fields (records_in (take n x.extents.small)) =
        ap records_in (take-map (wide fields) n x.extents.small) ∙ records_in-wide fields (take n x.extents.small) in
        subst (All (Contains (records (log (hist c)) t))) wider (first_rows (records (log (hist c)) t) (wide_held fields x.extents) n held.once)

    same_ids : ids_of m.extent.records ≡ ids_of (records_in (take (length m.old) x.extents.small))
    same_ids =
        let records_of : List ExtentItem → List RecordId = flat_map (λ (i : ExtentItem). i.records) in
        ap (λ (i : ExtentItem). i.records) union.same ∙ ap records_of (sym taken ∙ ap (take k) (sym held.in_order.small) ∙ take-map extent_item k x.extents.small)
        ∙ sym (ids_in_items (take k x.extents.small)) ∙ ap (λ (n : ℕ). ids_of (records_in (take n x.extents.small))) (sym long)

-- the first of the old extents is gone where it isn't in front
pub gone_now : (c : CatalogView) (m : Merging) (id : ℕ) (others : List ℕ) → Sound c → WasPicked (hist c) m → m.old ≡ id ∷ others → comes_first id (small_items (hist c) m.table) ≡ false → IsGone (hist c) m id
gone_now c m id others sound picked_then is not_front =
    let t = m.table in
    let h = take picked_then.place (hist c) in
    let later = drop picked_then.place (hist c) in
    let whole : h ++ later ≡ hist c = take-append-drop picked_then.place (hist c) in
    let begins = begins_with h t m.old m.extent picked_then.union in
    let same : begins.first.id ≡ id = same_head begins.first.id id begins.rest others (sym begins.ids ∙ is) in
    let other : (js : List ExtentItem) (now : ExtentItem) → small_items (h ++ later) t ≡ now ∷ js → now.id ≡ begins.first.id → ⊥ =
    λ js now front equal.
    let here : comes_first id (now ∷ js) ≡ false = ap (comes_first id) (sym front ∙ ap (λ (g : History). small_items g t) whole) ∙ not_front in
    let there : nat_eq now.id id ≡ true = eq-eqb now.id id (equal ∙ same) in
    true≢false (sym there ∙ here) in
    let gone = gone_after c.limits h later t begins.first begins.others (subst (AreLawful c.limits) (sym whole) sound.lawful) begins.small other in
    record { others = others; is = is; gone = ap (λ (n : ℕ). list_any (nat_eq n) (item_ids (extents (hist c) t))) (sym same) ∙ ap (λ (g : History). list_any (nat_eq begins.first.id) (item_ids (extents g t))) (sym whole) ∙ gone }

-- the first of the small extents that are held is the history's first
pub front_some : (id : ℕ) (small : List ExtentView) (items : List ExtentItem) (e : ExtentView) → map extent_item small ≡ items → slice_get small 0 ≡ Some e → nat_eq e.id id ≡ comes_first id items
front_some id [] items e are is = cc
front_some id (x ∷ small) items e are is = let same : e ≡ x = cc in ap (λ (y : ExtentView). nat_eq y.id id) same ∙ ap (comes_first id) are

-- there is a first old extent
pub first_id : (c : CatalogView) (m : Merging) → WasPicked (hist c) m → m.old ≡ slice_index_or m.old 0 0 ∷ drop 1 m.old
first_id c m picked_then =
    let begins = begins_with (take picked_then.place (hist c)) m.table m.old m.extent picked_then.union in
    begins.ids ∙ ap (λ (ns : List ℕ). slice_index_or ns 0 0 ∷ drop 1 ns) (sym begins.ids)

-- the table stands
pub table_stands : (c : CatalogView) (m : Merging) → Sound c → WasPicked (hist c) m → m.table < length (tables (log (hist c)))
table_stands c m sound picked_then = by_test (nat_lt m.table (length (tables (log h)))) refl
  where
    h : History
    h = take picked_then.place (hist c)

    later : History
    later = drop picked_then.place (hist c)

    whole : h ++ later ≡ hist c
    whole = take-append-drop picked_then.place (hist c)

    longer : length (tables (log h)) ≤ length (tables (log (hist c)))
    longer =
        subst (λ (g : History). length (tables (log h)) ≤ length (tables (log g))) whole (tables-stay h later)

    by_test : (b : Bool) → nat_lt m.table (length (tables (log h))) ≡ b → m.table < length (tables (log (hist c)))
    by_test true is = let within = ltb-true m.table (length (tables (log h))) is in omega (arith, within, longer)
    by_test false is =
        let past = ltb-false m.table (length (tables (log h))) is in
        let lawful = lawful_parts c.limits h later (subst (AreLawful c.limits) (sym whole) sound.lawful) in
        let none = ap (λ (js : List ExtentItem). length (take 64 (filter is_small_item js))) (no_items c.limits h lawful.0 m.table past) in
        absurd (omega (arith, picked_then.union.some, picked_then.union.within, none))

some_held : {X : Type 0} (n : ℕ) (xs : List X) → n < length xs → (x : X) × (slice_get xs n ≡ Some x)
some_held n [] within = absurd (omega (arith, within))
some_held zero (x ∷ xs) within = (x, refl)
some_held (suc n) (x ∷ xs) within = some_held n xs (omega (arith, within))

pub merge_lawful : (c : CatalogView) (m : Merging) → Sound c → WasPicked (hist c) m → IsInFront (small_items (hist c) m.table) m.old → IsMerge (hist c) m.table m.old (1 + extents_made (hist c))
merge_lawful c m sound picked_then front =
    let stands = table_stands c m sound picked_then in
    let held = some_held m.table c.held (let n = count_held c sound in omega (arith, stands, n)) in
    (merged_now c m held.0 sound picked_then front held.1).lawful

-- ---- the catalogue

-- the items of a table's state are the history's
items_at : (h : History) (n i k : ℕ) (ts : List Table) (s : TableState) → k ≡ n + i → slice_get (states_from n ts h) i ≡ Some s → s.items ≡ extents h k
items_at h n i k [] s at is = cc
items_at h n zero k (t ∷ ts) s at is = let same : s.items ≡ extents h n = cc in same ∙ ap (extents h) (omega (arith, at))
items_at h n (suc i) k (t ∷ ts) s at is = items_at h (n + 1) i k ts s (omega (arith, at)) is

-- a catalogue after a merge
pub HoldsHistory-merge : (c : CatalogView) (cursor made : ℕ) (by : By) (m : Merging) (index : List Entry) → HoldsHistory c cursor made index → WasPicked (hist c) m → IsInFront (small_items (hist c) m.table) m.old
    → HoldsHistory (record {
      limits = c.limits;
      history = hist c ++ merge_event by (1 + extents_made (hist c)) m ∷ [];
      held = changed (with_merged (length m.old) (record { id = 1 + extents_made (hist c); records = m.extent.records; tags = m.extent.tags })) m.table c.held;
      policies = c.policies;
      views = c.views;
      failures = c.failures;
    }) cursor (made + 1) index
HoldsHistory-merge c cursor made by m index holds picked_then front =
    let h = hist c in
    let new = 1 + extents_made h in
    let event = merge_event by new m in
    let e : ExtentView = record { id = new; records = m.extent.records; tags = m.extent.tags } in
    let logged : log (h ++ event ∷ []) ≡ log h = log-push h event ∙ append-nil (log h) in
    let keeps : (x : HeldTable) (s : TableState) → slice_get c.held m.table ≡ Some x → slice_get (table_states h) m.table ≡ Some s → IsHeld x s → IsHeld (with_merged (length m.old) e x) (state_merged m.old new s) =
    λ x s at state is.
    let now = merged_now c m x holds.sound picked_then front at in
    let items = items_at h 0 m.table m.table (tables (log h)) s (sym (zero-add m.table)) state in
    held_merged (length m.old) e x s m.old new is now.records (subst (λ (js : List ExtentItem). Takes is_small_item (length m.old) js m.old) (sym items) now.takes)
    (now.item new ∙ ap (λ (js : List ExtentItem). united new (filter (has_id_of m.old) js)) (sym items)) in
    record {
      sound = record {
        tables = subst (AllZip IsHeld (changed (with_merged (length m.old) e) m.table c.held)) (sym (table_states-merge h event m.table m.old new refl))
            (AllZip-changed_at IsHeld (with_merged (length m.old) e) (state_merged m.old new) m.table c.held (table_states h) keeps holds.sound.tables);
        policies = holds.sound.policies ∙ ap policies (sym logged);
        views = views-merge c.limits h event m.table m.old new c.views holds.sound.lawful holds.sound.views refl;
        failures = holds.sound.failures ∙ ap noted (sym logged);
        lawful = AreLawful-push c.limits h event holds.sound.lawful (record { operation = merge_lawful c m holds.sound picked_then front });
      };
      count = holds.count ∙ ap length (sym logged);
      made_count = ap (λ (n : ℕ). n + 1) holds.made_count ∙ sym (extents_made-push h event);
      tags = subst (TellsTags index) (sym logged) holds.tags;
    }
