-- Each change keeps that of each table is held what the history says of it.
use Rattle.std.proofs.Common.{◌≡◌, refl, subst, ℕ, zero, suc, Bool, true, false, cond, not, List, [], ◌∷◌, ◌++◌, All, map, nat_lt, Some, ap, sym, ◌∙◌, append_assoc, append-nil}
use Rattle.std.specs.Arc.{arc_value}
use Rattle.std.specs.List.{AllZip, filter, slice_get}
use Rattle.std.specs.List.Sorted.{IsPermutation}
use Rattle.std.specs.Option.{option_map}
use Rattle.std.proofs.lemmas.Grind.{flat_map-append}
use Rattle.std.proofs.lemmas.List.{map-append, map_push, length-map}
use Rattle.std.proofs.lemmas.List.Elements.{filter-append, All-append, All-nil}
use Rattle.std.proofs.lemmas.List.Sorted.{IsPermutation-refl, IsPermutation-trans, IsPermutation-map, IsPermutation-append_left, IsPermutation-append_right, IsPermutation-append_comm}
use Rattle.std.proofs.lemmas.Option.{slice_get-map}
use Rattle.kq_value.specs.declared.record.Record.{Record}
use Rattle.kq_value.specs.declared.schema.Field.{Field}
use Rattle.kq_value.specs.Typed.{HasTypes}
use Rattle.kq_store_rows.specs.Widened.{widened_record, widened_records}
use Rattle.kq_store_rows.proofs.WidenedLemmas.{widened_records-same, widened_records-twice, widened_records-typed}
use Rattle.kq_store_extent.specs.Seen.{ExtentView, HeldExtents, held_records, records_in, row_of}
use Rattle.kq_store_extent.specs.Split.{is_small, put}
use Rattle.kq_store_extent.specs.Wide.{wide, wide_held}
use Rattle.kq_store_extent.proofs.Wide.{held_records-wide}
use Rattle.kq_catalog_journal.specs.declared.table.Table.{Table}
use Rattle.kq_catalog_journal.specs.Edits.{changed, tables_after, FitsTables, FitAll}
use Rattle.kq_catalog_journal.proofs.Edited.{edited, edited_by, empty_state, with_records, with_columns}
use Rattle.kq_catalog_journal.specs.Records.{ExtentItem, is_small_item}
use Rattle.kq_catalog_journal.specs.Tables.{TableState}
use Rattle.kq_catalog.specs.declared.edit.Change.{Change}
use Rattle.kq_catalog.specs.declared.edit.Change.TheVariants.{PutTable, PutExtent, PutColumns}
use Rattle.kq_catalog.specs.Edits.{edit_of, edits_by, empty_table, with_extent, put_in, put_all, wider_table}
use Rattle.kq_catalog.specs.Held.{HeldTable, tables_in, extent_item, AreItems, IsHeld}
use Rattle.kq_catalog_journal.specs.Changed.{changed}
use Rattle.kq_catalog_journal.specs.History.{widened_table}

-- a change at one place keeps a relation at each
pub AllZip-changed : {X Y : Type 0} (R : X → Y → Type 0) (f : X → X) (g : Y → Y) (n : ℕ) (xs : List X) (ys : List Y) → ((x : X) (y : Y) → slice_get xs n ≡ Some x → R x y → R (f x) (g y)) → AllZip R xs ys → AllZip R (changed f n xs) (changed g n ys)
AllZip-changed R f g n [] [] keeps all = all
AllZip-changed R f g n [] (y ∷ ys) keeps all = absurd all
AllZip-changed R f g n (x ∷ xs) [] keeps all = absurd all
AllZip-changed R f g zero (x ∷ xs) (y ∷ ys) keeps all = (keeps x y refl all.0, all.1)
AllZip-changed R f g (suc n) (x ∷ xs) (y ∷ ys) keeps all = (all.0, AllZip-changed R f g n xs ys keeps all.1)

-- the same, where something is known of what stands there
pub AllZip-changed_at : {X Y : Type 0} (R : X → Y → Type 0) (f : X → X) (g : Y → Y) (n : ℕ) (xs : List X) (ys : List Y) → ((x : X) (y : Y) → slice_get xs n ≡ Some x → slice_get ys n ≡ Some y → R x y → R (f x) (g y)) → AllZip R xs ys
    → AllZip R (changed f n xs) (changed g n ys)
AllZip-changed_at R f g n [] [] keeps all = all
AllZip-changed_at R f g n [] (y ∷ ys) keeps all = absurd all
AllZip-changed_at R f g n (x ∷ xs) [] keeps all = absurd all
AllZip-changed_at R f g zero (x ∷ xs) (y ∷ ys) keeps all = (keeps x y refl refl all.0, all.1)
AllZip-changed_at R f g (suc n) (x ∷ xs) (y ∷ ys) keeps all = (all.0, AllZip-changed_at R f g n xs ys keeps all.1)

-- and so does a pair put last
pub AllZip-last : {X Y : Type 0} (R : X → Y → Type 0) (xs : List X) (ys : List Y) (x : X) (y : Y) → AllZip R xs ys → R x y → AllZip R (xs ++ x ∷ []) (ys ++ y ∷ [])
AllZip-last R [] [] x y all last = (last, all)
AllZip-last R [] (v ∷ ys) x y all last = absurd all
AllZip-last R (u ∷ xs) [] x y all last = absurd all
AllZip-last R (u ∷ xs) (v ∷ ys) x y all last = (all.0, AllZip-last R xs ys x y all.1 last)

-- a change that keeps a part keeps that part of each
pub map-changed : {X Y : Type 0} (g : X → Y) (f : X → X) (n : ℕ) (xs : List X) → ((x : X) → g (f x) ≡ g x) → map g (changed f n xs) ≡ map g xs
map-changed g f n [] keeps = refl
map-changed g f zero (x ∷ xs) keeps = ap (λ y. y ∷ map g xs) (keeps x)
map-changed g f (suc n) (x ∷ xs) keeps = ap (λ ys. g x ∷ ys) (map-changed g f n xs keeps)

-- changes that agree on a part make the same of that part
pub map-changed_both : {X Y : Type 0} (g : X → Y) (f : X → X) (k : Y → Y) (n : ℕ) (xs : List X) → ((x : X) → g (f x) ≡ k (g x)) → map g (changed f n xs) ≡ changed k n (map g xs)
map-changed_both g f k n [] agree = refl
map-changed_both g f k zero (x ∷ xs) agree = ap (λ y. y ∷ map g xs) (agree x)
map-changed_both g f k (suc n) (x ∷ xs) agree = ap (λ ys. g x ∷ ys) (map-changed_both g f k n xs agree)

records_in-push : (es : List ExtentView) (e : ExtentView) → records_in (es ++ e ∷ []) ≡ records_in es ++ e.records
records_in-push es e = flat_map-append (λ (x : ExtentView). x.records) es (e ∷ []) ∙ ap (λ (rs : List Record). records_in es ++ rs) (append-nil e.records)

-- an extent more has its records more
pub records-put : (held : HeldExtents) (e : ExtentView) (rs : List Record) → IsPermutation (held_records held) rs → IsPermutation (held_records (put held e)) (rs ++ e.records)
records-put held e rs once = by_test (is_small e)
  where
    small : List Record
    small = records_in held.small

    big : List Record
    big = records_in held.big

    last : IsPermutation (small ++ (big ++ e.records)) (rs ++ e.records)
    last = subst (λ (xs : List Record). IsPermutation xs (rs ++ e.records)) (append_assoc small big e.records) (IsPermutation-append_left e.records (small ++ big) rs once)

    between : IsPermutation (small ++ (e.records ++ big)) (rs ++ e.records)
    between = IsPermutation-trans (small ++ (e.records ++ big)) (small ++ (big ++ e.records)) (rs ++ e.records) (IsPermutation-append_right small (e.records ++ big) (big ++ e.records) (IsPermutation-append_comm e.records big)) last

    by_test : (b : Bool) → IsPermutation (held_records (cond b (record { small = held.small ++ e ∷ []; big = held.big }) (record { small = held.small; big = held.big ++ e ∷ [] }))) (rs ++ e.records)
    by_test true =
        subst (λ (xs : List Record). IsPermutation xs (rs ++ e.records)) (sym (ap (λ (xs : List Record). xs ++ big) (records_in-push held.small e) ∙ append_assoc small e.records big)) between
    by_test false = subst (λ (xs : List Record). IsPermutation xs (rs ++ e.records)) (sym (ap (λ (xs : List Record). small ++ xs) (records_in-push held.big e))) last

is_small-wide : (fields : List Field) (e : ExtentView) → is_small (wide fields e) ≡ is_small e
is_small-wide fields e = ap (λ (n : ℕ). nat_lt n 4096) (length-map e.records (widened_record fields))

-- an extent more, widened, is one more of those that are widened
wide_held-put : (fields : List Field) (held : HeldExtents) (e : ExtentView) → put (wide_held fields held) (wide fields e) ≡ wide_held fields (put held e)
wide_held-put fields held e = ap by_size (is_small-wide fields e) ∙ by_test (is_small e)
  where
    by_size : Bool → HeldExtents
    by_size b = cond b (record { small = map (wide fields) held.small ++ wide fields e ∷ []; big = map (wide fields) held.big }) (record { small = map (wide fields) held.small; big = map (wide fields) held.big ++ wide fields e ∷ [] })

    by_test : (b : Bool) → by_size b ≡ wide_held fields (cond b (record { small = held.small ++ e ∷ []; big = held.big }) (record { small = held.small; big = held.big ++ e ∷ [] }))
    by_test true = ap (λ (es : List ExtentView). let wider : HeldExtents = record { small = es; big = map (wide fields) held.big } in wider) (sym (map_push (wide fields) held.small e))
    by_test false = ap (λ (es : List ExtentView). let wider : HeldExtents = record { small = map (wide fields) held.small; big = es } in wider) (sym (map_push (wide fields) held.big e))

is_small-item : (e : ExtentView) → is_small_item (extent_item e) ≡ is_small e
is_small-item e = ap (λ (n : ℕ). nat_lt n 4096) (length-map e.records (λ (r : Record). r.id))

abbrev is_big_item : ExtentItem → Bool
is_big_item i = not (is_small_item i)

-- and is an item more
pub items-put : (held : HeldExtents) (e : ExtentView) (items : List ExtentItem) → AreItems items held → AreItems (items ++ extent_item e ∷ []) (put held e)
items-put held e items are = by_test (is_small e) refl
  where
    by_test : (b : Bool) → is_small e ≡ b → AreItems (items ++ extent_item e ∷ []) (cond b (record { small = held.small ++ e ∷ []; big = held.big }) (record { small = held.small; big = held.big ++ e ∷ [] }))
    by_test true is = record {
      small = map_push extent_item held.small e ∙ ap (λ (xs : List ExtentItem). xs ++ extent_item e ∷ []) are.small
          ∙ sym (filter-append is_small_item items (extent_item e ∷ []) ∙ ap (λ (b : Bool). filter is_small_item items ++ cond b (extent_item e ∷ []) []) (is_small-item e ∙ is));
      big = are.big ∙ sym (filter-append is_big_item items (extent_item e ∷ []) ∙ ap (λ (b : Bool). filter is_big_item items ++ cond (not b) (extent_item e ∷ []) []) (is_small-item e ∙ is) ∙ append-nil (filter is_big_item items));
    }
    by_test false is = record {
      small = are.small ∙ sym (filter-append is_small_item items (extent_item e ∷ []) ∙ ap (λ (b : Bool). filter is_small_item items ++ cond b (extent_item e ∷ []) []) (is_small-item e ∙ is) ∙ append-nil (filter is_small_item items));
      big = map_push extent_item held.big e ∙ ap (λ (xs : List ExtentItem). xs ++ extent_item e ∷ []) are.big
          ∙ sym (filter-append is_big_item items (extent_item e ∷ []) ∙ ap (λ (b : Bool). filter is_big_item items ++ cond (not b) (extent_item e ∷ []) []) (is_small-item e ∙ is));
    }

-- an extent more of a table
held_extent : (e : ExtentView) (h : HeldTable) (s : TableState) → All (HasTypes s.table.schema) (map row_of e.records) → IsHeld h s → IsHeld (with_extent e h) (with_records e.id e.records e.tags s)
held_extent e h s typed is =
    let fields = s.table.schema in
    let same : widened_records fields e.records ≡ e.records = widened_records-same fields e.records typed in
    let here : widened_records h.table.schema e.records ≡ widened_records fields e.records = ap (λ (t : Table). widened_records t.schema e.records) is.table in
    record {
      table = is.table;
      once = subst (λ (held : HeldExtents). IsPermutation (held_records held) (s.records ++ widened_records fields e.records)) (wide_held-put h.table.schema h.extents e)
          (subst (λ (rs : List Record). IsPermutation (held_records (put (wide_held h.table.schema h.extents) (wide h.table.schema e))) (s.records ++ rs)) here
          (records-put (wide_held h.table.schema h.extents) (wide h.table.schema e) s.records is.once));
      in_order = items-put h.extents e s.items is.in_order;
      typed = subst (All (HasTypes fields)) (sym (ap (λ (rs : List Record). map row_of (s.records ++ rs)) same ∙ map-append row_of s.records e.records))
          (All-append (HasTypes fields) (map row_of s.records) (map row_of e.records) is.typed typed);
    }

-- further columns of a table
held_columns : (cursor : ℕ) (columns : List Field) (h : HeldTable) (s : TableState) → IsHeld h s → IsHeld (wider_table cursor columns h) (with_columns cursor columns s)
held_columns cursor columns h s is =
    let old = h.table.schema in
    let all = old ++ columns in
    let kept = held_records h.extents in
    let before : IsPermutation (widened_records old kept) s.records = subst (λ (rs : List Record). IsPermutation rs s.records) (held_records-wide old h.extents) is.once in
    let after : IsPermutation (widened_records all kept) (widened_records all s.records) =
    subst (λ (rs : List Record). IsPermutation rs (widened_records all s.records)) (widened_records-twice old columns kept) (IsPermutation-map (widened_record all) (widened_records old kept) s.records before) in
    record {
      table = ap (widened_table cursor columns) is.table;
      once = subst (λ (fields : List Field). IsPermutation (held_records (wide_held all h.extents)) (widened_records fields s.records)) (ap (λ (t : Table). t.schema ++ columns) is.table)
          (subst (λ (rs : List Record). IsPermutation rs (widened_records all s.records)) (sym (held_records-wide all h.extents)) after);
      in_order = is.in_order;
      typed = widened_records-typed s.table.schema columns s.records is.typed;
    }

-- a new table
held_table : (t : Table) → IsHeld (empty_table t) (empty_state t)
held_table t = record { table = refl; once = IsPermutation-refl []; in_order = record { small = refl; big = refl }; typed = All-nil (HasTypes t.schema) }

one_change : (c : Change) (hs : List HeldTable) (ss : List TableState) → AllZip IsHeld hs ss → FitsTables (tables_in hs) (edit_of c) → AllZip IsHeld (put_in hs c) (edited ss (edit_of c))
one_change (PutTable table) hs ss all fits = AllZip-last IsHeld hs ss (empty_table (arc_value table)) (empty_state (arc_value table)) all (held_table (arc_value table))
one_change (PutColumns n cursor columns) hs ss all fits =
    AllZip-changed IsHeld (wider_table cursor columns) (with_columns cursor columns) n hs ss (λ h s at is. held_columns cursor columns h s is) all
one_change (PutExtent n extent) hs ss all fits =
    let e = arc_value extent in
    AllZip-changed IsHeld (with_extent e) (with_records e.id e.records e.tags) n hs ss
    (λ h s at is. held_extent e h s
    (subst (λ (t : Table). All (HasTypes t.schema) (map row_of e.records)) is.table (fits.1 h.table (slice_get-map (λ (x : HeldTable). x.table) hs n ∙ ap (option_map (λ (x : HeldTable). x.table)) at))) is) all

-- the tables after a change
pub tables_in-put : (c : Change) (hs : List HeldTable) → tables_in (put_in hs c) ≡ tables_after (tables_in hs) (edit_of c)
tables_in-put (PutTable table) hs = map_push (λ (h : HeldTable). h.table) hs (empty_table (arc_value table))
tables_in-put (PutColumns n cursor columns) hs = map-changed_both (λ (h : HeldTable). h.table) (wider_table cursor columns) (widened_table cursor columns) n hs (λ h. refl)
tables_in-put (PutExtent n extent) hs = map-changed (λ (h : HeldTable). h.table) (with_extent (arc_value extent)) n hs (λ h. refl)

-- all changes of a commit
pub all_changes : (cs : List Change) (hs : List HeldTable) (ss : List TableState) → AllZip IsHeld hs ss → FitAll (tables_in hs) (edits_by cs) → AllZip IsHeld (put_all hs cs) (edited_by ss (edits_by cs))
all_changes [] hs ss all fits = all
all_changes (c ∷ cs) hs ss all fits =
    all_changes cs (put_in hs c) (edited ss (edit_of c)) (one_change c hs ss all fits.0) (subst (λ (ts : List Table). FitAll ts (edits_by cs)) (sym (tables_in-put c hs)) fits.1)
