-- The tables of a history with one more event are those before it, edited.
use Rattle.std.proofs.Common.{◌≡◌, ◌≢◌, ◌≤◌, ◌⊎◌, inl, inr, refl, ℕ, zero, suc, ◌+◌, Bool, true, false, cond, List, [], ◌∷◌, ◌++◌, length, map, nat_eq, ap, sym, ◌∙◌, append_assoc, append-nil, add-zero, zero-add, arith}
use Rattle.std.proofs.lemmas.Bool.{eq-eqb, ne_eqb}
use Rattle.std.proofs.lemmas.Bool.Decides.{eqb_tells}
use Rattle.std.proofs.lemmas.List.{map-append}
use Rattle.kq_value.specs.declared.record.Record.{Record}
use Rattle.kq_value.specs.declared.schema.Field.{Field}
use Rattle.kq_store_rows.specs.Widened.{widened_record, widened_records}
use Rattle.kq_store_rows.proofs.WidenedLemmas.{widened_records-twice}
use Rattle.kq_store_rows.specs.Numbered.{numbered}
use Rattle.kq_catalog_journal.specs.declared.batch.Batch.{Batch}
use Rattle.kq_catalog_journal.specs.declared.limits.Limits.{Limits}
use Rattle.kq_catalog_journal.specs.declared.table.Table.{Table}
use Rattle.kq_catalog_journal.specs.declared.event.Commit.{Commit}
use Rattle.kq_catalog_journal.specs.declared.event.Commit.TheVariants.{CreateTable, SetPolicy, CreateView, AlterMerge, Ingest}
use Rattle.kq_catalog_journal.specs.declared.event.Event.{Event}
use Rattle.kq_catalog_journal.specs.declared.event.Operation.{Operation}
use Rattle.kq_catalog_journal.specs.declared.event.Operation.TheVariants as operation
use Rattle.kq_catalog_journal.specs.Edits.{edits_of, new_extents}
use Rattle.kq_catalog_journal.proofs.Edited.{edited_by, item_with, with_columns, with_merged, with_records}
use Rattle.kq_catalog_journal.specs.Changed.{changed}
use Rattle.kq_catalog_journal.specs.History.{History, Log, log, cursor, tables, widened_table, commits_of}
use Rattle.kq_catalog_journal.specs.Lawful.{AreLawful}
use Rattle.kq_catalog_journal.specs.Records.{records_given, extents, batch_records, commit_items, batch_items, items_after, batch_item, rows_to, extents_made, merged, ExtentItem}
use Rattle.kq_catalog_journal.specs.Tables.{TableState, states_from, table_states}
use Rattle.kq_catalog_journal.proofs.Bounded.{IsBounded-lawful, no_items}
use Rattle.kq_catalog_journal.proofs.Histories.{log-push, tables-push}
use Rattle.kq_catalog_journal.proofs.Records.{records-push, extents-push, rows_to-push}

-- a table with the records that it was given, widened to its columns, and with its extents
abbrev state_with : Table → List Record → List ExtentItem → TableState
state_with t rs is = record { table = t; records = widened_records t.schema rs; items = is }

-- the tables from a number on, with the records and items that two functions give
abbrev states_by : ℕ → List Table → (ℕ → List Record) → (ℕ → List ExtentItem) → List TableState
states_by n [] rs is = []
states_by n (t ∷ ts) rs is = state_with t (rs n) (is n) ∷ states_by (n + 1) ts rs is

-- functions that agree from the first number on give the same
states_same : (n : ℕ) (ts : List Table) (rs qs : ℕ → List Record) (is js : ℕ → List ExtentItem) → ((m : ℕ) → n ≤ m → rs m ≡ qs m) → ((m : ℕ) → n ≤ m → is m ≡ js m) → states_by n ts rs is ≡ states_by n ts qs js
states_same n [] rs qs is js same_rs same_is = refl
states_same n (t ∷ ts) rs qs is js same_rs same_is =
    ap (λ (x : List Record). state_with t x (is n) ∷ states_by (n + 1) ts rs is) (same_rs n (omega arith))
    ∙ ap (λ (x : List ExtentItem). state_with t (qs n) x ∷ states_by (n + 1) ts rs is) (same_is n (omega arith))
    ∙ ap (λ (ss : List TableState). state_with t (qs n) (js n) ∷ ss)
    (states_same (n + 1) ts rs qs is js (λ m past. same_rs m (omega (arith, past))) (λ m past. same_is m (omega (arith, past))))

states_from-by : (n : ℕ) (ts : List Table) (h : History) → states_from n ts h ≡ states_by n ts (records_given (log h)) (extents h)
states_from-by n [] h = refl
states_from-by n (t ∷ ts) h = ap (λ (ss : List TableState). state_with t (records_given (log h) n) (extents h n) ∷ ss) (states_from-by (n + 1) ts h)

states_by-last : (n : ℕ) (ts : List Table) (t : Table) (rs : ℕ → List Record) (is : ℕ → List ExtentItem) → states_by n (ts ++ t ∷ []) rs is ≡ states_by n ts rs is ++ state_with t (rs (n + length ts)) (is (n + length ts)) ∷ []
states_by-last n [] t rs is = ap (λ (k : ℕ). state_with t (rs k) (is k) ∷ []) (sym (add-zero n))
states_by-last n (x ∷ ts) t rs is =
    let same : n + 1 + length ts ≡ n + length (x ∷ ts) = omega arith in
    ap (λ (ss : List TableState). state_with x (rs n) (is n) ∷ ss)
    (states_by-last (n + 1) ts t rs is ∙ ap (λ (k : ℕ). states_by (n + 1) ts rs is ++ state_with t (rs k) (is k) ∷ []) same)

-- what functions give when one table has more
abbrev more_records : ℕ → List Record → (ℕ → List Record) → ℕ → List Record
more_records k new rs m = rs m ++ cond (nat_eq k m) new []

abbrev more_items : ℕ → ExtentItem → (ℕ → List ExtentItem) → ℕ → List ExtentItem
more_items k new is m = is m ++ cond (nat_eq k m) (new ∷ []) []

-- an extent more of the table that has the number j
one_extent : (n k j : ℕ) (ts : List Table) (rs : ℕ → List Record) (is : ℕ → List ExtentItem) (id : ℕ) (new : List Record) (tags : List (List ℕ)) → j ≡ n + k
    → changed (with_records id new tags) k (states_by n ts rs is) ≡ states_by n ts (more_records j new rs) (more_items j (item_with id new tags) is)
one_extent n k j [] rs is id new tags at = refl
one_extent n zero j (t ∷ ts) rs is id new tags at =
    let item = item_with id new tags in
    let here : nat_eq j n ≡ true = eq-eqb j n (omega (arith, at)) in
    let others : (m : ℕ) → n + 1 ≤ m → nat_eq j m ≡ false = λ m past. ne_eqb j m (λ same. absurd (omega (arith, at, past, same))) in
    let given : TableState = state_with t (rs n) (is n) in
    ap (λ (x : List Record). (record given { records = x; items = is n ++ item ∷ [] }) ∷ states_by (n + 1) ts rs is) (sym (map-append (widened_record t.schema) (rs n) new))
    ∙ ap (λ (b : Bool). state_with t (rs n ++ cond b new []) (is n ++ cond b (item ∷ []) []) ∷ states_by (n + 1) ts rs is) (sym here)
    ∙ ap (λ (ss : List TableState). state_with t (more_records j new rs n) (more_items j item is n) ∷ ss)
    (states_same (n + 1) ts rs (more_records j new rs) is (more_items j item is)
    (λ m past. sym (append-nil (rs m)) ∙ ap (λ (b : Bool). rs m ++ cond b new []) (sym (others m past)))
    (λ m past. sym (append-nil (is m)) ∙ ap (λ (b : Bool). is m ++ cond b (item ∷ []) []) (sym (others m past))))
one_extent n (suc k) j (t ∷ ts) rs is id new tags at =
    let item = item_with id new tags in
    let there : nat_eq j n ≡ false = ne_eqb j n (λ same. absurd (omega (arith, at, same))) in
    let rest = states_by (n + 1) ts (more_records j new rs) (more_items j item is) in
    ap (λ (ss : List TableState). state_with t (rs n) (is n) ∷ ss) (one_extent (n + 1) k j ts rs is id new tags (omega (arith, at)))
    ∙ ap (λ (x : List Record). state_with t x (is n) ∷ rest) (sym (append-nil (rs n)))
    ∙ ap (λ (x : List ExtentItem). state_with t (rs n ++ []) x ∷ rest) (sym (append-nil (is n)))
    ∙ ap (λ (b : Bool). state_with t (rs n ++ cond b new []) (is n ++ cond b (item ∷ []) []) ∷ rest) (sym there)

-- a batch gives its rows behind what was given
one_given : (xs : List Record) (m cursor : ℕ) (before : List Batch) (b : Batch) (bs : List Batch)
    → (xs ++ cond (nat_eq b.table m) (numbered cursor (rows_to b.table before) b.rows) []) ++ batch_records m cursor (rows_to m (before ++ b ∷ [])) bs ≡ xs ++ batch_records m cursor (rows_to m before) (b ∷ bs)
one_given xs m cursor before b bs =
    ap (λ (k : ℕ). (xs ++ cond (nat_eq b.table m) (numbered cursor (rows_to b.table before) b.rows) []) ++ batch_records m cursor k bs) (rows_to-push m before b) ∙ by_case (eqb_tells b.table m)
  where
    by_case : ((nat_eq b.table m ≡ true) × (b.table ≡ m)) ⊎ ((nat_eq b.table m ≡ false) × (b.table ≢ m))
        → (xs ++ cond (nat_eq b.table m) (numbered cursor (rows_to b.table before) b.rows) []) ++ batch_records m cursor (rows_to m before + cond (nat_eq b.table m) (length b.rows) 0) bs
        ≡ xs ++ cond (nat_eq b.table m) (numbered cursor (rows_to m before) b.rows ++ batch_records m cursor (rows_to m before + length b.rows) bs) (batch_records m cursor (rows_to m before) bs)
    by_case (inl h) =
        rw h.0
        (append_assoc xs (numbered cursor (rows_to b.table before) b.rows) (batch_records m cursor (rows_to m before + length b.rows) bs)
        ∙ ap (λ (k : ℕ). xs ++ (numbered cursor (rows_to k before) b.rows ++ batch_records m cursor (rows_to m before + length b.rows) bs)) h.1)
    by_case (inr h) =
        rw h.0
        (ap (λ (ys : List Record). ys ++ batch_records m cursor (rows_to m before + 0) bs) (append-nil xs) ∙ ap (λ (k : ℕ). xs ++ batch_records m cursor k bs) (add-zero (rows_to m before)))

-- and is an extent behind those that were there
one_item : (xs : List ExtentItem) (m cursor id : ℕ) (before : List Batch) (b : Batch) (bs : List Batch)
    → (xs ++ cond (nat_eq b.table m) (item_with id (numbered cursor (rows_to b.table before) b.rows) b.tags ∷ []) []) ++ batch_items m cursor (rows_to m (before ++ b ∷ [])) (id + 1) bs ≡ xs ++ batch_items m cursor (rows_to m before) id (b ∷ bs)
one_item xs m cursor id before b bs =
    ap (λ (k : ℕ). (xs ++ cond (nat_eq b.table m) (item_with id (numbered cursor (rows_to b.table before) b.rows) b.tags ∷ []) []) ++ batch_items m cursor k (id + 1) bs) (rows_to-push m before b) ∙ by_case (eqb_tells b.table m)
  where
    by_case : ((nat_eq b.table m ≡ true) × (b.table ≡ m)) ⊎ ((nat_eq b.table m ≡ false) × (b.table ≢ m))
        → (xs ++ cond (nat_eq b.table m) (item_with id (numbered cursor (rows_to b.table before) b.rows) b.tags ∷ []) []) ++ batch_items m cursor (rows_to m before + cond (nat_eq b.table m) (length b.rows) 0) (id + 1) bs
        ≡ xs ++ cond (nat_eq b.table m) (batch_item id cursor (rows_to m before) b ∷ batch_items m cursor (rows_to m before + length b.rows) (id + 1) bs) (batch_items m cursor (rows_to m before) (id + 1) bs)
    by_case (inl h) =
        rw h.0
        (append_assoc xs (batch_item id cursor (rows_to b.table before) b ∷ []) (batch_items m cursor (rows_to m before + length b.rows) (id + 1) bs)
        ∙ ap (λ (k : ℕ). xs ++ batch_item id cursor (rows_to k before) b ∷ batch_items m cursor (rows_to m before + length b.rows) (id + 1) bs) h.1)
    by_case (inr h) =
        rw h.0
        (ap (λ (ys : List ExtentItem). ys ++ batch_items m cursor (rows_to m before + 0) (id + 1) bs) (append-nil xs) ∙ ap (λ (k : ℕ). xs ++ batch_items m cursor k (id + 1) bs) (add-zero (rows_to m before)))

-- all batches of a commit
all_extents : (ts : List Table) (rs : ℕ → List Record) (is : ℕ → List ExtentItem) (cursor id : ℕ) (before bs : List Batch)
    → edited_by (states_by 0 ts rs is) (new_extents cursor id before bs) ≡ states_by 0 ts (λ m. rs m ++ batch_records m cursor (rows_to m before) bs) (λ m. is m ++ batch_items m cursor (rows_to m before) id bs)
all_extents ts rs is cursor id before [] =
    states_same 0 ts rs (λ m. rs m ++ []) is (λ m. is m ++ []) (λ m past. sym (append-nil (rs m))) (λ m past. sym (append-nil (is m)))
all_extents ts rs is cursor id before (b ∷ bs) =
    let new : List Record = numbered cursor (rows_to b.table before) b.rows in
    let item = item_with id new b.tags in
    ap (λ (ss : List TableState). edited_by ss (new_extents cursor (id + 1) (before ++ b ∷ []) bs)) (one_extent 0 b.table b.table ts rs is id new b.tags (sym (zero-add b.table)))
    ∙ all_extents ts (more_records b.table new rs) (more_items b.table item is) cursor (id + 1) (before ++ b ∷ []) bs
    ∙ states_same 0 ts
    (λ m. more_records b.table new rs m ++ batch_records m cursor (rows_to m (before ++ b ∷ [])) bs) (λ m. rs m ++ batch_records m cursor (rows_to m before) (b ∷ bs))
    (λ m. more_items b.table item is m ++ batch_items m cursor (rows_to m (before ++ b ∷ [])) (id + 1) bs) (λ m. is m ++ batch_items m cursor (rows_to m before) id (b ∷ bs))
    (λ m past. one_given (rs m) m cursor before b bs) (λ m past. one_item (is m) m cursor id before b bs)

abbrev states_at : History → List TableState
states_at h = states_by 0 (tables (log h)) (records_given (log h)) (extents h)

states_of : (h : History) → table_states h ≡ states_at h
states_of h = states_from-by 0 (tables (log h)) h

-- further columns of the table of a number
widened_states : (n k at : ℕ) (columns : List Field) (ts : List Table) (rs : ℕ → List Record) (is : ℕ → List ExtentItem)
    → states_by n (changed (widened_table at columns) k ts) rs is ≡ changed (with_columns at columns) k (states_by n ts rs is)
widened_states n k at columns [] rs is = refl
widened_states n zero at columns (t ∷ ts) rs is =
    let state : TableState = with_columns at columns (state_with t (rs n) (is n)) in
    ap (λ (x : List Record). (record state { records = x }) ∷ states_by (n + 1) ts rs is) (sym (widened_records-twice t.schema columns (rs n)))
widened_states n (suc k) at columns (t ∷ ts) rs is = ap (λ (ss : List TableState). state_with t (rs n) (is n) ∷ ss) (widened_states (n + 1) k at columns ts rs is)

-- the states by the extents before an event, and the log after it
states_by-push : (h : History) (e : Event) (l : Log) → log (h ++ e ∷ []) ≡ l → states_at (h ++ e ∷ []) ≡ states_by 0 (tables l) (records_given l) (λ m. items_after m (cursor h + 1) (1 + extents_made h) e.operation (extents h m))
states_by-push h e l is =
    ap (λ (k : Log). states_by 0 (tables k) (records_given k) (extents (h ++ e ∷ []))) is
    ∙ states_same 0 (tables l) (records_given l) (records_given l) (extents (h ++ e ∷ [])) (λ m. items_after m (cursor h + 1) (1 + extents_made h) e.operation (extents h m)) (λ m some. refl) (λ m some. extents-push h m e)

commit_more : (limits : Limits) (h : History) (c : Commit) → AreLawful limits h
    → states_by 0 (tables (log h ++ c ∷ [])) (records_given (log h ++ c ∷ [])) (λ m. extents h m ++ commit_items m (cursor h + 1) (1 + extents_made h) c) ≡ edited_by (states_at h) (edits_of (cursor h + 1) (1 + extents_made h) c)
commit_more limits h (CreateTable name schema) lawful =
    let l = log h in
    let c = CreateTable name schema in
    let new : Table = record { name = name; schema = schema; made = length l + 1; widened = length l + 1 } in
    let n = 0 + length (tables l) in
    let past : length (tables l) ≤ n = omega arith in
    let is : ℕ → List ExtentItem = λ m. extents h m ++ [] in
    let same_rs : (m : ℕ) → records_given (l ++ c ∷ []) m ≡ records_given l m = λ m. records-push l m c ∙ append-nil (records_given l m) in
    let same_is : (m : ℕ) → is m ≡ extents h m = λ m. append-nil (extents h m) in
    ap (λ (ts : List Table). states_by 0 ts (records_given (l ++ c ∷ [])) is) (tables-push l c)
    ∙ states_by-last 0 (tables l) new (records_given (l ++ c ∷ [])) is
    ∙ ap (λ (ss : List TableState). ss ++ state_with new (records_given (l ++ c ∷ []) n) (is n) ∷ [])
    (states_same 0 (tables l) (records_given (l ++ c ∷ [])) (records_given l) is (extents h) (λ m some. same_rs m) (λ m some. same_is m))
    ∙ ap (λ (x : List Record). states_at h ++ state_with new x (is n) ∷ []) (same_rs n ∙ (IsBounded-lawful limits h lawful).no_records n past)
    ∙ ap (λ (x : List ExtentItem). states_at h ++ state_with new [] x ∷ []) (same_is n ∙ no_items limits h lawful n past)
commit_more limits h (CreateView view) lawful =
    let l = log h in
    let c = CreateView view in
    ap (λ (ts : List Table). states_by 0 ts (records_given (l ++ c ∷ [])) (λ m. extents h m ++ [])) (tables-push l c)
    ∙ states_same 0 (tables l) (records_given (l ++ c ∷ [])) (records_given l) (λ m. extents h m ++ []) (extents h)
    (λ m some. records-push l m c ∙ append-nil (records_given l m)) (λ m some. append-nil (extents h m))
commit_more limits h (SetPolicy table entries) lawful =
    let l = log h in
    let c = SetPolicy table entries in
    ap (λ (ts : List Table). states_by 0 ts (records_given (l ++ c ∷ [])) (λ m. extents h m ++ [])) (tables-push l c)
    ∙ states_same 0 (tables l) (records_given (l ++ c ∷ [])) (records_given l) (λ m. extents h m ++ []) (extents h)
    (λ m some. records-push l m c ∙ append-nil (records_given l m)) (λ m some. append-nil (extents h m))
commit_more limits h (AlterMerge table columns) lawful =
    let l = log h in
    let c = AlterMerge table columns in
    ap (λ (ts : List Table). states_by 0 ts (records_given (l ++ c ∷ [])) (λ m. extents h m ++ [])) (tables-push l c)
    ∙ states_same 0 (changed (widened_table (length l + 1) columns) table (tables l)) (records_given (l ++ c ∷ [])) (records_given l) (λ m. extents h m ++ []) (extents h)
    (λ m some. records-push l m c ∙ append-nil (records_given l m)) (λ m some. append-nil (extents h m))
    ∙ widened_states 0 table (length l + 1) columns (tables l) (records_given l) (extents h)
commit_more limits h (Ingest batches failures) lawful =
    let l = log h in
    let c = Ingest batches failures in
    ap (λ (ts : List Table). states_by 0 ts (records_given (l ++ c ∷ [])) (λ m. extents h m ++ commit_items m (cursor h + 1) (1 + extents_made h) c)) (tables-push l c)
    ∙ states_same 0 (tables l)
    (records_given (l ++ c ∷ [])) (λ m. records_given l m ++ batch_records m (length l + 1) 0 batches)
    (λ m. extents h m ++ commit_items m (cursor h + 1) (1 + extents_made h) c) (λ m. extents h m ++ batch_items m (length l + 1) 0 (1 + extents_made h) batches)
    (λ m some. records-push l m c) (λ m some. refl)
    ∙ sym (all_extents (tables l) (records_given l) (extents h) (length l + 1) (1 + extents_made h) [] batches)

-- the states after a lawful history and a commit are those before, edited by the commit's edits
pub table_states-push : (limits : Limits) (h : History) (e : Event) (c : Commit) → AreLawful limits h → e.operation ≡ operation.Commit c
    → table_states (h ++ e ∷ []) ≡ edited_by (table_states h) (edits_of (cursor h + 1) (1 + extents_made h) c)
table_states-push limits h e c lawful is =
    let logged : log (h ++ e ∷ []) ≡ log h ++ c ∷ [] = log-push h e ∙ ap (λ (o : Operation). log h ++ commits_of o) is in
    let l = log h ++ c ∷ [] in
    states_of (h ++ e ∷ []) ∙ states_by-push h e l logged
    ∙ ap (λ (o : Operation). states_by 0 (tables l) (records_given l) (λ m. items_after m (cursor h + 1) (1 + extents_made h) o (extents h m))) is
    ∙ commit_more limits h c lawful
    ∙ ap (λ (ss : List TableState). edited_by ss (edits_of (cursor h + 1) (1 + extents_made h) c)) (sym (states_of h))

-- one table's extents merged
abbrev one_merged : ℕ → List ℕ → ℕ → (ℕ → List ExtentItem) → ℕ → List ExtentItem
one_merged k old new is m = cond (nat_eq k m) (merged old new (is m)) (is m)

merged_at : (n k j : ℕ) (ts : List Table) (rs : ℕ → List Record) (is : ℕ → List ExtentItem) (old : List ℕ) (new : ℕ) → j ≡ n + k
    → changed (with_merged old new) k (states_by n ts rs is) ≡ states_by n ts rs (one_merged j old new is)
merged_at n k j [] rs is old new at = refl
merged_at n zero j (t ∷ ts) rs is old new at =
    let here : nat_eq j n ≡ true = eq-eqb j n (omega (arith, at)) in
    let others : (m : ℕ) → n + 1 ≤ m → nat_eq j m ≡ false = λ m past. ne_eqb j m (λ same. absurd (omega (arith, at, past, same))) in
    ap (λ (b : Bool). state_with t (rs n) (cond b (merged old new (is n)) (is n)) ∷ states_by (n + 1) ts rs is) (sym here)
    ∙ ap (λ (ss : List TableState). state_with t (rs n) (one_merged j old new is n) ∷ ss)
    (states_same (n + 1) ts rs rs is (one_merged j old new is) (λ m past. refl) (λ m past. ap (λ (b : Bool). cond b (merged old new (is m)) (is m)) (sym (others m past))))
merged_at n (suc k) j (t ∷ ts) rs is old new at =
    let there : nat_eq j n ≡ false = ne_eqb j n (λ same. absurd (omega (arith, at, same))) in
    ap (λ (ss : List TableState). state_with t (rs n) (is n) ∷ ss) (merged_at (n + 1) k j ts rs is old new (omega (arith, at)))
    ∙ ap (λ (b : Bool). state_with t (rs n) (cond b (merged old new (is n)) (is n)) ∷ states_by (n + 1) ts rs (one_merged j old new is)) (sym there)

-- the states after a merge are those before, with one table's extents merged
pub table_states-merge : (h : History) (e : Event) (table : ℕ) (old : List ℕ) (new : ℕ) → e.operation ≡ operation.Merge table old new
    → table_states (h ++ e ∷ []) ≡ changed (with_merged old new) table (table_states h)
table_states-merge h e table old new is =
    let logged : log (h ++ e ∷ []) ≡ log h = log-push h e ∙ ap (λ (o : Operation). log h ++ commits_of o) is ∙ append-nil (log h) in
    let l = log h in
    states_of (h ++ e ∷ []) ∙ states_by-push h e l logged
    ∙ ap (λ (o : Operation). states_by 0 (tables l) (records_given l) (λ m. items_after m (cursor h + 1) (1 + extents_made h) o (extents h m))) is
    ∙ sym (merged_at 0 table table (tables l) (records_given l) (extents h) old new (sym (zero-add table)))
    ∙ ap (changed (with_merged old new) table) (sym (states_of h))

-- a fold leaves the states
pub table_states-fold : (h : History) (e : Event) (view to : ℕ) → e.operation ≡ operation.Fold view to → table_states (h ++ e ∷ []) ≡ table_states h
table_states-fold h e view to is =
    let logged : log (h ++ e ∷ []) ≡ log h = log-push h e ∙ ap (λ (o : Operation). log h ++ commits_of o) is ∙ append-nil (log h) in
    let l = log h in
    states_of (h ++ e ∷ []) ∙ states_by-push h e l logged
    ∙ ap (λ (o : Operation). states_by 0 (tables l) (records_given l) (λ m. items_after m (cursor h + 1) (1 + extents_made h) o (extents h m))) is
    ∙ sym (states_of h)

-- the tables of the states are the history's
states_by-tables : (n : ℕ) (ts : List Table) (h : History) → map (λ (s : TableState). s.table) (states_from n ts h) ≡ ts
states_by-tables n [] h = refl
states_by-tables n (t ∷ ts) h = ap (λ (xs : List Table). t ∷ xs) (states_by-tables (n + 1) ts h)

pub table_states-tables : (h : History) → map (λ (s : TableState). s.table) (table_states h) ≡ tables (log h)
table_states-tables h = states_by-tables 0 (tables (log h)) h
