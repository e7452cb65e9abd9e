-- What holds of each lawful history: its numbers are small, and no table that isn't there has records.
use Rattle.std.proofs.Common.{◌≡◌, ◌<◌, ◌≤◌, refl, subst, Option, None, Some, ◌+◌, ◌*◌, ℕ, Bool, true, false, cond, List, [], ◌∷◌, ◌++◌, All, length, take, filter, nat_lt, ap, sym, ◌∙◌, length-append, append_assoc, append-nil, arith}
use Rattle.std.specs.List.{sum_by}
use Rattle.std.proofs.lemmas.Bool.{ltb-true, ltb-false, ne_eqb}
use Rattle.std.proofs.lemmas.List.{length_push}
use Rattle.std.proofs.lemmas.Option.{slice_get_within}
use Rattle.kq_value.specs.declared.record.Record.{Record}
use Rattle.kq_value.specs.declared.schema.Field.{Field}
use Rattle.kq_catalog_journal.specs.declared.batch.Batch.{Batch}
use Rattle.kq_catalog_journal.specs.declared.batch.Failure.{Failure}
use Rattle.kq_catalog_journal.specs.declared.limits.Limits.{Limits}
use Rattle.kq_catalog_journal.specs.declared.table.Table.{Table}
use Rattle.kq_catalog_journal.specs.declared.event.Commit.{Commit}
use Rattle.kq_catalog_journal.specs.declared.event.Commit.TheVariants.{CreateTable, SetPolicy, CreateView, AlterMerge, Ingest}
use Rattle.kq_catalog_journal.specs.declared.event.Event.{Event}
use Rattle.kq_catalog_journal.specs.declared.event.Operation.{Operation}
use Rattle.kq_catalog_journal.specs.declared.event.Operation.TheVariants as operation
use Rattle.kq_catalog_journal.specs.Beside.{DueGives}
use Rattle.kq_catalog_journal.specs.History.{History, Log, log, cursor, tables, table_named, widened_table, commits_of, views, views_by, view_count, is_view}
use Rattle.kq_catalog_journal.specs.Lawful.{IsMerge, Lawful, LawfulOperation, LawfulCommit, AreLawful, AreLawfulAfter, name_violation, table_violation, view_violation, columns_violation, batch_violation, own_rows, IsIngestion}
use Rattle.kq_catalog_journal.specs.Lawful.Violation.{TooWide, TooMany, TooLong, NoCommits}
use Rattle.kq_catalog_journal.specs.Policies.{rules}
use Rattle.kq_catalog_journal.specs.Records.{records_given, commit_records, commit_items, items_after, extents, is_small_item, commit_extents, operation_extents, extents_made, merged, ExtentItem}
use Rattle.kq_catalog_journal.proofs.Changed.{length-changed}
use Rattle.kq_catalog_journal.proofs.Counted.{IsDerived-few}
use Rattle.kq_catalog_journal.proofs.Given.{IsBefore, IsShort, IsDerived-led, few_given_by, few_rows_in, batch_records-past, batch_items-past}
use Rattle.kq_catalog_journal.proofs.Histories.{log-push, tables-push, views-push}
use Rattle.kq_catalog_journal.proofs.Passed.{IsDerived-short, IsDerived-stands}
use Rattle.kq_catalog_journal.proofs.Policies.{length-policies}
use Rattle.kq_catalog_journal.proofs.Records.{records-push, extents-push, extents_made-push}

-- what no bar means
two_tests : {X : Type 0} (s t : Bool) (x y : X) → cond s (Some x) (cond t None (Some y)) ≡ None → (s ≡ false) × (t ≡ true)
two_tests true t x y e = cc
two_tests false true x y e = (refl, refl)
two_tests false false x y e = cc

pub free_batch : (limits : Limits) (l : Log) (n : ℕ) → batch_violation limits l n ≡ None → (n ≤ limits.batch) × (length l < limits.commits)
free_batch limits l n e =
    let tests = two_tests (nat_lt limits.batch n) (nat_lt (length l) limits.commits) TooLong NoCommits e in
    (ltb-false limits.batch n tests.0, ltb-true (length l) limits.commits tests.1)

pub free_columns : (limits : Limits) (l : Log) (old new : ℕ) → columns_violation limits l old new ≡ None → (old + new ≤ limits.columns) × (length l < limits.commits)
free_columns limits l old new e =
    let tests = two_tests (nat_lt limits.columns (old + new)) (nat_lt (length l) limits.commits) TooWide NoCommits e in
    (ltb-false limits.columns (old + new) tests.0, ltb-true (length l) limits.commits tests.1)

-- the name is new among tables and views, and one more of its kind and a commit more are within the limits
pub record IsFree (limits : Limits) (l : Log) (limit count : ℕ) (found : Option Table) (viewed : Bool) : Type 0 where
  pub name : found ≡ None
  pub no_view : viewed ≡ false
  pub room : count < limit
  pub commits : length l < limits.commits

free_name : (limits : Limits) (l : Log) (limit count : ℕ) (found : Option Table) (viewed : Bool) → name_violation limits l limit count found viewed ≡ None → IsFree limits l limit count found viewed
free_name limits l limit count (Some t) viewed e = cc
free_name limits l limit count None true e = cc
free_name limits l limit count None false e = by_tests (nat_lt count limit) (nat_lt (length l) limits.commits) refl refl e
  where
    by_tests : (s t : Bool) → nat_lt count limit ≡ s → nat_lt (length l) limits.commits ≡ t → cond s (cond t None (Some NoCommits)) (Some TooMany) ≡ None → IsFree limits l limit count None false
    by_tests true true p q e = record { name = refl; no_view = refl; room = ltb-true count limit p; commits = ltb-true (length l) limits.commits q }
    by_tests true false p q e = cc
    by_tests false t p q e = cc

pub free_table : (limits : Limits) (l : Log) (name : List ℕ) (schema : List Field) → table_violation limits l name schema ≡ None
    → IsFree limits l limits.tables (length (tables l)) (table_named name (tables l)) (is_view name l)
free_table limits l name schema e = by_test (nat_lt limits.columns (length schema)) e
  where
    Free : Type 0
    Free = IsFree limits l limits.tables (length (tables l)) (table_named name (tables l)) (is_view name l)

    by_test : (s : Bool) → cond s (Some TooWide) (name_violation limits l limits.tables (length (tables l)) (table_named name (tables l)) (is_view name l)) ≡ None → Free
    by_test true e = cc
    by_test false e = free_name limits l limits.tables (length (tables l)) (table_named name (tables l)) (is_view name l) e

pub free_view : (limits : Limits) (l : Log) (name : List ℕ) → view_violation limits l name ≡ None → IsFree limits l limits.views (view_count l) (table_named name (tables l)) (is_view name l)
free_view limits l name e = free_name limits l limits.views (view_count l) (table_named name (tables l)) (is_view name l) e

-- what a lawful commit adds
room_left : (limits : Limits) (l : Log) (c : Commit) → LawfulCommit limits l c → length l < limits.commits
room_left limits l (CreateTable name schema) lawful = (free_table limits l name schema lawful.2).commits
room_left limits l (CreateView view) lawful = (free_view limits l view.name lawful.within).commits
room_left limits l (SetPolicy table entries) lawful = lawful.room
room_left limits l (AlterMerge table columns) lawful = (free_columns limits l (length lawful.table.schema) (length columns) lawful.within).1
room_left limits l (Ingest batches failures) lawful = (free_batch limits l (own_rows batches) lawful.1).1

more_tables : (limits : Limits) (l : Log) (c : Commit) → LawfulCommit limits l c → length (tables l) ≤ limits.tables → length (tables (l ++ c ∷ [])) ≤ limits.tables
more_tables limits l (CreateTable name schema) lawful before =
    let free = (free_table limits l name schema lawful.2).room in
    let longer = ap length (tables-push l (CreateTable name schema)) ∙ length_push (tables l) _ in
    omega (arith, free, longer)
more_tables limits l (CreateView view) lawful before = let same = ap length (tables-push l (CreateView view)) in omega (arith, before, same)
more_tables limits l (SetPolicy table entries) lawful before = let same = ap length (tables-push l (SetPolicy table entries)) in omega (arith, before, same)
more_tables limits l (AlterMerge table columns) lawful before =
    let same = ap length (tables-push l (AlterMerge table columns)) ∙ length-changed (widened_table (length l + 1) columns) table (tables l) in
    omega (arith, before, same)
more_tables limits l (Ingest batches failures) lawful before = let same = ap length (tables-push l (Ingest batches failures)) in omega (arith, before, same)

views_made : (l : Log) (c : Commit) → view_count (l ++ c ∷ []) ≡ view_count l + length (views_by (length l + 1) c)
views_made l c = ap length (views-push l c) ∙ length-append (views l) (views_by (length l + 1) c)

more_views : (limits : Limits) (l : Log) (c : Commit) → LawfulCommit limits l c → view_count l ≤ limits.views → view_count (l ++ c ∷ []) ≤ limits.views
more_views limits l (CreateTable name schema) lawful before = let more = views_made l (CreateTable name schema) in omega (arith, before, more)
more_views limits l (CreateView view) lawful before =
    let free = (free_view limits l view.name lawful.within).room in
    let more = views_made l (CreateView view) in
    omega (arith, free, more)
more_views limits l (SetPolicy table entries) lawful before = let more = views_made l (SetPolicy table entries) in omega (arith, before, more)
more_views limits l (AlterMerge table columns) lawful before = let more = views_made l (AlterMerge table columns) in omega (arith, before, more)
more_views limits l (Ingest batches failures) lawful before = let more = views_made l (Ingest batches failures) in omega (arith, before, more)

-- as many tables as before, or more
pub no_fewer : (l : Log) (c : Commit) → length (tables l) ≤ length (tables (l ++ c ∷ []))
no_fewer l (CreateTable name schema) = let longer = ap length (tables-push l (CreateTable name schema)) ∙ length_push (tables l) _ in omega (arith, longer)
no_fewer l (CreateView view) = let same = ap length (tables-push l (CreateView view)) in omega (arith, same)
no_fewer l (SetPolicy table entries) = let same = ap length (tables-push l (SetPolicy table entries)) in omega (arith, same)
no_fewer l (AlterMerge table columns) =
    let same = ap length (tables-push l (AlterMerge table columns)) ∙ length-changed (widened_table (length l + 1) columns) table (tables l) in
    omega (arith, same)
no_fewer l (Ingest batches failures) = let same = ap length (tables-push l (Ingest batches failures)) in omega (arith, same)

-- an ingestion's own batch isn't long, so no batch of it is
own_short : (limits : Limits) (l : Log) (batches : List Batch) (failures : List Failure) → (lawful : LawfulCommit limits l (Ingest batches failures)) → IsShort (lawful.0.own)
own_short limits l batches failures lawful =
    let own = lawful.0.own in
    let free = (free_batch limits l (own_rows batches) lawful.1).0 in
    let led = IsDerived-led limits.cascade (rules l) (DueGives l) own batches failures lawful.0.derived in
    let rows : own_rows batches ≡ length own.rows = ap own_rows led.is in
    omega (arith, free, rows, limits.small_batch)

all_short : (limits : Limits) (l : Log) (batches : List Batch) (failures : List Failure) → LawfulCommit limits l (Ingest batches failures) → All IsShort batches
all_short limits l batches failures lawful = IsDerived-short limits.cascade (rules l) (DueGives l) lawful.0.own batches failures (own_short limits l batches failures lawful) lawful.0.derived

few_batches : (limits : Limits) (l : Log) (batches : List Batch) (failures : List Failure) → LawfulCommit limits l (Ingest batches failures) → length batches ≤ 1025
few_batches limits l batches failures lawful =
    let few = IsDerived-few limits.cascade (rules l) (DueGives l) lawful.0.own batches failures lawful.0.derived in
    omega (arith, few, limits.short_cascade)

-- nor are all of them together
pub few_rows : (limits : Limits) (l : Log) (batches : List Batch) (failures : List Failure) → LawfulCommit limits l (Ingest batches failures) → sum_by (λ (b : Batch). length b.rows) batches ≤ 1074790400
few_rows limits l batches failures lawful = omega (arith, few_rows_in batches (all_short limits l batches failures lawful), few_batches limits l batches failures lawful)

-- and all go into tables
pub all_stand : (limits : Limits) (l : Log) (batches : List Batch) (failures : List Failure) → IsIngestion limits l batches failures → All (IsBefore (length (tables l))) batches
all_stand limits l batches failures ingestion =
    let own = ingestion.own in
    let count = length-policies l in
    let within : own.table < length (tables l) = slice_get_within (tables l) own.table ingestion.table ingestion.stands in
    subst (λ (n : ℕ). All (IsBefore n) batches) count
    (IsDerived-stands limits.cascade (rules l) (DueGives l) own batches failures (omega (arith, within, count)) ingestion.derived)

few_given : (limits : Limits) (l : Log) (t n : ℕ) (c : Commit) → LawfulCommit limits l c → length (commit_records t n c) ≤ 1074790400
few_given limits l t n (CreateTable name schema) lawful = omega arith
few_given limits l t n (CreateView view) lawful = omega arith
few_given limits l t n (SetPolicy table entries) lawful = omega arith
few_given limits l t n (AlterMerge table columns) lawful = omega arith
few_given limits l t n (Ingest batches failures) lawful =
    omega (arith, few_given_by t n 0 batches (all_short limits l batches failures lawful), few_batches limits l batches failures lawful)

-- a batch for each query, and the own one
pub few_made_by : (limits : Limits) (l : Log) (c : Commit) → LawfulCommit limits l c → commit_extents c ≤ 1025
few_made_by limits l (CreateTable name schema) lawful = omega arith
few_made_by limits l (CreateView view) lawful = omega arith
few_made_by limits l (SetPolicy table entries) lawful = omega arith
few_made_by limits l (AlterMerge table columns) lawful = omega arith
few_made_by limits l (Ingest batches failures) lawful = few_batches limits l batches failures lawful

given_past : (limits : Limits) (l : Log) (t n : ℕ) (c : Commit) → LawfulCommit limits l c → length (tables l) ≤ t → commit_records t n c ≡ []
given_past limits l t n (CreateTable name schema) lawful past = refl
given_past limits l t n (CreateView view) lawful past = refl
given_past limits l t n (SetPolicy table entries) lawful past = refl
given_past limits l t n (AlterMerge table columns) lawful past = refl
given_past limits l t n (Ingest batches failures) lawful past = batch_records-past (length (tables l)) t n 0 batches (all_stand limits l batches failures lawful.0) past

items_past : (limits : Limits) (l : Log) (t n id : ℕ) (c : Commit) → LawfulCommit limits l c → length (tables l) ≤ t → commit_items t n id c ≡ []
items_past limits l t n id (CreateTable name schema) lawful past = refl
items_past limits l t n id (CreateView view) lawful past = refl
items_past limits l t n id (SetPolicy table entries) lawful past = refl
items_past limits l t n id (AlterMerge table columns) lawful past = refl
items_past limits l t n id (Ingest batches failures) lawful past = batch_items-past (length (tables l)) t n 0 id batches (all_stand limits l batches failures lawful.0) past

-- what each lawful event keeps holds of each lawful history
pub AreLawful-induct : (limits : Limits) (P : History → Type 0) → P [] → ((h : History) (e : Event) → P h → Lawful limits h e → P (h ++ e ∷ [])) → (h : History) → AreLawful limits h → P h
AreLawful-induct limits P none one h all = go [] h none all
  where
    go : (before h : History) → P before → AreLawfulAfter limits before h → P (before ++ h)
    go before [] p all = subst P (sym (append-nil before)) p
    go before (e ∷ h) p all = subst P (append_assoc before (e ∷ []) h) (go (before ++ e ∷ []) h (one before e p all.0) all.1)

pub record IsBounded (limits : Limits) (l : Log) : Type 0 where
  pub few_tables : length (tables l) ≤ limits.tables
  pub few_views : view_count l ≤ limits.views
  pub few_commits : length l ≤ limits.commits
  pub few_records : (t : ℕ) → length (records_given l t) ≤ length l * 1074790400
  pub no_records : (t : ℕ) → length (tables l) ≤ t → records_given l t ≡ []

bounded_none : (limits : Limits) → IsBounded limits []
bounded_none limits = record { few_tables = omega arith; few_views = omega arith; few_commits = omega arith; few_records = λ t. omega arith; no_records = λ t past. refl }

bounded_more : (limits : Limits) (l : Log) (c : Commit) → IsBounded limits l → LawfulCommit limits l c → IsBounded limits (l ++ c ∷ [])
bounded_more limits l c before lawful =
    let longer = length_push l c in
    let fewer = no_fewer l c in
    record {
      few_tables = more_tables limits l c lawful before.few_tables;
      few_views = more_views limits l c lawful before.few_views;
      few_commits = let left = room_left limits l c lawful in omega (arith, left, longer);
      few_records = λ t.
          let more = ap length (records-push l t c) ∙ length-append (records_given l t) (commit_records t (length l + 1) c) in
          omega (arith, more, before.few_records t, few_given limits l t (length l + 1) c lawful, longer);
      no_records = λ t past.
          let still : length (tables l) ≤ t = omega (arith, fewer, past) in
          records-push l t c ∙ ap (λ (rs : List Record). rs ++ commit_records t (length l + 1) c) (before.no_records t still) ∙ given_past limits l t (length l + 1) c lawful still;
    }

event_more : (limits : Limits) (h : History) (e : Event) → IsBounded limits (log h) → Lawful limits h e → IsBounded limits (log (h ++ e ∷ []))
event_more limits h e before lawful = subst (IsBounded limits) (sym (log-push h e)) (by_operation e.operation lawful.operation)
  where
    by_operation : (o : Operation) → LawfulOperation limits h o → IsBounded limits (log h ++ commits_of o)
    by_operation (operation.Commit c) lawful = bounded_more limits (log h) c before lawful
    by_operation (operation.Fold view to) lawful = subst (IsBounded limits) (sym (append-nil (log h))) before
    by_operation (operation.Merge table old new) lawful = subst (IsBounded limits) (sym (append-nil (log h))) before

pub IsBounded-lawful : (limits : Limits) (h : History) → AreLawful limits h → IsBounded limits (log h)
IsBounded-lawful limits h all = AreLawful-induct limits (λ (g : History). IsBounded limits (log g)) (bounded_none limits) (event_more limits) h all

-- an event makes one extent at most, and a commit one more for each query
pub few_made : (limits : Limits) (h : History) → AreLawful limits h → extents_made h ≤ length h + cursor h * 1024
few_made limits h all = AreLawful-induct limits (λ (g : History). extents_made g ≤ length g + cursor g * 1024) (omega arith) one_more h all
  where
    by_operation : (g : History) (o : Operation) → LawfulOperation limits g o → operation_extents o ≤ 1 + length (commits_of o) * 1024
    by_operation g (operation.Commit c) lawful = let few = few_made_by limits (log g) c lawful in omega (arith, few)
    by_operation g (operation.Fold view to) lawful = omega arith
    by_operation g (operation.Merge table old new) lawful = omega arith

    one_more : (g : History) (e : Event) → extents_made g ≤ length g + cursor g * 1024 → Lawful limits g e → extents_made (g ++ e ∷ []) ≤ length (g ++ e ∷ []) + cursor (g ++ e ∷ []) * 1024
    one_more g e before lawful =
        let commits = ap length (log-push g e) ∙ length-append (log g) (commits_of e.operation) in
        omega (arith, before, commits, extents_made-push g e, by_operation g e.operation lawful.operation, length_push g e)

-- a table that isn't there has no extents
pub no_items : (limits : Limits) (h : History) → AreLawful limits h → (t : ℕ) → length (tables (log h)) ≤ t → extents h t ≡ []
no_items limits h all = AreLawful-induct limits HasNone (λ t past. refl) one_more h all
  where
    HasNone : History → Type 0
    HasNone g = (t : ℕ) → length (tables (log g)) ≤ t → extents g t ≡ []

    not_merged : (g : History) (old : List ℕ) (t new : ℕ) → extents g t ≡ [] → IsMerge g t old new → ⊥
    not_merged g old t new none is =
        let few = ap (λ (xs : List ExtentItem). length (take 64 (filter is_small_item xs))) none in
        absurd (omega (arith, is.some, is.within, few))

    by_operation : (g : History) (o : Operation) → LawfulOperation limits g o → HasNone g → (t : ℕ) → length (tables (log g ++ commits_of o)) ≤ t → items_after t (cursor g + 1) (1 + extents_made g) o (extents g t) ≡ []
    by_operation g (operation.Commit c) lawful before t past =
        let still : length (tables (log g)) ≤ t = omega (arith, no_fewer (log g) c, past) in
        ap (λ (xs : List ExtentItem). xs ++ commit_items t (cursor g + 1) (1 + extents_made g) c) (before t still) ∙ items_past limits (log g) t (cursor g + 1) (1 + extents_made g) c lawful still
    by_operation g (operation.Fold view to) lawful before t past = before t (subst (λ (l : Log). length (tables l) ≤ t) (append-nil (log g)) past)
    by_operation g (operation.Merge table old new) lawful before t past =
        let none = before t (subst (λ (l : Log). length (tables l) ≤ t) (append-nil (log g)) past) in
        ap (λ (b : Bool). cond b (merged old new (extents g t)) (extents g t))
        (ne_eqb table t (λ same. not_merged g old t new none (subst (λ (n : ℕ). IsMerge g n old new) same lawful))) ∙ none

    one_more : (g : History) (e : Event) → HasNone g → Lawful limits g e → HasNone (g ++ e ∷ [])
    one_more g e before lawful t past = extents-push g t e ∙ by_operation g e.operation lawful.operation before t (subst (λ (l : Log). length (tables l) ≤ t) (log-push g e) past)
