-- A commit that is due is lawful.
use Rattle.std.proofs.Common.{◌≡◌, ◌<◌, ℕ, zero, suc, Bool, true, false, cond, List, [], ◌∷◌, ◌+◌, ◌⊎◌, inl, inr, Ok, Err, length, nat_eq, nat_lt, Option, Some, None, refl, ap, sym, ◌∙◌, subst, arith}
use Rattle.std.proofs.lemmas.Bool.{ltb-true}
use Rattle.std.specs.Cmp.Lexicographic.{pointwise}
use Rattle.std.specs.List.{slice_get}
use Rattle.std.specs.Option.{is_some, option_and_then}
use Rattle.std.proofs.lemmas.List.{length-map}
use Rattle.kq_bind_expressions.specs.Verdicts.{Verdict}
use Rattle.kq_catalog.proofs.Viewing.{placed}
use Rattle.kq_read_commands.specs.declared.definition.NewView.{NewView}
use Rattle.kq_view_body.specs.kq_run_gather.Bodies.{IsBody}
use Rattle.kq_catalog_journal.specs.declared.view.View.{View}
use Rattle.kq_catalog_indexes.specs.Places.{place_from, place_of}
use Rattle.kq_plan.specs.Plans.{Planned}
use Rattle.kq_engine_query.specs.Answers.{refusal_by}
use Rattle.kq_value.specs.declared.schema.Field.{Field}
use Rattle.kq_value.specs.Schema.{same_fields}
use Rattle.kq_catalog_journal.specs.declared.batch.Batch.{Batch}
use Rattle.kq_catalog_journal.specs.declared.batch.Failure.{Failure}
use Rattle.kq_catalog_journal.specs.declared.event.Commit.{Commit}
use Rattle.kq_catalog_journal.specs.declared.event.Commit.TheVariants as commits
use Rattle.kq_catalog_journal.specs.declared.limits.Limits.{Limits}
use Rattle.kq_catalog_journal.specs.declared.table.Table.{Table}
use Rattle.kq_catalog_journal.specs.History.{Log, NumberedTable, Viewed, names_of_views, tables, table_named, table_numbered, is_view, view_count, views}
use Rattle.kq_catalog_journal.specs.Beside.{DueGives}
use Rattle.kq_catalog_journal.specs.Derived.{Cascade, Failed, IsDerived, Made, TooMany}
use Rattle.kq_catalog_journal.specs.Lawful.{IsIngestion, IsNewView, batch_violation, table_violation, view_violation, own_rows}
use Rattle.kq_catalog_journal.specs.kq_value_text_sets.Names.{names_of, repeat_of}
use Rattle.kq_catalog_journal.specs.Policies.{rules}
use Rattle.kq_catalog_journal.specs.Tagged.{least_tagged}
use Rattle.kq_catalog_journal.proofs.Given.{IsDerived-led}
use Rattle.kq_catalog_journal.proofs.Tables.{table_numbered-at}
use Rattle.kq_read_commands.specs.declared.columns.Column.{Column}
use Rattle.kq_read_commands.specs.declared.columns.Identifier.{Identifier}
use Rattle.kq_read_commands.specs.declared.command.Change.{Change}
use Rattle.kq_read_commands.specs.declared.command.Change.TheVariants.{CreateTable, AlterMerge, Ingest, CreateView, SetPolicy}
use Rattle.kq_read_commands.specs.declared.command.Command.{Command}
use Rattle.kq_read_commands.specs.declared.ingestion.Ingestion.{Ingestion}
use Rattle.kq_read_commands.specs.declared.command.Command.TheVariants as commands
use Rattle.kq_read_commands.specs.Columns.{schema_of}
use Rattle.kq_store_ingest.specs.declared.fault.IngestFault.{IngestFault}
use Rattle.kq_store_ingest.specs.Ingestion.{first_fault, row_of, row_records, rows_of}
use Rattle.kq_store_ingest.proofs.RowLemmas.{rows_typed}
use Rattle.kq_reply.specs.declared.refusal.Refusal.{Refusal}
use Rattle.kq_reply.specs.declared.refusal.Refusal.TheVariants as refusals
use Rattle.kq_reply.specs.declared.reply.Reply.TheVariants as replies
use Rattle.kq_engine_prepare.specs.Due.{Due, Says, Commits, IsBoundDue, IsChangeDue, IsWithinViews, IsDueByLog, IsDueByText, IsNewDue, IsPlannedDue, IsViewDue, IsViewMade, MakesView, bad_tags, IsBodyDue, IsIngestDue, IsRowsDue, IsTaggedDue, IsValuesDue, base_for, stood_due, view_named, barring_tags, counted, derived_due, kept_due, named_due, own_batch, refusal_of, refused, table_due, text_refusal, unnamed_due}
use Rattle.kq_engine_show.specs.JournalRows.{name_of}
use Rattle.kq_engine_prepare.specs.Found.{IsCommitDue}
use Rattle.kq_engine_prepare.proofs.Fit.{IsFit, MakesNoView, counted-commit, no_commit}
use Rattle.kq_engine_prepare.proofs.Entering.{policy-fit}
use Rattle.kq_engine_prepare.proofs.Gaining.{widening-fit}
use Rattle.kq_engine_prepare.proofs.Texts.{different_names}

-- ---- tables

kept-none : (c : Commit) (name : Identifier) (schema : List Field) (t : Table) → Commits c ≡ kept_due name schema t → ⊥
kept-none c name schema t e = by_test (same_fields t.schema schema) e
  where
    by_test : (b : Bool) → Commits c ≡ cond b (Says (replies.Kept t.made)) (refused (refusals.Exists name.at)) → ⊥
    by_test true e = cc
    by_test false e = cc

-- a table that is made is barred by nothing
record IsFree (limits : Limits) (l : Log) (name : List ℕ) (schema : List Field) (c : Commit) : Type 0 where
  room : length l < limits.commits
  violation : table_violation limits l name schema ≡ None
  unnamed : table_named name (tables l) ≡ None
  is : commits.CreateTable name schema ≡ c

free : (limits : Limits) (l : Log) (name : Identifier) (schema : List Field) (c : Commit) → Commits c ≡ table_due limits l name schema → IsFree limits l name.text schema c
free limits l name schema c due = by_width (nat_lt limits.columns (length schema)) refl due
  where
    by_tables : (b : Bool) → nat_lt limits.columns (length schema) ≡ false → table_named name.text (tables l) ≡ None → is_view name.text l ≡ false → nat_lt (length (tables l)) limits.tables ≡ b
        → Commits c ≡ cond b (counted limits l (commits.CreateTable name.text schema)) (refused (refusals.Full limits.tables)) → IsFree limits l name.text schema c
    by_tables true wide named unviewed few e =
        let (room, is) = counted-commit limits l (commits.CreateTable name.text schema) c e in
        record { room = ltb-true (length l) limits.commits room; violation = rw (wide, named, unviewed, few, room) refl; unnamed = named; is = is }
    by_tables false wide named unviewed few e = absurd (no_commit c (refusals.Full limits.tables) e)

    by_view : (b : Bool) → nat_lt limits.columns (length schema) ≡ false → table_named name.text (tables l) ≡ None → is_view name.text l ≡ b → Commits c ≡ unnamed_due limits l name schema b → IsFree limits l name.text schema c
    by_view true wide named viewed e = absurd (no_commit c (refusals.Exists name.at) e)
    by_view false wide named viewed e = by_tables (nat_lt (length (tables l)) limits.tables) wide named viewed refl e

    by_name : (o : Option Table) → nat_lt limits.columns (length schema) ≡ false → table_named name.text (tables l) ≡ o → Commits c ≡ named_due limits l name schema o → IsFree limits l name.text schema c
    by_name (Some t) wide named e = absurd (kept-none c name schema t e)
    by_name None wide named e = by_view (is_view name.text l) wide named refl e

    by_width : (b : Bool) → nat_lt limits.columns (length schema) ≡ b → Commits c ≡ cond b (refused (refusals.Full limits.columns)) (named_due limits l name schema (table_named name.text (tables l))) → IsFree limits l name.text schema c
    by_width true wide e = absurd (no_commit c (refusals.Full limits.columns) e)
    by_width false wide e = by_name (table_named name.text (tables l)) wide refl e

-- where a table is due, none has the name
pub table_due-unnamed : (limits : Limits) (l : Log) (name : Identifier) (schema : List Field) (c : Commit) → Commits c ≡ table_due limits l name schema → table_named name.text (tables l) ≡ None
table_due-unnamed limits l name schema c due = (free limits l name schema c due).unnamed

table-fit : (limits : Limits) (l : Log) (name : Identifier) (columns : List Column) (c : Commit) → 0 < length columns → repeat_of (names_of (schema_of columns)) ≡ None → Commits c ≡ table_due limits l name (schema_of columns) → IsFit limits l c
table-fit limits l name columns c some once due =
    let made = free limits l name (schema_of columns) c due in
    let long = length-map columns (λ (x : Column). let f : Field = record { name = x.name.text; ty = x.ty } in f) in
    subst (IsFit limits l) made.is (record { room = made.room; lawful = (omega (arith, long, some), once, made.violation) })

-- a table that is made is no view
pub table-no_view : (limits : Limits) (l : Log) (name : Identifier) (columns : List Column) (c : Commit) → IsDueByLog limits l (CreateTable name columns) (Commits c) → MakesNoView c
table-no_view limits l name columns c due = subst MakesNoView (free limits l name (schema_of columns) c due.1).is tt

-- ---- rows

none_over : (x y : Bool) (f g : IngestFault) → cond x (Some f) (cond y (Some g) None) ≡ None → y ≡ false
none_over true y f g e = cc
none_over false true f g e = cc
none_over false false f g e = refl

-- a body without a fault has no more rows than a batch
few_rows : (schema : List Field) (skip : Bool) (limit : ℕ) (body : List ℕ) → first_fault schema skip limit body ≡ None → nat_lt limit (length (rows_of schema skip body)) ≡ false
few_rows schema skip limit body e = ap (nat_lt limit) (length-map (row_records skip body) (row_of schema)) ∙ none_over _ _ _ _ e

-- all that comes of a batch is put in
record IsPut (limits : Limits) (l : Log) (own : Batch) (c : Commit) : Type 0 where
  batches : List Batch
  failures : List Failure
  derived : IsDerived limits.cascade (rules l) (DueGives l) own (Made batches failures)
  room : nat_lt (length l) limits.commits ≡ true
  is : commits.Ingest batches failures ≡ c

cascade_put : (limits : Limits) (l : Log) (own : Batch) (c : Commit) (o : Cascade) → IsDerived limits.cascade (rules l) (DueGives l) own o → Commits c ≡ derived_due limits l o → IsPut limits l own c
cascade_put limits l own c (Made batches failures) derived e =
    let (room, is) = counted-commit limits l (commits.Ingest batches failures) c e in
    record { batches = batches; failures = failures; derived = derived; room = room; is = is }
cascade_put limits l own c (Failed target cause) derived e = absurd (no_commit c (refusals.PolicyFailed (name_of l target) cause) e)
cascade_put limits l own c TooMany derived e = absurd (no_commit c (refusals.Full limits.cascade) e)

no_skip : (c : Commit) (cursor : ℕ) → Commits c ≡ Says (replies.Skipped cursor) → ⊥
no_skip c cursor e = cc

tagged_put : (limits : Limits) (l : Log) (own : Batch) (c : Commit) (o : Option ℕ) → IsTaggedDue limits l own o (Commits c) → IsPut limits l own c
tagged_put limits l own c (Some cursor) due = absurd (no_skip c cursor due)
tagged_put limits l own c None due = cascade_put limits l own c due.cascade due.derived due.due_so

good_values : (c : Commit) (o : Option ℕ) (IsElseDue : Due → Type 0) → IsValuesDue o IsElseDue (Commits c) → IsElseDue (Commits c)
good_values c None IsElseDue due = due
good_values c (Some at) IsElseDue due = absurd (no_commit c (refusals.BadTags at) due)

body_put : (limits : Limits) (l : Log) (own : Batch) (barring : List (List ℕ)) (c : Commit) (fault : Option IngestFault) → IsBodyDue limits l own barring fault (Commits c) → (fault ≡ None) × IsPut limits l own c
body_put limits l own barring c (Some fault) due = absurd (no_commit c (refusal_of fault) due)
body_put limits l own barring c None due = (refl, tagged_put limits l own c (least_tagged l own.table barring) due)

rows_put : (limits : Limits) (l : Log) (i : Ingestion) (found : NumberedTable) (c : Commit) → IsRowsDue limits l i found (Commits c)
    → (first_fault found.table.schema i.properties.ignore_first limits.batch i.body ≡ None) × IsPut limits l (own_batch found i) c
rows_put limits l i found c due = body_put limits l (own_batch found i) (barring_tags i.properties) c (first_fault found.table.schema i.properties.ignore_first limits.batch i.body) (good_values c (bad_tags i.properties) _ due)

own_ingestion : (limits : Limits) (l : Log) (i : Ingestion) (found : NumberedTable) (c : Commit) → table_numbered i.table.text (tables l) ≡ Some found → (put : IsPut limits l (own_batch found i) c) → IsIngestion limits l put.batches put.failures
own_ingestion limits l i found c named put = record {
  own = own_batch found i;
  table = found.table;
  stands = (table_numbered-at i.table.text (tables l) found named).1;
  typed = rows_typed found.table.schema (row_records i.properties.ignore_first i.body);
  derived = put.derived;
}

free_batch : (limits : Limits) (l : Log) (rows : ℕ) → nat_lt limits.batch rows ≡ false → nat_lt (length l) limits.commits ≡ true → batch_violation limits l rows ≡ None
free_batch limits l rows few room = rw (few, room) refl

rows-fit : (limits : Limits) (l : Log) (i : Ingestion) (found : NumberedTable) (c : Commit) → table_numbered i.table.text (tables l) ≡ Some found → IsRowsDue limits l i found (Commits c) → IsFit limits l c
rows-fit limits l i found c named due =
    let (sound, put) = rows_put limits l i found c due in
    let led = IsDerived-led limits.cascade (rules l) (DueGives l) (own_batch found i) put.batches put.failures put.derived in
    let few = few_rows found.table.schema i.properties.ignore_first limits.batch i.body sound in
    let violation = ap (batch_violation limits l) (ap own_rows led.is) ∙ free_batch limits l (length (own_batch found i).rows) few put.room in
    subst (IsFit limits l) put.is (record { room = ltb-true (length l) limits.commits put.room; lawful = (own_ingestion limits l i found c named put, violation) })

ingest-fit : (limits : Limits) (l : Log) (i : Ingestion) (o : Option NumberedTable) (c : Commit) → table_numbered i.table.text (tables l) ≡ o → IsIngestDue limits l i o (Commits c) → IsFit limits l c
ingest-fit limits l i None c named due = absurd (no_commit c (refusals.Unknown i.table.at) due)
ingest-fit limits l i (Some found) c named due = rows-fit limits l i found c named due

-- rows that are put in are no view
pub ingest-no_view : (limits : Limits) (l : Log) (i : Ingestion) (o : Option NumberedTable) (c : Commit) → IsIngestDue limits l i o (Commits c) → MakesNoView c
ingest-no_view limits l i None c due = absurd (no_commit c (refusals.Unknown i.table.at) due)
ingest-no_view limits l i (Some found) c due = subst MakesNoView (rows_put limits l i found c due).1.is tt

-- ---- views

-- the commit makes the view of a bound body
record IsMaking (limits : Limits) (l : Log) (view : NewView) (number : ℕ) (p : Planned) (c : Commit) : Type 0 where
  room : length l < limits.commits
  violation : view_violation limits l view.name.text ≡ None
  makes : MakesView l view number p (Commits c)

counts : (limits : Limits) (l : Log) (view : NewView) (number : ℕ) (p : Planned) (c : Commit) (few room : Bool) → nat_lt (view_count l) limits.views ≡ few → nat_lt (length l) limits.commits ≡ room → table_named view.name.text (tables l) ≡ None → is_view view.name.text l ≡ false
    → IsWithinViews limits l view number p few room (Commits c) → IsMaking limits l view number p c
counts limits l view number p c false room is has unnamed unviewed e = absurd (no_commit c (refusals.Full limits.views) e)
counts limits l view number p c true false is has unnamed unviewed e = absurd (no_commit c (refusals.Full limits.commits) e)
counts limits l view number p c true true is has unnamed unviewed e = record { room = ltb-true (length l) limits.commits has; violation = rw (unnamed, unviewed, is, has) refl; makes = e }

place_within : (n : ℕ) (name : List ℕ) (xs : List (List ℕ)) (k : ℕ) → place_from n name xs ≡ Some k → k < n + length xs
place_within n name [] k is = cc
place_within n name (x ∷ xs) k is = by_test (pointwise nat_eq x name) is (place_within (n + 1) name xs k)
  where
    by_test : (b : Bool) → cond b (Some n) (place_from (n + 1) name xs) ≡ Some k → (place_from (n + 1) name xs ≡ Some k → k < n + 1 + length xs) → k < n + length (x ∷ xs)
    by_test true e later = let same : n ≡ k = cc in omega (arith, same)
    by_test false e later = let within = later e in omega (arith, within)

none_within : (vs : List Viewed) (k : ℕ) → k < length vs → slice_get vs k ≡ None → ⊥
none_within [] k within e = omega (arith, within)
none_within (v ∷ vs) zero within e = cc
none_within (v ∷ vs) (suc k) within e = none_within vs k (omega (arith, within)) e

no_place : (name : List ℕ) (vs : List Viewed) (o : Option ℕ) → place_of name (names_of_views vs) ≡ o → option_and_then (slice_get vs) o ≡ None → is_some o ≡ false
no_place name vs None at e = refl
no_place name vs (Some k) at e =
    let long = length-map vs (λ (v : Viewed). v.view.name) in
    let within = place_within 0 name (names_of_views vs) k at in
    absurd (none_within vs k (omega (arith, within, long)) e)

-- a name that no view has is none of a view
view_named-none : (name : List ℕ) (l : Log) → view_named name l ≡ None → is_view name l ≡ false
view_named-none name l none = sym (placed name (names_of_views (views l))) ∙ no_place name (views l) (place_of name (names_of_views (views l))) refl none

stood_none : (c : Commit) (view : NewView) (v : Viewed) → Commits c ≡ stood_due view v → ⊥
stood_none c view v e = by_test view.unless_there e
  where
    by_test : (b : Bool) → Commits c ≡ cond b (Says (replies.Kept v.made)) (refused (refusals.Exists view.name.at)) → ⊥
    by_test true e = cc
    by_test false e = cc

new_making : (limits : Limits) (l : Log) (view : NewView) (number : ℕ) (p : Planned) (c : Commit) (o : Option Table) → table_named view.name.text (tables l) ≡ o → is_view view.name.text l ≡ false → IsNewDue limits l view number p o (Commits c) → IsMaking limits l view number p c
new_making limits l view number p c (Some t) named unviewed e = absurd (no_commit c (refusals.Exists view.name.at) e)
new_making limits l view number p c None named unviewed e = counts limits l view number p c (nat_lt (view_count l) limits.views) (nat_lt (length l) limits.commits) refl refl named unviewed e

planned_making : (limits : Limits) (l : Log) (view : NewView) (number : ℕ) (p : Planned) (c : Commit) (o : Option Viewed) → view_named view.name.text l ≡ o → IsPlannedDue limits l view number p o (Commits c) → IsMaking limits l view number p c
planned_making limits l view number p c (Some v) named e = absurd (stood_none c view v e)
planned_making limits l view number p c None named e = new_making limits l view number p c (table_named view.name.text (tables l)) refl (view_named-none view.name.text l named) e

base_of_new : (backfill : Bool) (at base : ℕ) → base ≡ base_for backfill at → (base ≡ 0) ⊎ (base ≡ at)
base_of_new true at base is = inl is
base_of_new false at base is = inr is

made_new : (limits : Limits) (l : Log) (view : NewView) (table : NumberedTable) (p : Planned) (v : View) → table_numbered view.table.text (tables l) ≡ Some table → IsBody table.table.name table.table.schema p → view_violation limits l view.name.text ≡ None
    → IsViewMade l view table.number p v → IsNewView limits l v
made_new limits l view table p v named body violation made = record {
  table = table.table;
  stands = ap (slice_get (tables l)) made.source ∙ (table_numbered-at view.table.text (tables l) table named).1;
  body = subst (IsBody table.table.name table.table.schema) (sym made.body) body;
  base = base_of_new view.backfill (length l + 1) v.base made.base;
  within = ap (view_violation limits l) made.name ∙ violation;
}

view_lawful : (limits : Limits) (l : Log) (view : NewView) (table : NumberedTable) (p : Planned) (c : Commit) → table_numbered view.table.text (tables l) ≡ Some table → IsBody table.table.name table.table.schema p → IsMaking limits l view table.number p c → IsFit limits l c
view_lawful limits l view table p (commits.CreateTable name schema) named body making = absurd making.makes
view_lawful limits l view table p (commits.CreateView v) named body making =
    record { room = making.room; lawful = made_new limits l view table p v named body making.violation making.makes }
view_lawful limits l view table p (commits.SetPolicy target entries) named body making = absurd making.makes
view_lawful limits l view table p (commits.AlterMerge more columns) named body making = absurd making.makes
view_lawful limits l view table p (commits.Ingest batches failures) named body making = absurd making.makes

bound_fit : (limits : Limits) (l : Log) (view : NewView) (table : NumberedTable) (v : Verdict Planned) (c : Commit) → table_numbered view.table.text (tables l) ≡ Some table → IsBoundDue limits l view table v (Commits c) → IsFit limits l c
bound_fit limits l view table (Err fault) c named e = absurd (no_commit c (refusal_by fault) e)
bound_fit limits l view table (Ok p) c named (inl formed) =
    view_lawful limits l view table p c named formed.body (planned_making limits l view table.number p c (view_named view.name.text l) refl formed.due_so)
bound_fit limits l view table (Ok p) c named (inr unformed) = absurd (no_commit c (refusals.BadView unformed.at) unformed.is)

view-fit : (limits : Limits) (l : Log) (view : NewView) (o : Option NumberedTable) (c : Commit) → table_numbered view.table.text (tables l) ≡ o → IsViewDue limits l view o (Commits c) → IsFit limits l c
view-fit limits l view None c named due = absurd (no_commit c (refusals.Unknown view.table.at) due)
view-fit limits l view (Some table) c named due = bound_fit limits l view table due.0 c named due.2

-- ---- all

-- a commit is due to a good text alone
pub Due-is_good : (limits : Limits) (l : Log) (change : Change) (c : Commit) → IsChangeDue limits l change (Commits c) → (text_refusal change ≡ None) × IsDueByLog limits l change (Commits c)
Due-is_good limits l change c due = by_text (text_refusal change) refl due
  where
    by_text : (o : Option Refusal) → text_refusal change ≡ o → IsDueByText limits l change o (Commits c) → (text_refusal change ≡ None) × IsDueByLog limits l change (Commits c)
    by_text None good by = (good, by)
    by_text (Some r) bad e = absurd (no_commit c r e)

Due-fit : (limits : Limits) (l : Log) (change : Change) (c : Commit) → text_refusal change ≡ None → IsDueByLog limits l change (Commits c) → IsFit limits l c
Due-fit limits l (CreateTable name columns) c good due = table-fit limits l name columns c due.0 (different_names columns good) due.1
Due-fit limits l (AlterMerge name columns) c good due = widening-fit limits l name columns (table_numbered name.text (tables l)) c (different_names columns good) refl due
Due-fit limits l (Ingest i) c good due = ingest-fit limits l i (table_numbered i.table.text (tables l)) c refl due
Due-fit limits l (CreateView view) c good due = view-fit limits l view (table_numbered view.table.text (tables l)) c refl due
Due-fit limits l (SetPolicy target policy) c good due = policy-fit limits l target policy (table_numbered target.text (tables l)) c refl due

-- a commit that is due is lawful, and one more is allowed
pub Due-lawful : (limits : Limits) (l : Log) (change : Change) (c : Commit) → IsChangeDue limits l change (Commits c) → IsFit limits l c
Due-lawful limits l change c due = let (good, by) = Due-is_good limits l change c due in Due-fit limits l change c good by

pub Commit-lawful : (limits : Limits) (l : Log) (command : Command) (c : Commit) → IsCommitDue limits l command c → IsFit limits l c
Commit-lawful limits l (commands.Query query) c due = absurd due
Commit-lawful limits l (commands.Show show) c due = absurd due
Commit-lawful limits l (commands.Change change) c due = Due-lawful limits l change c due.0
Commit-lawful limits l (commands.Merge table) c due = absurd due
Commit-lawful limits l (commands.Fold view) c due = absurd due
