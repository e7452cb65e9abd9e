-- What a change of the catalogue is due after a log: a reply alone, or a commit with its reply.
use Rattle.std.specs.Prelude.{◌≡◌, ◌<◌, ◌+◌, ℕ, Bool, List, [], ◌∷◌, length, map, min, Option, Some, None, option_and_then, slice_get, nat_lt, if◌then◌else◌, unwrap_or, ◌⊎◌, true, false, Ok, Err}
use Rattle.std.specs.Option.{option_map, option_or}
use Rattle.kq_value.specs.declared.schema.Field.{Field}
use Rattle.kq_value.specs.Schema.{same_fields}
use Rattle.kq_catalog_journal.specs.declared.batch.Batch.{Batch}
use Rattle.kq_catalog_journal.specs.declared.event.Commit.{Commit}
use Rattle.kq_catalog_journal.specs.declared.event.Commit.TheVariants as commits
use Rattle.kq_catalog_journal.specs.declared.limits.Limits.{Limits}
use Rattle.kq_catalog_journal.specs.declared.table.Table.{Table}
use Rattle.kq_catalog_journal.specs.Beside.{DueGives}
use Rattle.kq_catalog_journal.specs.Derived.{Cascade, IsDerived, Made, Failed, TooMany}
use Rattle.kq_catalog_journal.specs.History.{Log, tables, table_named, is_view, NumberedTable, table_numbered, History, Viewed, log, names_of_views, view_count, views}
use Rattle.kq_catalog_journal.specs.Lawful.{own_rows}
use Rattle.kq_catalog_journal.specs.kq_value_text_sets.Names.{repeat_of}
use Rattle.kq_catalog_journal.specs.Policies.{rules}
use Rattle.kq_catalog_journal.specs.Tagged.{ingested_by, least_tagged}
use Rattle.kq_read_commands.specs.declared.columns.Column.{Column}
use Rattle.kq_read_commands.specs.declared.columns.Identifier.{Identifier}
use Rattle.kq_read_commands.specs.declared.command.Change.{Change}
use Rattle.kq_read_commands.specs.declared.command.Change.TheVariants.{CreateTable, AlterMerge, Ingest, CreateView, SetPolicy}
use Rattle.kq_read_commands.specs.declared.ingestion.Ingestion.{Ingestion}
use Rattle.kq_read_commands.specs.declared.ingestion.Properties.{Properties}
use Rattle.kq_read_commands.specs.declared.ingestion.Quoted.{Quoted}
use Rattle.kq_read_commands.specs.Columns.{schema_of, column_names}
use Rattle.kq_read_commands.specs.Widening.{first_clash, new_columns}
use Rattle.kq_store_ingest.specs.declared.fault.IngestFault.{IngestFault}
use Rattle.kq_store_ingest.specs.declared.fault.IngestFault.TheVariants as faults
use Rattle.kq_store_ingest.specs.Ingestion.{rows_of, first_fault}
use Rattle.kq_store_ingest.specs.TagTexts.{tags_of}
use Rattle.kq_reply.specs.declared.refusal.Refusal.{Refusal}
use Rattle.kq_reply.specs.declared.refusal.Refusal.TheVariants as refusals
use Rattle.kq_reply.specs.declared.reply.Reply.{Reply}
use Rattle.kq_reply.specs.declared.reply.Reply.TheVariants as replies
use Rattle.kq_view_body.specs.kq_bind_query.Queries.{query_bound}
use Rattle.kq_view_body.specs.declared.view_fault.ViewFault.{ViewFault}
use Rattle.kq_view_body.specs.declared.view_fault.ViewFault.TheVariants as unbound
use Rattle.kq_bind_expressions.specs.Verdicts.{Verdict}
use Rattle.kq_view_body.specs.kq_bind_supported.Unsupported.{unsupported_query}
use Rattle.kq_view_body.specs.Bodies.{IsBodyFault, is_body}
use Rattle.kq_view_body.specs.Parts.{query_parts}
use Rattle.kq_read_commands.specs.declared.definition.NewView.{NewView}
use Rattle.kq_view_body.specs.kq_run_gather.Bodies.{IsBody}
use Rattle.kq_read_grammar.specs.TabularViews.{query_of}
use Rattle.kq_read_grammar.specs.Trees.{QueryTree}
use Rattle.kq_policy_entries.specs.declared.fault.EntriesFault.{EntriesFault}
use Rattle.kq_policy_entries.specs.declared.fault.EntriesFault.TheVariants as unread
use Rattle.kq_policy_entries.specs.Entries.{IsBadPolicy, IsPolicyOf}
use Rattle.kq_catalog_journal.specs.declared.policy.Entry.{Entry}
use Rattle.kq_catalog_journal.specs.Cycles.{IsOnCycle}
use Rattle.kq_catalog_journal.specs.Policies.{policies, with_policy}
use Rattle.kq_catalog_journal.specs.declared.view.View.{View}
use Rattle.kq_catalog_indexes.specs.Places.{place_of}
use Rattle.kq_plan.specs.Names.{Known}
use Rattle.kq_plan.specs.Plans.{Planned, planned_of}
use Rattle.kq_policy_entries.specs.declared.json_fault.JsonFault.TheVariants as json
use Rattle.kq_policy_entries.specs.PolicyTexts.{fault_of}
use Rattle.kq_engine_query.specs.Answers.{refusal_by}
use Rattle.kq_engine_query.specs.Worlds.{known_in}
use Rattle.kq_engine_show.specs.JournalRows.{name_of}

-- what is due: a reply alone, or a commit
pub data Due : Type 0 where
  Says : Reply → Due
  Commits : Commit → Due

abbrev pub refused : Refusal → Due
refused r = Says (replies.Refused r)

-- the reply to a commit, by its cursor
abbrev pub reply_to : Commit → ℕ → Reply
reply_to (commits.CreateTable name schema) cursor = replies.Done cursor
reply_to (commits.SetPolicy table entries) cursor = replies.Done cursor
reply_to (commits.CreateView view) cursor = replies.Done cursor
reply_to (commits.AlterMerge table columns) cursor = replies.Done cursor
reply_to (commits.Ingest batches failures) cursor = replies.Ingested cursor (own_rows batches)

-- a commit that nothing else bars, where one more is allowed
abbrev pub counted : Limits → Log → Commit → Due
counted limits l c = if nat_lt (length l) limits.commits then Commits c else refused (refusals.Full limits.commits)

-- ---- the text alone

-- the place of the first column whose name stands before it
abbrev pub repeated_place : List Column → Option ℕ
repeated_place columns = option_map (λ (c : Column). c.name.at) (option_and_then (slice_get columns) (repeat_of (column_names columns)))

abbrev pub tree_in : NewView → QueryTree
tree_in view = query_of view.body.tree

-- what the body has that isn't supported comes first, then a repeated property
abbrev pub view_refusal : NewView → Option Refusal
view_refusal view =
    option_or (option_map (λ (at : ℕ). refusals.Unsupported at) (unsupported_query view.body.text (tree_in view)))
    (option_map (λ (at : ℕ). refusals.Mistyped at) view.repeated)

-- the refusal of the text, whatever the log: a repeated column, a repeated property, or what isn't supported in the body of a view
abbrev pub text_refusal : Change → Option Refusal
text_refusal (CreateTable name columns) = option_map (λ (at : ℕ). refusals.Mistyped at) (repeated_place columns)
text_refusal (AlterMerge name columns) = option_map (λ (at : ℕ). refusals.Mistyped at) (repeated_place columns)
text_refusal (Ingest ingestion) = option_map (λ (at : ℕ). refusals.Mistyped at) ingestion.properties.repeated
text_refusal (CreateView view) = view_refusal view
text_refusal (SetPolicy target policy) = None

-- ---- `.create table`

-- a table that has the name is kept where it has these columns
abbrev pub kept_due : Identifier → List Field → Table → Due
kept_due name schema t = if same_fields t.schema schema then Says (replies.Kept t.made) else refused (refusals.Exists name.at)

-- a table is made where one more is allowed
abbrev pub made_due : Limits → Log → Identifier → List Field → Due
made_due limits l name schema =
    if nat_lt (length (tables l)) limits.tables then counted limits l (commits.CreateTable name.text schema) else refused (refusals.Full limits.tables)

-- where no table has the name, one is made unless a view has it
abbrev pub unnamed_due : Limits → Log → Identifier → List Field → Bool → Due
unnamed_due limits l name schema viewed = if viewed then refused (refusals.Exists name.at) else made_due limits l name schema

-- no table has the name
abbrev pub new_due : Limits → Log → Identifier → List Field → Due
new_due limits l name schema = unnamed_due limits l name schema (is_view name.text l)

abbrev pub named_due : Limits → Log → Identifier → List Field → Option Table → Due
named_due limits l name schema (Some t) = kept_due name schema t
named_due limits l name schema None = new_due limits l name schema

-- too many columns are refused, whether the name stands or not
abbrev pub table_due : Limits → Log → Identifier → List Field → Due
table_due limits l name schema =
    if nat_lt limits.columns (length schema) then refused (refusals.Full limits.columns) else named_due limits l name schema (table_named name.text (tables l))

-- ---- `.alter-merge table`

-- further columns of a table, within the limit and where one more commit is allowed
abbrev pub wider_due : Limits → Log → NumberedTable → List Field → Due
wider_due limits l found more =
    if nat_lt limits.columns (length found.table.schema + length more) then refused (refusals.Full limits.columns)
    else counted limits l (commits.AlterMerge found.number more)

-- a table that lacks none of the columns is kept as the last commit left it that made or widened it
abbrev pub lacking_due : Limits → Log → NumberedTable → List Field → Due
lacking_due limits l found [] = Says (replies.Kept found.table.widened)
lacking_due limits l found (f ∷ more) = wider_due limits l found (f ∷ more)

-- those of the columns that the table lacks
abbrev pub lacked_due : Limits → Log → NumberedTable → List Column → Due
lacked_due limits l found columns = lacking_due limits l found (schema_of (new_columns found.table.schema columns))

-- the first column is refused that the table has with another type
abbrev pub clash_due : Limits → Log → NumberedTable → List Column → Option ℕ → Due
clash_due limits l found columns (Some at) = refused (refusals.Mistyped at)
clash_due limits l found columns None = lacked_due limits l found columns

abbrev pub widening_due : Limits → Log → Identifier → List Column → Option NumberedTable → Due
widening_due limits l name columns None = refused (refusals.Unknown name.at)
widening_due limits l name columns (Some found) = clash_due limits l found columns (first_clash found.table.schema columns)

-- ---- `.ingest`: tags

-- the place of a value that is no JSON array of strings
abbrev pub place_unless : Option (List (List ℕ)) → ℕ → Option ℕ
place_unless (Some tags) at = None
place_unless None at = Some at

abbrev pub tag_fault : Option Quoted → Option ℕ
tag_fault None = None
tag_fault (Some value) = place_unless (tags_of value.text) value.at

abbrev pub leftmost : Option ℕ → Option ℕ → Option ℕ
leftmost None other = other
leftmost (Some at) None = Some at
leftmost (Some at) (Some other) = Some (min at other)

-- the leftmost of the two values that is no JSON array of strings
abbrev pub bad_tags : Properties → Option ℕ
bad_tags properties = leftmost (tag_fault properties.tags) (tag_fault properties.if_not_exists)

-- the strings of a value; none where it isn't given
abbrev pub strings_of : Option Quoted → List (List ℕ)
strings_of None = []
strings_of (Some value) = unwrap_or (tags_of value.text) []

-- the tags of which none may stand yet on an extent of the table
abbrev pub barring_tags : Properties → List (List ℕ)
barring_tags properties = map ingested_by (strings_of properties.if_not_exists)

-- ---- `.ingest`

-- the batch of an ingestion's own: the rows of its body with its tags, for a table
abbrev pub own_batch : NumberedTable → Ingestion → Batch
own_batch found i = record { table = found.number; rows = rows_of found.table.schema i.properties.ignore_first i.body; tags = strings_of i.properties.tags }

abbrev pub refusal_of : IngestFault → Refusal
refusal_of (faults.WideRow row) = refusals.WideRow row
refusal_of (faults.Full limit) = refusals.Full limit
refusal_of faults.Memory = refusals.Memory

-- what is due where a commit at this cursor gave the table one of the barring tags, and else
abbrev pub unless_tagged : Option ℕ → Due → Due
unless_tagged (Some cursor) due = Says (replies.Skipped cursor)
unless_tagged None due = due

-- all that comes of a batch by the update policies is put in; where its cascade fails nothing is, the batch itself neither
abbrev pub derived_due : Limits → Log → Cascade → Due
derived_due limits l (Made batches failures) = counted limits l (commits.Ingest batches failures)
derived_due limits l (Failed target cause) = refused (refusals.PolicyFailed (name_of l target) cause)
derived_due limits l TooMany = refused (refusals.Full limits.cascade)

-- a batch of its own is due what may come of it by the policies that the log leaves, over the tables as they are right after it
pub record IsCascadeDue (limits : Limits) (l : Log) (own : Batch) (due : Due) : Type 0 where
  pub cascade : Cascade
  pub derived : IsDerived limits.cascade (rules l) (DueGives l) own cascade
  pub due_so : due ≡ derived_due limits l cascade

abbrev pub IsTaggedDue : Limits → Log → Batch → Option ℕ → Due → Type 0
IsTaggedDue limits l own (Some cursor) due = due ≡ Says (replies.Skipped cursor)
IsTaggedDue limits l own None due = IsCascadeDue limits l own due

-- a batch is skipped where one of these tags stands on an extent of its table, and then no policy runs
abbrev pub IsBatchDue : Limits → Log → Batch → List (List ℕ) → Due → Type 0
IsBatchDue limits l own barring due = IsTaggedDue limits l own (least_tagged l own.table barring) due

-- a body is refused by its first fault
abbrev pub IsBodyDue : Limits → Log → Batch → List (List ℕ) → Option IngestFault → Due → Type 0
IsBodyDue limits l own barring (Some fault) due = due ≡ refused (refusal_of fault)
IsBodyDue limits l own barring None due = IsBatchDue limits l own barring due

-- values that aren't tags are refused first
abbrev pub IsValuesDue : Option ℕ → (Due → Type 0) → Due → Type 0
IsValuesDue (Some at) IsElseDue due = due ≡ refused (refusals.BadTags at)
IsValuesDue None IsElseDue due = IsElseDue due

-- into a table that stands
abbrev pub IsRowsDue : Limits → Log → Ingestion → NumberedTable → Due → Type 0
IsRowsDue limits l i found due =
    IsValuesDue (bad_tags i.properties)
    (IsBodyDue limits l (own_batch found i) (barring_tags i.properties) (first_fault found.table.schema i.properties.ignore_first limits.batch i.body)) due

abbrev pub IsIngestDue : Limits → Log → Ingestion → Option NumberedTable → Due → Type 0
IsIngestDue limits l i None due = due ≡ refused (refusals.Unknown i.table.at)
IsIngestDue limits l i (Some found) due = IsRowsDue limits l i found due

-- ---- `.create materialized-view`: its body

-- what the body is bound to over the names of the log, which are those of each history with the log
pub record IsBoundTo (l : Log) (view : NewView) (verdict : Verdict Planned) : Type 0 where
  pub history : History
  pub logged : log history ≡ l
  pub bound : query_bound view.body.text (known_in history) (tree_in view) ≡ verdict

-- the refusal of a fault, which may be want of memory
abbrev pub refusal_for : ViewFault → Refusal
refusal_for (unbound.Unsupported at) = refusals.Unsupported at
refusal_for (unbound.Unknown at) = refusals.Unknown at
refusal_for (unbound.Mistyped at) = refusals.Mistyped at
refusal_for (unbound.BadView at) = refusals.BadView at
refusal_for unbound.Memory = refusals.Memory

-- ---- `.create materialized-view`: its view

-- the cursor above which a view covers records: 0 with backfill, and else that of its own commit
abbrev pub base_for : Bool → ℕ → ℕ
base_for true made = 0
base_for false made = made

-- a view of the table of this number, with this plan as its body
pub record IsViewMade (l : Log) (view : NewView) (number : ℕ) (p : Planned) (v : View) : Type 0 where
  pub name : v.name ≡ view.name.text
  pub source : v.source ≡ number
  pub body : planned_of v.body ≡ p
  pub text : v.text ≡ view.query
  pub base : v.base ≡ base_for view.backfill (length l + 1)

abbrev pub MakesView : Log → NewView → ℕ → Planned → Due → Type 0
MakesView l view source p (Commits (commits.CreateView v)) = IsViewMade l view source p v
MakesView l view source p _ = ⊥

-- with so many views it is made, or refused by their limit
abbrev pub IsWithinViews : Limits → Log → NewView → ℕ → Planned → (few room : Bool) → Due → Type 0
IsWithinViews limits l view source p false room due = due ≡ refused (refusals.Full limits.views)
IsWithinViews limits l view source p true false due = due ≡ refused (refusals.Full limits.commits)
IsWithinViews limits l view source p true true due = MakesView l view source p due

-- nothing has the name
abbrev pub IsUntakenDue : Limits → Log → NewView → ℕ → Planned → Due → Type 0
IsUntakenDue limits l view source p due = IsWithinViews limits l view source p (nat_lt (view_count l) limits.views) (nat_lt (length l) limits.commits) due

-- the name isn't a view's: it is a table's, or new
abbrev pub IsNewDue : Limits → Log → NewView → ℕ → Planned → Option Table → Due → Type 0
IsNewDue limits l view source p (Some taken) due = due ≡ refused (refusals.Exists view.name.at)
IsNewDue limits l view source p None due = IsUntakenDue limits l view source p due

abbrev pub IsUnviewedDue : Limits → Log → NewView → ℕ → Planned → Due → Type 0
IsUnviewedDue limits l view source p due = IsNewDue limits l view source p (table_named view.name.text (tables l)) due

-- the view of a name
abbrev pub view_named : List ℕ → Log → Option Viewed
view_named name l = option_and_then (slice_get (views l)) (place_of name (names_of_views (views l)))

-- a view that stands is kept where that is asked, whatever it is
abbrev pub stood_due : NewView → Viewed → Due
stood_due view v = if view.unless_there then Says (replies.Kept v.made) else refused (refusals.Exists view.name.at)

abbrev pub IsPlannedDue : Limits → Log → NewView → ℕ → Planned → Option Viewed → Due → Type 0
IsPlannedDue limits l view source p (Some v) due = due ≡ stood_due view v
IsPlannedDue limits l view source p None due = IsUnviewedDue limits l view source p due

abbrev pub IsNamedDue : Limits → Log → NewView → ℕ → Planned → Due → Type 0
IsNamedDue limits l view source p due = IsPlannedDue limits l view source p (view_named view.name.text l) due

-- ---- `.create materialized-view`

-- a body that binds has the form of one over the table, as its plan then has too
pub record IsFormed (limits : Limits) (l : Log) (view : NewView) (table : NumberedTable) (p : Planned) (due : Due) : Type 0 where
  pub parts : is_body (query_parts view.body.text view.table.text (tree_in view)) ≡ true
  pub body : IsBody table.table.name table.table.schema p
  pub due_so : IsNamedDue limits l view table.number p due

-- or it leaves the form at this place
pub record IsUnformed (view : NewView) (due : Due) : Type 0 where
  pub at : ℕ
  pub leaves : IsBodyFault (query_parts view.body.text view.table.text (tree_in view)) at
  pub is : due ≡ refused (refusals.BadView at)

-- the binder's first fault comes before that of the form
abbrev pub IsBoundDue : Limits → Log → NewView → NumberedTable → Verdict Planned → Due → Type 0
IsBoundDue limits l view table (Err fault) due = due ≡ refused (refusal_by fault)
IsBoundDue limits l view table (Ok p) due = IsFormed limits l view table p due ⊎ IsUnformed view due

-- a view of a good text over the table of the name
abbrev pub IsViewDue : Limits → Log → NewView → Option NumberedTable → Due → Type 0
IsViewDue limits l view None due = due ≡ refused (refusals.Unknown view.table.at)
IsViewDue limits l view (Some table) due = (verdict : Verdict Planned) × IsBoundTo l view verdict × IsBoundDue limits l view table verdict due

-- ---- `.alter table policy update`

-- good entries that close no cycle are set where one more commit is allowed
pub record SetsPolicy (limits : Limits) (l : Log) (table : NumberedTable) (entries : List Entry) (due : Due) : Type 0 where
  pub no_cycle : IsOnCycle (with_policy table.number entries (policies l)) table.number → ⊥
  pub due_so : due ≡ counted limits l (commits.SetPolicy table.number entries)

-- or by them a batch of the table would come back to it; the table is told by its name
pub record ClosesCycle (l : Log) (table : NumberedTable) (entries : List Entry) (due : Due) : Type 0 where
  pub cycle : IsOnCycle (with_policy table.number entries (policies l)) table.number
  pub is : due ≡ refused (refusals.Cycle table.table.name)

abbrev pub IsEntriesDue : Limits → Log → NumberedTable → List Entry → Due → Type 0
IsEntriesDue limits l table entries due = SetsPolicy limits l table entries due ⊎ ClosesCycle l table entries due

-- over the names of the log, which are those of each history with the log, the text gives good entries
pub record GivesEntries (limits : Limits) (l : Log) (table : NumberedTable) (policy : List ℕ) (due : Due) : Type 0 where
  pub history : History
  pub logged : log history ≡ l
  pub entries : List Entry
  pub gives : IsPolicyOf (known_in history) l table.table.schema limits.policies policy entries
  pub due_so : IsEntriesDue limits l table entries due

-- the text has more entries than are allowed, or a bad one
abbrev pub RefusesPolicy : (List ℕ → Option Known) → Log → List Field → ℕ → List ℕ → Refusal → Type 0
RefusesPolicy known l target limit policy (refusals.Full most) = fault_of limit policy ≡ Some (json.Full most)
RefusesPolicy known l target limit policy (refusals.BadPolicy entry why) = IsBadPolicy known l target limit policy entry why
RefusesPolicy known l target limit policy _ = ⊥

pub record GivesNone (limits : Limits) (l : Log) (table : NumberedTable) (policy : List ℕ) (due : Due) : Type 0 where
  pub history : History
  pub logged : log history ≡ l
  pub refusal : Refusal
  pub refuses : RefusesPolicy (known_in history) l table.table.schema limits.policies policy refusal
  pub is : due ≡ refused refusal

abbrev pub IsTextDue : Limits → Log → NumberedTable → List ℕ → Due → Type 0
IsTextDue limits l table policy due = GivesEntries limits l table policy due ⊎ GivesNone limits l table policy due

-- a policy for the table of the name
abbrev pub IsPolicyDue : Limits → Log → Identifier → List ℕ → Option NumberedTable → Due → Type 0
IsPolicyDue limits l target policy None due = due ≡ refused (refusals.Unknown target.at)
IsPolicyDue limits l target policy (Some table) due = IsTextDue limits l table policy due

-- the refusal of a fault, which may be want of memory
abbrev pub policy_refusal : EntriesFault → Refusal
policy_refusal (unread.Full limit) = refusals.Full limit
policy_refusal (unread.Bad entry why) = refusals.BadPolicy entry why
policy_refusal unread.Memory = refusals.Memory

-- ---- all

-- what a change of a good text is due; a table has one column or more
abbrev pub IsDueByLog : Limits → Log → Change → Due → Type 0
IsDueByLog limits l (CreateTable name columns) due = (0 < length columns) × (due ≡ table_due limits l name (schema_of columns))
IsDueByLog limits l (AlterMerge name columns) due = due ≡ widening_due limits l name columns (table_numbered name.text (tables l))
IsDueByLog limits l (Ingest ingestion) due = IsIngestDue limits l ingestion (table_numbered ingestion.table.text (tables l)) due
IsDueByLog limits l (CreateView view) due = IsViewDue limits l view (table_numbered view.table.text (tables l)) due
IsDueByLog limits l (SetPolicy target policy) due = IsPolicyDue limits l target policy (table_numbered target.text (tables l)) due

abbrev pub IsDueByText : Limits → Log → Change → Option Refusal → Due → Type 0
IsDueByText limits l change (Some r) due = due ≡ refused r
IsDueByText limits l change None due = IsDueByLog limits l change due

-- what a change is due after a log: the refusal of its text comes first
abbrev pub IsChangeDue : Limits → Log → Change → Due → Type 0
IsChangeDue limits l change due = IsDueByText limits l change (text_refusal change) due

-- the log admits this reply to the change, and this commit
abbrev pub Accept : Limits → Log → Change → Reply → Option Commit → Type 0
Accept limits l change reply None = IsChangeDue limits l change (Says reply)
Accept limits l change reply (Some c) = IsChangeDue limits l change (Commits c) × (reply ≡ reply_to c (length l + 1))
