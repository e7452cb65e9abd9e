-- No command of the engine is answered by a fault of artefacts.
use Rattle.std.proofs.Common.{◌≡◌, ◌≢◌, ◌+◌, ℕ, ℤ, Bool, true, false, cond, List, [], ◌∷◌, length, nat_lt, take, Option, Some, None, Ok, Err, inl, inr, ap, sym, ◌∙◌, subst}
use Rattle.std.specs.Option.{option_map, option_or}
use Rattle.kq_value.specs.declared.schema.Field.{Field}
use Rattle.kq_value.specs.Schema.{same_fields}
use Rattle.kq_catalog_journal.specs.declared.batch.Batch.{Batch}
use Rattle.kq_catalog_journal.specs.declared.event.By.{By}
use Rattle.kq_catalog_journal.specs.declared.event.Commit.{Commit}
use Rattle.kq_catalog_journal.specs.declared.event.Commit.TheVariants as commits
use Rattle.kq_catalog_journal.specs.declared.limits.Limits.{Limits}
use Rattle.kq_catalog_journal.specs.declared.policy.Entry.{Entry}
use Rattle.kq_catalog_journal.specs.declared.table.Table.{Table}
use Rattle.kq_catalog_journal.specs.Derived.{Cascade, Failed, Made, TooMany}
use Rattle.kq_catalog_journal.specs.History.{History, Log, NumberedTable, Viewed, is_view, log, tables, table_named, table_numbered, view_count}
use Rattle.kq_catalog_journal.specs.Tagged.{least_tagged}
use Rattle.kq_read_commands.specs.declared.columns.Column.{Column}
use Rattle.kq_read_commands.specs.declared.columns.Identifier.{Identifier}
use Rattle.kq_read_commands.specs.declared.command.Change.{Change}
use Rattle.kq_read_commands.specs.declared.command.Change.TheVariants.{CreateTable, AlterMerge, Ingest, CreateView, SetPolicy}
use Rattle.kq_read_commands.specs.declared.command.Command.{Command}
use Rattle.kq_read_commands.specs.declared.command.Command.TheVariants as commands
use Rattle.kq_read_commands.specs.declared.command.Show.{Show}
use Rattle.kq_read_commands.specs.declared.command.Show.TheVariants as shows
use Rattle.kq_read_commands.specs.declared.definition.NewView.{NewView}
use Rattle.kq_read_commands.specs.declared.ingestion.Ingestion.{Ingestion}
use Rattle.kq_read_commands.specs.Columns.{schema_of}
use Rattle.kq_read_commands.specs.Widening.{first_clash, new_columns}
use Rattle.kq_view_body.specs.kq_bind_supported.Unsupported.{unsupported_query}
use Rattle.kq_bind_expressions.specs.Verdicts.{Verdict}
use Rattle.kq_read_grammar.specs.TabularViews.{query_of}
use Rattle.kq_store_ingest.specs.declared.fault.IngestFault.{IngestFault}
use Rattle.kq_store_ingest.specs.declared.fault.IngestFault.TheVariants as faults
use Rattle.kq_store_ingest.specs.Ingestion.{first_fault}
use Rattle.kq_plan.specs.Names.{Known}
use Rattle.kq_plan.specs.Plans.{Planned}
use Rattle.kq_engine_query.specs.Answers.{refusal_by}
use Rattle.kq_engine_query.specs.Worlds.{known_in}
use Rattle.kq_engine_query.proofs.Failing.{IsOther, TellsNone, bind_other, none_by, other_refused, printed_none, query_none}
use Rattle.kq_reply.specs.declared.refusal.Refusal.{Refusal}
use Rattle.kq_reply.specs.declared.refusal.Refusal.TheVariants as refusals
use Rattle.kq_reply.specs.declared.reply.Reply.{Reply}
use Rattle.kq_reply.specs.declared.reply.Reply.TheVariants as replies
use Rattle.kq_reply.specs.Number.{kind_of}
use Rattle.kq_engine_show.specs.JournalRows.{name_of}
use Rattle.kq_engine_prepare.specs.Due.{Due, Says, Commits, IsBodyDue, IsBoundDue, IsDueByLog, IsDueByText, IsEntriesDue, IsIngestDue, IsNewDue, IsPlannedDue, IsPolicyDue, IsTaggedDue, IsValuesDue, IsViewDue, IsWithinViews, MakesView, RefusesPolicy, bad_tags, barring_tags, clash_due, counted, derived_due, lacking_due, made_due, named_due, own_batch, refused, refusal_of, repeated_place, stood_due, table_due, text_refusal, tree_in, view_named, widening_due}
use Rattle.kq_engine_prepare.specs.Fits.{Fits, FitsNow, IsDue}
use Rattle.kq_engine_prepare.specs.Folds.{FoldsNamed, FoldsView, view_number}
use Rattle.kq_engine_prepare.specs.Merges.{MergesNamed, MergesTable}
use Rattle.kq_engine_prepare.specs.Shows.{AnswersShow, ShowsExtents, ShowsView}
use Rattle.kq_engine_prepare.proofs.Accepting.{Accept-commit}

-- ---- other refusals

ingest_other : (fault : IngestFault) → IsOther (refusal_of fault)
ingest_other (faults.WideRow row) = λ e. cc
ingest_other (faults.Full limit) = λ e. cc
ingest_other faults.Memory = λ e. cc

policy_other : (known : List ℕ → Option Known) (l : Log) (target : List Field) (limit : ℕ) (policy : List ℕ) (r : Refusal) → RefusesPolicy known l target limit policy r → IsOther r
policy_other known l target limit policy r refuses = λ e. subst (RefusesPolicy known l target limit policy) e refuses

-- ---- changes

abbrev IsQuiet : Due → Type 0
IsQuiet (Says reply) = TellsNone reply
IsQuiet (Commits c) = Unit {0}

quiet_if : (b : Bool) (x y : Due) → IsQuiet x → IsQuiet y → IsQuiet (cond b x y)
quiet_if true x y quiet other = quiet
quiet_if false x y quiet other = other

counted_quiet : (limits : Limits) (l : Log) (c : Commit) → IsQuiet (counted limits l c)
counted_quiet limits l c = quiet_if (nat_lt (length l) limits.commits) (Commits c) (refused (refusals.Full limits.commits)) tt (λ e. cc)

named_quiet : (limits : Limits) (l : Log) (name : Identifier) (schema : List Field) (o : Option Table) → IsQuiet (named_due limits l name schema o)
named_quiet limits l name schema (Some t) = quiet_if (same_fields t.schema schema) (Says (replies.Kept t.made)) (refused (refusals.Exists name.at)) (λ e. cc) (λ e. cc)
named_quiet limits l name schema None =
    let made = commits.CreateTable name.text schema in
    quiet_if (is_view name.text l) (refused (refusals.Exists name.at)) (made_due limits l name schema) (λ e. cc)
    (quiet_if (nat_lt (length (tables l)) limits.tables) (counted limits l made) (refused (refusals.Full limits.tables)) (counted_quiet limits l made) (λ e. cc))

table_quiet : (limits : Limits) (l : Log) (name : Identifier) (schema : List Field) → IsQuiet (table_due limits l name schema)
table_quiet limits l name schema =
    let named = table_named name.text (tables l) in
    quiet_if (nat_lt limits.columns (length schema)) (refused (refusals.Full limits.columns)) (named_due limits l name schema named) (λ e. cc) (named_quiet limits l name schema named)

lacking_quiet : (limits : Limits) (l : Log) (found : NumberedTable) (more : List Field) → IsQuiet (lacking_due limits l found more)
lacking_quiet limits l found [] = λ e. cc
lacking_quiet limits l found (f ∷ more) =
    let wider = commits.AlterMerge found.number (f ∷ more) in
    quiet_if (nat_lt limits.columns (length found.table.schema + length (f ∷ more))) (refused (refusals.Full limits.columns)) (counted limits l wider) (λ e. cc) (counted_quiet limits l wider)

clash_quiet : (limits : Limits) (l : Log) (found : NumberedTable) (columns : List Column) (clash : Option ℕ) → IsQuiet (clash_due limits l found columns clash)
clash_quiet limits l found columns (Some at) = λ e. cc
clash_quiet limits l found columns None = lacking_quiet limits l found (schema_of (new_columns found.table.schema columns))

widening_quiet : (limits : Limits) (l : Log) (name : Identifier) (columns : List Column) (o : Option NumberedTable) → IsQuiet (widening_due limits l name columns o)
widening_quiet limits l name columns None = λ e. cc
widening_quiet limits l name columns (Some found) = clash_quiet limits l found columns (first_clash found.table.schema columns)

stood_quiet : (view : NewView) (v : Viewed) → IsQuiet (stood_due view v)
stood_quiet view v = quiet_if view.unless_there (Says (replies.Kept v.made)) (refused (refusals.Exists view.name.at)) (λ e. cc) (λ e. cc)

quiet_by : (due other : Due) → due ≡ other → IsQuiet other → IsQuiet due
quiet_by due other is quiet = subst IsQuiet (sym is) quiet

quiet_refusal : (due : Due) (r : Refusal) → IsOther r → due ≡ refused r → IsQuiet due
quiet_refusal due r other is = quiet_by due (refused r) is (other_refused r other)

derived_quiet : (limits : Limits) (l : Log) (o : Cascade) → IsQuiet (derived_due limits l o)
derived_quiet limits l (Made batches failures) = counted_quiet limits l (commits.Ingest batches failures)
derived_quiet limits l (Failed target cause) = λ e. cc
derived_quiet limits l TooMany = λ e. cc

tagged_quiet : (limits : Limits) (l : Log) (own : Batch) (o : Option ℕ) (due : Due) → IsTaggedDue limits l own o due → IsQuiet due
tagged_quiet limits l own (Some cursor) due is = quiet_by due (Says (replies.Skipped cursor)) is (λ e. cc)
tagged_quiet limits l own None due is = quiet_by due (derived_due limits l is.cascade) is.due_so (derived_quiet limits l is.cascade)

body_quiet : (limits : Limits) (l : Log) (own : Batch) (barring : List (List ℕ)) (fault : Option IngestFault) (due : Due) → IsBodyDue limits l own barring fault due → IsQuiet due
body_quiet limits l own barring (Some fault) due is = quiet_refusal due (refusal_of fault) (ingest_other fault) is
body_quiet limits l own barring None due is = tagged_quiet limits l own (least_tagged l own.table barring) due is

values_quiet : (o : Option ℕ) (IsElseDue : Due → Type 0) (due : Due) → (IsElseDue due → IsQuiet due) → IsValuesDue o IsElseDue due → IsQuiet due
values_quiet None IsElseDue due quiet is = quiet is
values_quiet (Some at) IsElseDue due quiet is = quiet_refusal due (refusals.BadTags at) (λ e. cc) is

ingest_quiet : (limits : Limits) (l : Log) (i : Ingestion) (o : Option NumberedTable) (due : Due) → IsIngestDue limits l i o due → IsQuiet due
ingest_quiet limits l i None due is = quiet_refusal due (refusals.Unknown i.table.at) (λ e. cc) is
ingest_quiet limits l i (Some found) due is =
    values_quiet (bad_tags i.properties) _ due (body_quiet limits l (own_batch found i) (barring_tags i.properties) (first_fault found.table.schema i.properties.ignore_first limits.batch i.body) due) is

makes_quiet : (l : Log) (view : NewView) (number : ℕ) (p : Planned) (due : Due) → MakesView l view number p due → IsQuiet due
makes_quiet l view number p (Says reply) makes = absurd makes
makes_quiet l view number p (Commits c) makes = tt

counts_quiet : (limits : Limits) (l : Log) (view : NewView) (number : ℕ) (p : Planned) (few room : Bool) (due : Due) → IsWithinViews limits l view number p few room due → IsQuiet due
counts_quiet limits l view number p false room due is = quiet_refusal due (refusals.Full limits.views) (λ e. cc) is
counts_quiet limits l view number p true false due is = quiet_refusal due (refusals.Full limits.commits) (λ e. cc) is
counts_quiet limits l view number p true true due is = makes_quiet l view number p due is

new_quiet : (limits : Limits) (l : Log) (view : NewView) (number : ℕ) (p : Planned) (o : Option Table) (due : Due) → IsNewDue limits l view number p o due → IsQuiet due
new_quiet limits l view number p (Some t) due is = quiet_refusal due (refusals.Exists view.name.at) (λ e. cc) is
new_quiet limits l view number p None due is = counts_quiet limits l view number p (nat_lt (view_count l) limits.views) (nat_lt (length l) limits.commits) due is

planned_quiet : (limits : Limits) (l : Log) (view : NewView) (number : ℕ) (p : Planned) (o : Option Viewed) (due : Due) → IsPlannedDue limits l view number p o due → IsQuiet due
planned_quiet limits l view number p (Some v) due is = quiet_by due (stood_due view v) is (stood_quiet view v)
planned_quiet limits l view number p None due is = new_quiet limits l view number p (table_named view.name.text (tables l)) due is

bound_quiet : (limits : Limits) (l : Log) (view : NewView) (table : NumberedTable) (v : Verdict Planned) (due : Due) → IsBoundDue limits l view table v due → IsQuiet due
bound_quiet limits l view table (Err fault) due is = quiet_refusal due (refusal_by fault) (bind_other fault) is
bound_quiet limits l view table (Ok p) due (inl formed) = planned_quiet limits l view table.number p (view_named view.name.text l) due formed.due_so
bound_quiet limits l view table (Ok p) due (inr unformed) = quiet_refusal due (refusals.BadView unformed.at) (λ e. cc) unformed.is

view_quiet : (limits : Limits) (l : Log) (view : NewView) (o : Option NumberedTable) (due : Due) → IsViewDue limits l view o due → IsQuiet due
view_quiet limits l view None due is = quiet_refusal due (refusals.Unknown view.table.at) (λ e. cc) is
view_quiet limits l view (Some found) due is = bound_quiet limits l view found is.0 due is.2

entries_quiet : (limits : Limits) (l : Log) (table : NumberedTable) (entries : List Entry) (due : Due) → IsEntriesDue limits l table entries due → IsQuiet due
entries_quiet limits l table entries due (inl sets) = quiet_by due (counted limits l (commits.SetPolicy table.number entries)) sets.due_so (counted_quiet limits l (commits.SetPolicy table.number entries))
entries_quiet limits l table entries due (inr closes) = quiet_refusal due (refusals.Cycle table.table.name) (λ e. cc) closes.is

policy_quiet : (limits : Limits) (l : Log) (target : Identifier) (policy : List ℕ) (o : Option NumberedTable) (due : Due) → IsPolicyDue limits l target policy o due → IsQuiet due
policy_quiet limits l target policy None due is = quiet_refusal due (refusals.Unknown target.at) (λ e. cc) is
policy_quiet limits l target policy (Some found) due (inl gives) = entries_quiet limits l found gives.entries due gives.due_so
policy_quiet limits l target policy (Some found) due (inr none) = quiet_refusal due none.refusal (policy_other (known_in none.history) l found.table.schema limits.policies policy none.refusal none.refuses) none.is

change_quiet : (limits : Limits) (l : Log) (change : Change) (due : Due) → IsDueByLog limits l change due → IsQuiet due
change_quiet limits l (CreateTable name columns) due is = subst IsQuiet (sym is.1) (table_quiet limits l name (schema_of columns))
change_quiet limits l (AlterMerge name columns) due is = subst IsQuiet (sym is) (widening_quiet limits l name columns (table_numbered name.text (tables l)))
change_quiet limits l (Ingest i) due is = ingest_quiet limits l i (table_numbered i.table.text (tables l)) due is
change_quiet limits l (CreateView view) due is = view_quiet limits l view (table_numbered view.table.text (tables l)) due is
change_quiet limits l (SetPolicy target policy) due is = policy_quiet limits l target policy (table_numbered target.text (tables l)) due is

-- a refusal of the text alone, where it has one
abbrev AreOther : Option Refusal → Type 0
AreOther (Some r) = IsOther r
AreOther None = Unit {0}

mistyped_other : (o : Option ℕ) → AreOther (option_map (λ (at : ℕ). refusals.Mistyped at) o)
mistyped_other (Some at) = λ e. cc
mistyped_other None = tt

view_other : (o p : Option ℕ) → AreOther (option_or (option_map (λ (at : ℕ). refusals.Unsupported at) o) (option_map (λ (at : ℕ). refusals.Mistyped at) p))
view_other (Some at) p = λ e. cc
view_other None p = mistyped_other p

text_other : (change : Change) → AreOther (text_refusal change)
text_other (CreateTable name columns) = mistyped_other (repeated_place columns)
text_other (AlterMerge name columns) = mistyped_other (repeated_place columns)
text_other (Ingest ingestion) = mistyped_other ingestion.properties.repeated
text_other (CreateView view) = view_other (unsupported_query view.body.text (tree_in view)) view.repeated
text_other (SetPolicy target policy) = tt

by_text_quiet : (limits : Limits) (l : Log) (change : Change) (o : Option Refusal) (due : Due) → AreOther o → IsDueByText limits l change o due → IsQuiet due
by_text_quiet limits l change (Some r) due other is = quiet_refusal due r other is
by_text_quiet limits l change None due other is = change_quiet limits l change due is

-- ---- shows

view_none : (h : History) (view : Identifier) (o : Option ℕ) (reply : Reply) → ShowsView h view o reply → TellsNone reply
view_none h view None reply shows = none_by reply (replies.Refused (refusals.Unknown view.at)) shows (λ e. cc)
view_none h view (Some number) reply shows = printed_none _ reply shows

extents_none : (h : History) (table : Identifier) (o : Option NumberedTable) (reply : Reply) → ShowsExtents h table o reply → TellsNone reply
extents_none h table None reply shows = none_by reply (replies.Refused (refusals.Unknown table.at)) shows (λ e. cc)
extents_none h table (Some found) reply shows = printed_none _ reply shows

show_none : (h : History) (show : Show) (reply : Reply) → AnswersShow h show reply → TellsNone reply
show_none h (shows.View view) reply answers = view_none h view (view_number h view) reply answers
show_none h shows.Failures reply answers = printed_none _ reply answers
show_none h (shows.Extents table) reply answers = extents_none h table (table_numbered table.text (tables (log h))) reply answers
show_none h shows.Journal reply answers = printed_none _ reply answers

-- ---- merges and folds

merged_none : (h : History) (table : Identifier) (o : Option NumberedTable) (reply : Reply) → MergesNamed h table o reply → TellsNone reply
merged_none h table None reply merges = none_by reply (replies.Refused (refusals.Unknown table.at)) merges (λ e. cc)
merged_none h table (Some found) reply merges = λ e. subst (MergesTable h found.number) e merges

folded_none : (h : History) (view : Identifier) (o : Option ℕ) (reply : Reply) → FoldsNamed h view o reply → TellsNone reply
folded_none h view None reply folds = none_by reply (replies.Refused (refusals.Unknown view.at)) folds (λ e. cc)
folded_none h view (Some number) reply folds = λ e. subst (FoldsView h number) e folds

-- ---- all

due_none : (limits : Limits) (h : History) (now : ℤ) (asked : Command) (reply : Reply) → IsDue limits h now asked reply → TellsNone reply
due_none limits h now (commands.Query query) reply due = query_none h now query.text (query_of query.tree) reply due
due_none limits h now (commands.Show show) reply due = show_none h show reply due
due_none limits h now (commands.Change change) reply due = by_text_quiet limits (log h) change (text_refusal change) (Says reply) (text_other change) due
due_none limits h now (commands.Merge table) reply due = merged_none h table (table_numbered table.text (tables (log h))) reply due
due_none limits h now (commands.Fold view) reply due = folded_none h view (view_number h view) reply due

no_kind : ◌≡◌ {A = ℕ} 0 25 → ⊥
no_kind e = cc

granted_none : (reply : Reply) → kind_of reply ≡ 0 → TellsNone reply
granted_none reply granted = λ e. no_kind (sym granted ∙ ap kind_of e)

now_none : (limits : Limits) (h : History) (request : By) (asked : Command) (now : ℤ) (own : Bool) (reply : Reply) → FitsNow limits h request asked now own reply → TellsNone reply
now_none limits h request asked now true reply fits = granted_none reply (Accept-commit limits (log fits.0) asked reply fits.1 fits.3)
now_none limits h request asked now false reply (inl memory) = none_by reply (replies.Refused refusals.Memory) memory (λ e. cc)
now_none limits h request asked now false reply (inr due) = due_none limits h now asked reply due

-- what fits a command of the engine
pub Fits-tells_none : (limits : Limits) (h : History) (request : By) (asked : Command) (now : ℤ) (place : ℕ) (own : Bool) (reply : Reply) → Fits limits h request asked now place own reply → TellsNone reply
Fits-tells_none limits h request asked now place own reply fits = now_none limits (take place h) request asked now own reply fits.at
