-- Which replies tell of a merge or a fold: those to merges and folds alone.
use Rattle.std.proofs.Common.{◌≡◌, ◌≤◌, ◌+◌, ℕ, Bool, true, false, cond, List, [], ◌∷◌, ◌++◌, length, take, drop, nat_lt, length-append, take-append-drop, Option, Some, None, Ok, Err, inl, inr, ap, sym, ◌∙◌, subst, arith}
use Rattle.std.proofs.lemmas.List.{take-take}
use Rattle.kq_value.specs.declared.schema.Field.{Field}
use Rattle.kq_value.specs.Schema.{same_fields}
use Rattle.kq_catalog_journal.specs.declared.event.By.{By}
use Rattle.kq_catalog_journal.specs.declared.event.Commit.{Commit}
use Rattle.kq_catalog_journal.specs.declared.event.Commit.TheVariants as commits
use Rattle.kq_catalog_journal.specs.declared.limits.Limits.{Limits}
use Rattle.kq_catalog_journal.specs.declared.policy.Entry.{Entry}
use Rattle.kq_catalog_journal.specs.declared.table.Table.{Table}
use Rattle.kq_catalog_journal.specs.History.{History, Log, NumberedTable, Viewed, cursor, log, is_view, tables, table_named, table_numbered, view_count}
use Rattle.kq_catalog_journal.specs.Derived.{Cascade, Failed, Made, TooMany}
use Rattle.kq_catalog_journal.specs.Tagged.{least_tagged}
use Rattle.kq_read_commands.specs.declared.columns.Column.{Column}
use Rattle.kq_read_commands.specs.declared.columns.Identifier.{Identifier}
use Rattle.kq_read_commands.specs.declared.command.Change.{Change}
use Rattle.kq_read_commands.specs.declared.command.Change.TheVariants.{CreateTable, AlterMerge, Ingest, CreateView, SetPolicy}
use Rattle.kq_read_commands.specs.declared.command.Command.{Command}
use Rattle.kq_read_commands.specs.declared.command.Command.TheVariants as commands
use Rattle.kq_read_commands.specs.declared.command.Show.{Show}
use Rattle.kq_read_commands.specs.declared.ingestion.Ingestion.{Ingestion}
use Rattle.kq_read_commands.specs.Columns.{schema_of}
use Rattle.kq_read_commands.specs.Widening.{first_clash, new_columns}
use Rattle.kq_store_ingest.specs.declared.fault.IngestFault.{IngestFault}
use Rattle.kq_store_ingest.specs.Ingestion.{first_fault}
use Rattle.kq_catalog_journal.specs.declared.batch.Batch.{Batch}
use Rattle.kq_bind_expressions.specs.Verdicts.{Verdict}
use Rattle.kq_read_commands.specs.declared.definition.NewView.{NewView}
use Rattle.kq_catalog_journal.proofs.Histories.{log-append}
use Rattle.kq_plan.specs.Plans.{Planned}
use Rattle.kq_engine_query.specs.Answers.{refusal_by}
use Rattle.kq_reply.specs.declared.refusal.Refusal.{Refusal}
use Rattle.kq_reply.specs.declared.refusal.Refusal.TheVariants as refusals
use Rattle.kq_reply.specs.declared.reply.Reply.{Reply}
use Rattle.kq_reply.specs.declared.reply.Reply.TheVariants as replies
use Rattle.kq_engine_prepare.specs.Due.{Due, Says, Commits, IsBoundDue, IsWithinViews, IsDueByLog, IsNewDue, IsPlannedDue, IsViewDue, MakesView, stood_due, view_named, bad_tags, barring_tags, IsBodyDue, IsIngestDue, IsTaggedDue, IsValuesDue, clash_due, counted, derived_due, lacking_due, made_due, named_due, own_batch, refused, refusal_of, reply_to, table_due, widening_due, IsEntriesDue, IsPolicyDue}
use Rattle.kq_engine_prepare.specs.Fits.{Makes}
use Rattle.kq_engine_prepare.specs.Merges.{IsMergedBy, IsSettled, IsStill, NamesAll}
use Rattle.kq_engine_show.specs.JournalRows.{name_of}

-- ---- a reply that tells of none

pub still_by : (reply other : Reply) → reply ≡ other → IsStill other → IsStill reply
still_by reply other is still = subst IsStill (sym is) still

pub refused_still : (r : Refusal) → IsStill (replies.Refused r)
refused_still r = record { no_merge = λ extents e. cc; no_fold = λ at e. cc }

pub skipped_still : (cursor : ℕ) → IsStill (replies.Skipped cursor)
skipped_still cursor = record { no_merge = λ extents e. cc; no_fold = λ at e. cc }

kept_still : (cursor : ℕ) → IsStill (replies.Kept cursor)
kept_still cursor = record { no_merge = λ extents e. cc; no_fold = λ at e. cc }

reply_to-still : (c : Commit) (cursor : ℕ) → IsStill (reply_to c cursor)
reply_to-still (commits.CreateTable name schema) cursor = record { no_merge = λ extents e. cc; no_fold = λ at e. cc }
reply_to-still (commits.SetPolicy table entries) cursor = record { no_merge = λ extents e. cc; no_fold = λ at e. cc }
reply_to-still (commits.CreateView view) cursor = record { no_merge = λ extents e. cc; no_fold = λ at e. cc }
reply_to-still (commits.AlterMerge table columns) cursor = record { no_merge = λ extents e. cc; no_fold = λ at e. cc }
reply_to-still (commits.Ingest batches failures) cursor = record { no_merge = λ extents e. cc; no_fold = λ at e. cc }

-- the reply to a commit
pub Makes-still : (limits : Limits) (l : Log) (asked : Command) (reply : Reply) (c : Commit) → Makes limits l asked reply c → IsStill reply
Makes-still limits l (commands.Query query) reply c makes = absurd makes
Makes-still limits l (commands.Show show) reply c makes = absurd makes
Makes-still limits l (commands.Change change) reply c makes = still_by reply (reply_to c (length l + 1)) makes.1 (reply_to-still c (length l + 1))
Makes-still limits l (commands.Merge table) reply c makes = absurd makes
Makes-still limits l (commands.Fold view) reply c makes = absurd makes

-- ---- what it need not meet

pub still_requested : (h : History) (request : By) (reply : Reply) → IsStill reply → IsMergedBy h request reply
still_requested h request reply still = λ extents e. absurd (still.no_merge extents e)

pub still_names : (h : History) (from : ℕ) (reply : Reply) → IsStill reply → NamesAll h from reply
still_names h from reply still = record { merged = λ extents e. absurd (still.no_merge extents e); folded = λ at e. absurd (still.no_fold at e) }

folded_same : (a b : ℕ) → replies.Folded a ≡ replies.Folded b → a ≡ b
folded_same a b e = cc

folded_merged : (at extents : ℕ) → replies.Folded at ≡ replies.Merged extents → ⊥
folded_merged at extents e = cc

-- a fold that is told without an event is told up to the least cursor at least
pub settled_requested : (least : ℕ) (h : History) (request : By) (reply : Reply) → IsSettled least reply → IsMergedBy h request reply
settled_requested least h request reply (inl still) = still_requested h request reply still
settled_requested least h request reply (inr told) = λ extents e. absurd (folded_merged told.0 extents (sym told.1 ∙ e))

pub settled_names : (least : ℕ) (h : History) (from : ℕ) (reply : Reply) → cursor (take from h) ≤ least → IsSettled least reply → NamesAll h from reply
settled_names least h from reply below (inl still) = still_names h from reply still
settled_names least h from reply below (inr told) = record {
  merged = λ extents e. absurd (folded_merged told.0 extents (sym told.1 ∙ e));
  folded = λ at e. let same = folded_same told.0 at (sym told.1 ∙ e) in let past = told.2 in omega (arith, same, past, below);
}

pub settled_less : (less least : ℕ) (reply : Reply) → less ≤ least → IsSettled least reply → IsSettled less reply
settled_less less least reply below (inl still) = inl still
settled_less less least reply below (inr told) = let past = told.2 in inr (told.0, told.1, omega (arith, past, below))

-- ---- cursors of beginnings

cursor_first : (h more : History) → cursor h ≤ cursor (h ++ more)
cursor_first h more = let longer = ap length (log-append h more) ∙ length-append (log h) (log more) in omega (arith, longer)

pub cursor_take : (n : ℕ) (h : History) → cursor (take n h) ≤ cursor h
cursor_take n h = subst (λ (g : History). cursor (take n h) ≤ cursor g) (take-append-drop n h) (cursor_first (take n h) (drop n h))

pub cursor_earlier : (n m : ℕ) (h : History) → n ≤ m → cursor (take n h) ≤ cursor (take m h)
cursor_earlier n m h earlier = subst (λ (g : History). cursor g ≤ cursor (take m h)) (take-take n m h earlier) (cursor_take n (take m h))

-- what was picked no earlier than at one place wasn't picked before an earlier one
pub NamesAll-since : (h : History) (from later : ℕ) (reply : Reply) → from ≤ later → NamesAll h later reply → NamesAll h from reply
NamesAll-since h from later reply before names = record {
  merged = λ extents e.
      let m = names.merged extents e in
      record { before = m.before; by = m.by; table = m.table; old = m.old; new = m.new; last = m.last; at = m.at; since = omega (arith, before, m.since); within = m.within; all = m.all };
  folded = λ at e. let past = names.folded at e in let fewer = cursor_earlier from later h before in omega (arith, past, fewer);
}

-- ---- changes

abbrev IsQuiet : Due → Type 0
IsQuiet (Says reply) = IsStill reply
IsQuiet (Commits c) = Unit {0}

quiet_if : (b : Bool) (x y : Due) → IsQuiet x → IsQuiet y → IsQuiet (cond b x y)
quiet_if true x y quiet other = quiet
quiet_if false x y quiet other = other

counted_quiet : (limits : Limits) (l : Log) (c : Commit) → IsQuiet (counted limits l c)
counted_quiet limits l c = quiet_if (nat_lt (length l) limits.commits) (Commits c) (refused (refusals.Full limits.commits)) tt (refused_still (refusals.Full limits.commits))

named_quiet : (limits : Limits) (l : Log) (name : Identifier) (schema : List Field) (o : Option Table) → IsQuiet (named_due limits l name schema o)
named_quiet limits l name schema (Some t) = quiet_if (same_fields t.schema schema) (Says (replies.Kept t.made)) (refused (refusals.Exists name.at)) (kept_still t.made) (refused_still (refusals.Exists name.at))
named_quiet limits l name schema None =
    let made = commits.CreateTable name.text schema in
    quiet_if (is_view name.text l) (refused (refusals.Exists name.at)) (made_due limits l name schema) (refused_still (refusals.Exists name.at))
    (quiet_if (nat_lt (length (tables l)) limits.tables) (counted limits l made) (refused (refusals.Full limits.tables)) (counted_quiet limits l made) (refused_still (refusals.Full limits.tables)))

table_quiet : (limits : Limits) (l : Log) (name : Identifier) (schema : List Field) → IsQuiet (table_due limits l name schema)
table_quiet limits l name schema =
    let named = table_named name.text (tables l) in
    quiet_if (nat_lt limits.columns (length schema)) (refused (refusals.Full limits.columns)) (named_due limits l name schema named) (refused_still (refusals.Full limits.columns)) (named_quiet limits l name schema named)

lacking_quiet : (limits : Limits) (l : Log) (found : NumberedTable) (more : List Field) → IsQuiet (lacking_due limits l found more)
lacking_quiet limits l found [] = kept_still found.table.widened
lacking_quiet limits l found (f ∷ more) =
    let wider = commits.AlterMerge found.number (f ∷ more) in
    quiet_if (nat_lt limits.columns (length found.table.schema + length (f ∷ more))) (refused (refusals.Full limits.columns)) (counted limits l wider) (refused_still (refusals.Full limits.columns)) (counted_quiet limits l wider)

clash_quiet : (limits : Limits) (l : Log) (found : NumberedTable) (columns : List Column) (clash : Option ℕ) → IsQuiet (clash_due limits l found columns clash)
clash_quiet limits l found columns (Some at) = refused_still (refusals.Mistyped at)
clash_quiet limits l found columns None = lacking_quiet limits l found (schema_of (new_columns found.table.schema columns))

widening_quiet : (limits : Limits) (l : Log) (name : Identifier) (columns : List Column) (o : Option NumberedTable) → IsQuiet (widening_due limits l name columns o)
widening_quiet limits l name columns None = refused_still (refusals.Unknown name.at)
widening_quiet limits l name columns (Some found) = clash_quiet limits l found columns (first_clash found.table.schema columns)

stood_quiet : (view : NewView) (v : Viewed) → IsQuiet (stood_due view v)
stood_quiet view v = quiet_if view.unless_there (Says (replies.Kept v.made)) (refused (refusals.Exists view.name.at)) (kept_still v.made) (refused_still (refusals.Exists view.name.at))

quiet_by : (due other : Due) → due ≡ other → IsQuiet other → IsQuiet due
quiet_by due other is quiet = subst IsQuiet (sym is) quiet

quiet_refusal : (due : Due) (r : Refusal) → due ≡ refused r → IsQuiet due
quiet_refusal due r is = quiet_by due (refused r) is (refused_still r)

derived_quiet : (limits : Limits) (l : Log) (o : Cascade) → IsQuiet (derived_due limits l o)
derived_quiet limits l (Made batches failures) = counted_quiet limits l (commits.Ingest batches failures)
derived_quiet limits l (Failed target cause) = refused_still (refusals.PolicyFailed (name_of l target) cause)
derived_quiet limits l TooMany = refused_still (refusals.Full limits.cascade)

tagged_quiet : (limits : Limits) (l : Log) (own : Batch) (o : Option ℕ) (due : Due) → IsTaggedDue limits l own o due → IsQuiet due
tagged_quiet limits l own (Some cursor) due is = quiet_by due (Says (replies.Skipped cursor)) is (skipped_still cursor)
tagged_quiet limits l own None due is = quiet_by due (derived_due limits l is.cascade) is.due_so (derived_quiet limits l is.cascade)

body_quiet : (limits : Limits) (l : Log) (own : Batch) (barring : List (List ℕ)) (fault : Option IngestFault) (due : Due) → IsBodyDue limits l own barring fault due → IsQuiet due
body_quiet limits l own barring (Some fault) due is = quiet_refusal due (refusal_of fault) is
body_quiet limits l own barring None due is = tagged_quiet limits l own (least_tagged l own.table barring) due is

values_quiet : (o : Option ℕ) (IsElseDue : Due → Type 0) (due : Due) → (IsElseDue due → IsQuiet due) → IsValuesDue o IsElseDue due → IsQuiet due
values_quiet None IsElseDue due quiet is = quiet is
values_quiet (Some at) IsElseDue due quiet is = quiet_refusal due (refusals.BadTags at) is

ingest_quiet : (limits : Limits) (l : Log) (i : Ingestion) (o : Option NumberedTable) (due : Due) → IsIngestDue limits l i o due → IsQuiet due
ingest_quiet limits l i None due is = quiet_refusal due (refusals.Unknown i.table.at) is
ingest_quiet limits l i (Some found) due is =
    values_quiet (bad_tags i.properties) _ due (body_quiet limits l (own_batch found i) (barring_tags i.properties) (first_fault found.table.schema i.properties.ignore_first limits.batch i.body) due) is

makes_quiet : (l : Log) (view : NewView) (number : ℕ) (p : Planned) (due : Due) → MakesView l view number p due → IsQuiet due
makes_quiet l view number p (Says reply) makes = absurd makes
makes_quiet l view number p (Commits c) makes = tt

counts_quiet : (limits : Limits) (l : Log) (view : NewView) (number : ℕ) (p : Planned) (few room : Bool) (due : Due) → IsWithinViews limits l view number p few room due → IsQuiet due
counts_quiet limits l view number p false room due is = quiet_refusal due (refusals.Full limits.views) is
counts_quiet limits l view number p true false due is = quiet_refusal due (refusals.Full limits.commits) is
counts_quiet limits l view number p true true due is = makes_quiet l view number p due is

new_quiet : (limits : Limits) (l : Log) (view : NewView) (number : ℕ) (p : Planned) (o : Option Table) (due : Due) → IsNewDue limits l view number p o due → IsQuiet due
new_quiet limits l view number p (Some t) due is = quiet_refusal due (refusals.Exists view.name.at) is
new_quiet limits l view number p None due is = counts_quiet limits l view number p (nat_lt (view_count l) limits.views) (nat_lt (length l) limits.commits) due is

planned_quiet : (limits : Limits) (l : Log) (view : NewView) (number : ℕ) (p : Planned) (o : Option Viewed) (due : Due) → IsPlannedDue limits l view number p o due → IsQuiet due
planned_quiet limits l view number p (Some v) due is = quiet_by due (stood_due view v) is (stood_quiet view v)
planned_quiet limits l view number p None due is = new_quiet limits l view number p (table_named view.name.text (tables l)) due is

bound_quiet : (limits : Limits) (l : Log) (view : NewView) (table : NumberedTable) (v : Verdict Planned) (due : Due) → IsBoundDue limits l view table v due → IsQuiet due
bound_quiet limits l view table (Err fault) due is = quiet_refusal due (refusal_by fault) is
bound_quiet limits l view table (Ok p) due (inl formed) = planned_quiet limits l view table.number p (view_named view.name.text l) due formed.due_so
bound_quiet limits l view table (Ok p) due (inr unformed) = quiet_refusal due (refusals.BadView unformed.at) unformed.is

view_quiet : (limits : Limits) (l : Log) (view : NewView) (o : Option NumberedTable) (due : Due) → IsViewDue limits l view o due → IsQuiet due
view_quiet limits l view None due is = quiet_refusal due (refusals.Unknown view.table.at) is
view_quiet limits l view (Some found) due is = bound_quiet limits l view found is.0 due is.2

entries_quiet : (limits : Limits) (l : Log) (table : NumberedTable) (entries : List Entry) (due : Due) → IsEntriesDue limits l table entries due → IsQuiet due
entries_quiet limits l table entries due (inl sets) = quiet_by due (counted limits l (commits.SetPolicy table.number entries)) sets.due_so (counted_quiet limits l (commits.SetPolicy table.number entries))
entries_quiet limits l table entries due (inr closes) = quiet_refusal due (refusals.Cycle table.table.name) closes.is

policy_quiet : (limits : Limits) (l : Log) (target : Identifier) (policy : List ℕ) (o : Option NumberedTable) (due : Due) → IsPolicyDue limits l target policy o due → IsQuiet due
policy_quiet limits l target policy None due is = quiet_refusal due (refusals.Unknown target.at) is
policy_quiet limits l target policy (Some found) due (inl gives) = entries_quiet limits l found gives.entries due gives.due_so
policy_quiet limits l target policy (Some found) due (inr none) = quiet_refusal due none.refusal none.is

change_quiet : (limits : Limits) (l : Log) (change : Change) (due : Due) → IsDueByLog limits l change due → IsQuiet due
change_quiet limits l (CreateTable name columns) due is = subst IsQuiet (sym is.1) (table_quiet limits l name (schema_of columns))
change_quiet limits l (AlterMerge name columns) due is = subst IsQuiet (sym is) (widening_quiet limits l name columns (table_numbered name.text (tables l)))
change_quiet limits l (Ingest i) due is = ingest_quiet limits l i (table_numbered i.table.text (tables l)) due is
change_quiet limits l (CreateView view) due is = view_quiet limits l view (table_numbered view.table.text (tables l)) due is
change_quiet limits l (SetPolicy target policy) due is = policy_quiet limits l target policy (table_numbered target.text (tables l)) due is

pub change_still : (limits : Limits) (l : Log) (change : Change) (reply : Reply) → IsDueByLog limits l change (Says reply) → IsStill reply
change_still limits l change reply is = change_quiet limits l change (Says reply) is
