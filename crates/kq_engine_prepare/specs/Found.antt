-- What is found of a command on a history, what of it stays due, and where memory may be wanting.
use Rattle.std.specs.Prelude.{◌≡◌, ◌≢◌, ◌⊎◌, ◌<◌, ◌≤◌, ◌+◌, ◌&&◌, ◌||◌, not, ℕ, ℤ, Bool, true, false, nat_eq, nat_lt, List, [], ◌∷◌, ◌++◌, length, take, drop, Option, Some, None, Result, Ok, Err, IfOk}
use Rattle.std.specs.List.{slice_get}
use Rattle.kq_catalog_journal.specs.declared.batch.Batch.{Batch}
use Rattle.kq_catalog_journal.specs.declared.event.Commit.{Commit}
use Rattle.kq_catalog_journal.specs.declared.limits.Limits.{Limits}
use Rattle.kq_catalog_journal.specs.declared.policy.Due.{Due as Entering}
use Rattle.kq_catalog_journal.specs.declared.table.Table.{Table}
use Rattle.kq_catalog_journal.specs.Derived.{Row}
use Rattle.kq_catalog_journal.specs.History.{History, Log, cursor, log, view_cursor, tables, table_named, NumberedTable, table_numbered}
use Rattle.kq_catalog_journal.specs.Policies.{dues}
use Rattle.kq_catalog_journal.specs.Records.{picked, small_items}
use Rattle.kq_catalog_journal.specs.Tagged.{least_tagged}
use Rattle.kq_policy_cascade.specs.declared.running.CascadeFault.{CascadeFault}
use Rattle.kq_policy_cascade.specs.declared.running.CascadeFault.TheVariants as cascades
use Rattle.kq_catalog.specs.Intents.{BeginsEmpty as IsBegun, commit_of}
use Rattle.kq_catalog.specs.Merges.{IsInFront}
use Rattle.kq_catalog.specs.Seen.{SnapshotView}
use Rattle.kq_read_commands.specs.declared.columns.Column.{Column}
use Rattle.kq_read_commands.specs.declared.columns.Identifier.{Identifier}
use Rattle.kq_read_commands.specs.Widening.{new_columns}
use Rattle.kq_read_commands.specs.declared.command.Change.{Change as Changing}
use Rattle.kq_read_commands.specs.declared.command.Change.TheVariants.{CreateTable, AlterMerge, Ingest, CreateView, SetPolicy}
use Rattle.kq_read_commands.specs.declared.command.Command.{Command}
use Rattle.kq_read_commands.specs.declared.command.Command.TheVariants.{Query, Show, Change, Merge, Fold}
use Rattle.kq_read_commands.specs.declared.ingestion.Ingestion.{Ingestion}
use Rattle.kq_read_commands.specs.declared.command.Show.{Show as Showing}
use Rattle.kq_read_commands.specs.declared.command.Show.TheVariants as shows
use Rattle.kq_reply.specs.declared.refusal.Refusal.{Refusal}
use Rattle.kq_reply.specs.declared.refusal.Refusal.TheVariants as refusals
use Rattle.kq_reply.specs.declared.reply.Reply.TheVariants as replies
use Rattle.kq_engine_prepare.specs.declared.first.Looked.{Looked}
use Rattle.kq_engine_prepare.specs.declared.first.Looked.TheVariants as lookeds
use Rattle.kq_engine_prepare.specs.declared.tags.Labels.{Labels}
use Rattle.kq_engine_prepare.specs.declared.found.Barring.{Barring}
use Rattle.kq_engine_prepare.specs.declared.found.Found.{Found}
use Rattle.kq_engine_prepare.specs.declared.found.Found.TheVariants as founds
use Rattle.kq_engine_prepare.specs.declared.found.Offer.{Offer}
use Rattle.kq_engine_prepare.specs.Due.{Due, Says, Commits, IsBatchDue, IsChangeDue, IsRowsDue, counted, refused, reply_to, text_refusal, unless_tagged}
use Rattle.kq_engine_prepare.specs.Fits.{IsDue, Makes}
use Rattle.kq_engine_prepare.specs.Folds.{AnswersFold, IsFoldingFor, IsFoldingOf, view_number}
use Rattle.kq_policy_run.specs.Quiet.{is_quiet}
use Rattle.kq_engine_show.specs.JournalRows.{name_of}
use Rattle.kq_engine_prepare.specs.Merges.{AnswersMerge, IsMergingFor, IsMergingOf, IsSettled}

-- ---- what was found

-- what was found for a change
abbrev pub FindsDue : (Due → Type 0) → Found → Type 0
FindsDue IsSo (founds.Says reply) = IsSo (Says reply)
FindsDue IsSo (founds.Commits offer) = IsSo (Commits (commit_of offer.intent))
FindsDue IsSo _ = ⊥

-- what was found is so due; a refusal is, or memory was wanting
abbrev pub Finds : (Due → Type 0) → Result Found Refusal → Type 0
Finds IsSo (Ok found) = FindsDue IsSo found
Finds IsSo (Err r) = (r ≡ refusals.Memory) ⊎ IsSo (refused r)

-- the least cursor of a commit that gave the table one of the tags
abbrev pub barred_at : Log → Option Barring → Option ℕ
barred_at l None = None
barred_at l (Some barring) = least_tagged l barring.table barring.tags

abbrev pub is_widened_at : Option Table → ℕ → Bool
is_widened_at None cursor = false
is_widened_at (Some t) cursor = nat_eq t.widened cursor

-- whether one of the entries runs for batches of the table
abbrev pub is_source : ℕ → List Entering → Bool
is_source table [] = false
is_source table (d ∷ ds) = nat_eq d.source table || is_source table ds

-- whether no entry in force runs for batches of the table: nothing comes of them
abbrev pub is_alone : Log → ℕ → Bool
is_alone l table = not (is_source table (dues l))

-- whether the rows come alone, then as now, into a table that was not widened since
abbrev pub stands_alone : Log → Barring → Bool
stands_alone l b = b.alone && is_alone l b.table && is_widened_at (slice_get (tables l) b.table) b.widened

-- whether what was found for rows is what would be found now: they come alone, or no event since disturbs what came of them
abbrev pub is_as_read : (since : History) → (now : Log) → Option Barring → Bool
is_as_read since now None = true
is_as_read since now (Some barring) = stands_alone now barring || is_quiet barring.looked.items since

-- what an offer comes to: it is skipped where one of its tags stands, and else its commit is counted
abbrev pub offer_due : Limits → Log → Offer → Due
offer_due limits l offer = unless_tagged (barred_at l offer.unless) (counted limits l (commit_of offer.intent))

-- an offer that was found after a log for rows that were read for a table as it stands: there it comes to its commit, and it is so due after each log
-- after which the rows come alone, and after further events that disturb nothing
pub record IsKept (limits : Limits) (l : Log) (table : NumberedTable) (IsDueAfter : Log → Due → Type 0) (offer : Offer) : Type 0 where
  pub barring : Barring
  pub barred : offer.unless ≡ Some barring
  pub number : barring.table ≡ table.number
  pub widened : barring.widened ≡ table.table.widened
  pub here : offer_due limits l offer ≡ Commits (commit_of offer.intent)
  pub alone : (later : Log) → stands_alone later barring ≡ true → IsDueAfter later (offer_due limits later offer)
  pub quiet : (since : History) → is_quiet barring.looked.items since ≡ true → IsDueAfter (l ++ log since) (offer_due limits (l ++ log since) offer)

-- a commit that was found for a batch of rows that were read for a table
abbrev pub IsOfferOf : Limits → Log → NumberedTable → Batch → List (List ℕ) → Found → Type 0
IsOfferOf limits l table own barring (founds.Says reply) = Unit {0}
IsOfferOf limits l table own barring (founds.Commits offer) = IsKept limits l table (λ (later : Log) (due : Due). IsBatchDue limits later own barring due) offer
IsOfferOf limits l table own barring _ = ⊥

-- rows that were read for a table, as a batch with their tags
abbrev pub batch_read : NumberedTable → List Row → Labels → Batch
batch_read table rows labels = record { table = table.number; rows = rows; tags = labels.tags }

-- the commit that was found for them
abbrev pub OffersRead : SnapshotView → NumberedTable → List Row → Labels → Result Found Refusal → Type 0
OffersRead s table rows labels result = IfOk result (IsOfferOf s.limits (log s.history) table (batch_read table rows labels) labels.barring)

-- what it is, is due
abbrev pub FindsRead : SnapshotView → NumberedTable → List Row → Labels → Result Found Refusal → Type 0
FindsRead s table rows labels = Finds (IsBatchDue s.limits (log s.history) (batch_read table rows labels) labels.barring)

-- a commit that was found for an ingestion into a table
abbrev pub OffersRows : Limits → Log → Ingestion → NumberedTable → Found → Type 0
OffersRows limits l i table (founds.Says reply) = Unit {0}
OffersRows limits l i table (founds.Commits offer) = IsKept limits l table (λ (later : Log) (due : Due). IsRowsDue limits later i table due) offer
OffersRows limits l i table _ = ⊥

-- the same for a table that stands under its name
abbrev pub OffersInto : Limits → Log → Ingestion → Found → Type 0
OffersInto limits l i found = (table : NumberedTable) → table_numbered i.table.text (tables l) ≡ Some table → OffersRows limits l i table found

-- this commit is offered, barred so, where one more is allowed
abbrev pub OffersCommit : Limits → Log → Commit → Option Barring → Found → Type 0
OffersCommit limits l c unless (founds.Commits offer) = (commit_of offer.intent ≡ c) × (offer.unless ≡ unless) × (nat_lt (length l) limits.commits ≡ true)
OffersCommit limits l c unless _ = ⊥

-- the refusal of a cascade's fault, which may be want of memory
abbrev pub refusal_by_cascade : Log → CascadeFault → Refusal
refusal_by_cascade l (cascades.PolicyFailed target cause) = refusals.PolicyFailed (name_of l target) cause
refusal_by_cascade l (cascades.Full limit) = refusals.Full limit
refusal_by_cascade l cascades.Memory = refusals.Memory

-- a commit that was found is offered with the part with which its view begins
abbrev pub OffersView : Found → Type 0
OffersView (founds.Says reply) = Unit {0}
OffersView (founds.Commits offer) = IsBegun offer.intent
OffersView _ = ⊥

abbrev pub OffersChange : Limits → Log → Changing → Found → Type 0
OffersChange limits l (CreateTable name columns) found = Unit {0}
OffersChange limits l (AlterMerge name columns) found = Unit {0}
OffersChange limits l (Ingest ingestion) found = OffersInto limits l ingestion found
OffersChange limits l (CreateView view) found = OffersView found
OffersChange limits l (SetPolicy target policy) found = Unit {0}

-- whether a command is prepared outside the lock, on a snapshot: what only asks is, what reads rows, and what copies records
abbrev pub is_prepared_outside : Command → Bool
is_prepared_outside (Query query) = true
is_prepared_outside (Show show) = true
is_prepared_outside (Change (CreateTable name columns)) = false
is_prepared_outside (Change (AlterMerge name columns)) = false
is_prepared_outside (Change (Ingest ingestion)) = true
is_prepared_outside (Merge table) = true
is_prepared_outside (Change (CreateView view)) = false
is_prepared_outside (Change (SetPolicy target policy)) = false
is_prepared_outside (Fold view) = true

-- the commit is due, with its reply
abbrev pub IsCommitDue : Limits → Log → Command → Commit → Type 0
IsCommitDue limits l command c = Makes limits l command (reply_to c (length l + 1)) c

abbrev pub IsDueTo : Limits → Log → Command → Due → Type 0
IsDueTo limits l (Query query) due = ⊥
IsDueTo limits l (Show show) due = ⊥
IsDueTo limits l (Change change) due = IsChangeDue limits l change due
IsDueTo limits l (Merge table) due = ⊥
IsDueTo limits l (Fold view) due = ⊥

-- the commit is due, with the part of a view that it makes; and after more events, if the command is prepared outside the lock and what was found is
-- as it would be found, it is due what the offer comes to
pub record IsOffered (limits : Limits) (l : Log) (command : Command) (offer : Offer) : Type 0 where
  pub due : IsCommitDue limits l command (commit_of offer.intent)
  pub begins : IsBegun offer.intent
  pub later : is_prepared_outside command ≡ true → (since : History) → is_as_read since (l ++ log since) offer.unless ≡ true → IsDueTo limits (l ++ log since) command (offer_due limits (l ++ log since) offer)

-- what was found is due to the command at a moment; no merge is told before it is made, and no fold but of a view that is up to the cursor
abbrev pub IsFound : Limits → History → ℤ → Command → Found → Type 0
IsFound limits h now command (founds.Says reply) = IsDue limits h now command reply × IsSettled (cursor h) reply
IsFound limits h now command (founds.Commits offer) = IsOffered limits (log h) command offer
IsFound limits h now command (founds.Merges merging) = IsMergingFor h command merging
IsFound limits h now command (founds.Folds folding) = IsFoldingFor h command folding
IsFound limits h now command founds.Pending = ⊥

-- the same of a merge of the table that has a name
abbrev pub FindsMerge : History → Identifier → Found → Type 0
FindsMerge h table (founds.Says reply) = AnswersMerge h table reply × IsSettled (cursor h) reply
FindsMerge h table (founds.Merges merging) = IsMergingOf h table merging
FindsMerge h table _ = ⊥

-- the same of a fold of the view that has a name
abbrev pub FindsFold : History → Identifier → Found → Type 0
FindsFold h view (founds.Says reply) = AnswersFold h view reply × IsSettled (cursor h) reply
FindsFold h view (founds.Folds folding) = IsFoldingOf h view folding
FindsFold h view _ = ⊥

-- ---- what a snapshot tells

-- the text alone refuses nothing
abbrev pub IsGoodText : Command → Type 0
IsGoodText (Query query) = Unit {0}
IsGoodText (Show show) = Unit {0}
IsGoodText (Change change) = text_refusal change ≡ None
IsGoodText (Merge table) = Unit {0}
IsGoodText (Fold view) = Unit {0}

-- looking at the text of a change takes memory: a repeated column is looked for among more than 256
abbrev pub TakesToRead : Changing → Type 0
TakesToRead (CreateTable name columns) = 256 < length columns
TakesToRead (AlterMerge name columns) = 256 < length columns
TakesToRead (Ingest ingestion) = ⊥
TakesToRead (CreateView view) = ⊥
TakesToRead (SetPolicy target policy) = ⊥

-- the text alone is refused so, or memory was wanting to look at it
abbrev pub RefusesText : Command → Refusal → Type 0
RefusesText (Query query) r = ⊥
RefusesText (Show show) r = ⊥
RefusesText (Change change) r = ((r ≡ refusals.Memory) × TakesToRead change) ⊎ (text_refusal change ≡ Some r)
RefusesText (Merge table) r = ⊥
RefusesText (Fold view) r = ⊥

-- a command of a good text that isn't prepared outside the lock
pub record IsPending (command : Command) : Type 0 where
  pub inside : is_prepared_outside command ≡ false
  pub good : IsGoodText command

-- what a snapshot of this history told holds over it: a commit is found outside the lock alone, and want of memory is no answer
abbrev pub IsReady : Limits → History → ℤ → Command → Found → Type 0
IsReady limits h now command (founds.Says reply) = IsDue limits h now command reply × IsSettled (cursor h) reply
IsReady limits h now command (founds.Commits offer) = (is_prepared_outside command ≡ true) × IsOffered limits (log h) command offer
IsReady limits h now command (founds.Merges merging) = IsMergingFor h command merging
IsReady limits h now command (founds.Folds folding) = IsFoldingFor h command folding
IsReady limits h now command founds.Pending = IsPending command

-- ---- want of memory

-- a table or a view that stands is read or written
abbrev pub Stands : {X : Type 0} → Option X → Type 0
Stands None = ⊥
Stands (Some found) = Unit {0}

-- a table that stands gains columns
abbrev pub Gains : List Column → Option NumberedTable → Type 0
Gains columns None = ⊥
Gains columns (Some found) = new_columns found.table.schema columns ≢ []

abbrev pub TakesToShow : History → Showing → Type 0
TakesToShow h (shows.View view) = Stands (view_number h view)
TakesToShow h (shows.Extents table) = Stands (table_numbered table.text (tables (log h)))
TakesToShow h shows.Failures = Unit {0}
TakesToShow h shows.Journal = Unit {0}

-- a view is folded that isn't up to the cursor
abbrev pub LagsBehind : History → Option ℕ → Type 0
LagsBehind h None = ⊥
LagsBehind h (Some number) = view_cursor h number ≢ cursor h

-- two or more extents of a table that stands may be merged
abbrev pub IsMergeable : History → Option NumberedTable → Type 0
IsMergeable h None = ⊥
IsMergeable h (Some found) = 2 ≤ length (picked h found.number)

-- finding what the command is due on this history takes memory: to bind a query, a view's body or a policy's queries does; to make or widen a table
-- does, and not to keep one
abbrev pub TakesToFind : History → Command → Type 0
TakesToFind h (Query query) = Unit {0}
TakesToFind h (Show show) = TakesToShow h show
TakesToFind h (Change (CreateTable name columns)) = table_named name.text (tables (log h)) ≡ None
TakesToFind h (Change (AlterMerge name columns)) = Gains columns (table_numbered name.text (tables (log h)))
TakesToFind h (Change (Ingest ingestion)) = Stands (table_numbered ingestion.table.text (tables (log h)))
TakesToFind h (Merge table) = IsMergeable h (table_numbered table.text (tables (log h)))
TakesToFind h (Change (CreateView view)) = Stands (table_numbered view.table.text (tables (log h)))
TakesToFind h (Change (SetPolicy target policy)) = Stands (table_numbered target.text (tables (log h)))
TakesToFind h (Fold view) = LagsBehind h (view_number h view)

-- preparing the command on this history takes memory: to look at its text does, or to find what it is due outside the lock
abbrev pub TakesMemory : History → Command → Type 0
TakesMemory h (Query query) = TakesToFind h (Query query)
TakesMemory h (Show show) = TakesToFind h (Show show)
TakesMemory h (Change (CreateTable name columns)) = TakesToRead (CreateTable name columns)
TakesMemory h (Change (AlterMerge name columns)) = TakesToRead (AlterMerge name columns)
TakesMemory h (Change (Ingest ingestion)) = TakesToFind h (Change (Ingest ingestion))
TakesMemory h (Merge table) = TakesToFind h (Merge table)
TakesMemory h (Change (CreateView view)) = TakesToRead (CreateView view)
TakesMemory h (Change (SetPolicy target policy)) = TakesToRead (SetPolicy target policy)
TakesMemory h (Fold view) = TakesToFind h (Fold view)

-- deciding a command on this history, of which a snapshot told nothing, takes memory
pub record TakesToDecide (h : History) (command : Command) : Type 0 where
  pub pending : IsPending command
  pub takes : TakesToFind h command

-- finishing on this history what was prepared at a place takes memory: a commit that no tag bars is put in, or its rows are read again; a merge is
-- put in whose extents stand, or extents are picked again; a fold is put in of a view that isn't materialized as far
abbrev pub TakesToFinish : (place : ℕ) → History → Command → Found → Type 0
TakesToFinish place h command (founds.Says reply) = ⊥
TakesToFinish place h command (founds.Commits offer) = is_as_read (drop place h) (log h) offer.unless ≡ true → barred_at (log h) offer.unless ≡ None
TakesToFinish place h command (founds.Merges merging) = IsInFront (small_items h merging.table) merging.old ⊎ TakesToFind h command
TakesToFinish place h command (founds.Folds folding) = view_cursor h folding.view < folding.to
TakesToFinish place h command founds.Pending = TakesToDecide h command

-- preparing the command on the history where it began takes memory, or deciding it on that of its outcome does
abbrev pub MayWantMemory : (began decided : History) → Command → Type 0
MayWantMemory began decided command = TakesMemory began command ⊎ TakesToDecide decided command

-- a first look at this history told that, or it took a snapshot of it, for a command that takes memory
abbrev pub IsLooked : Limits → History → ℤ → Command → Looked → Type 0
IsLooked limits h now command (lookeds.Told ready) = IsReady limits h now command ready
IsLooked limits h now command (lookeds.Taken snapshot) = (snapshot.limits ≡ limits) × (snapshot.history ≡ h) × TakesMemory h command
