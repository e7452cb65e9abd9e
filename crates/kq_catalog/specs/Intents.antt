-- The commits that intents ask for.
use Rattle.std.specs.Prelude.{ℕ, [], map, Option, None, Some}
use Rattle.kq_catalog_journal.specs.kq_run_gather.Bodies.{StandsFor}
use Rattle.kq_plan.specs.Plans.{planned_of}
use Rattle.kq_catalog_journal.specs.declared.batch.Batch.{Batch}
use Rattle.kq_catalog_journal.specs.declared.event.By.{By}
use Rattle.kq_catalog_journal.specs.declared.event.Commit.{Commit}
use Rattle.kq_catalog_journal.specs.declared.event.Commit.TheVariants as commit
use Rattle.kq_catalog_journal.specs.declared.event.Event.{Event}
use Rattle.kq_catalog_journal.specs.declared.event.Operation.TheVariants as operation
use Rattle.kq_catalog.specs.declared.intent.Intent.{Intent}
use Rattle.kq_catalog.specs.declared.intent.Intent.TheVariants.{CreateTable, SetPolicy, CreateView, AlterMerge, Ingest}
use Rattle.kq_catalog.specs.declared.intent.Part.{Part}
use Rattle.kq_catalog.specs.Views.{HeldView, new_view}

-- the draft's rows and tags, for the table
abbrev pub batch_of : Part → Batch
batch_of p = record { table = p.table; rows = p.draft.rows; tags = p.draft.tags }

abbrev pub commit_of : Intent → Commit
commit_of (CreateTable name schema) = commit.CreateTable name schema
commit_of (SetPolicy table entries) = commit.SetPolicy table entries
commit_of (CreateView view part) = commit.CreateView view
commit_of (AlterMerge table columns) = commit.AlterMerge table columns
commit_of (Ingest parts failures) = commit.Ingest (map batch_of parts.items) failures

-- the view that a commit at a cursor makes, with its part
abbrev pub view_by : ℕ → Intent → Option HeldView
view_by cursor (CreateTable name schema) = None
view_by cursor (SetPolicy table entries) = None
view_by cursor (CreateView view part) = Some (new_view cursor view part)
view_by cursor (AlterMerge table columns) = None
view_by cursor (Ingest parts failures) = None

-- the part of a new view stands for no rows
abbrev pub BeginsEmpty : Intent → Type 0
BeginsEmpty (CreateTable name schema) = Unit {0}
BeginsEmpty (SetPolicy table entries) = Unit {0}
BeginsEmpty (CreateView view part) = StandsFor (planned_of view.body) [] part
BeginsEmpty (AlterMerge table columns) = Unit {0}
BeginsEmpty (Ingest parts failures) = Unit {0}

-- the event of a commit with the request id of its command
abbrev pub event_by : By → Intent → Event
event_by by intent = record { by = by; operation = operation.Commit (commit_of intent) }
