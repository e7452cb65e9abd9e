-- What may stand in a journal.
use Rattle.std.specs.Prelude.{◌≡◌, ◌⊎◌, ◌<◌, ◌≤◌, ◌+◌, ℕ, Bool, false, take, List, [], ◌∷◌, ◌++◌, length, Option, Some, None, option_map, All, if◌then◌else◌, nat_lt}
use Rattle.std.specs.List.{slice_get}
use Rattle.kq_run_plan.specs.kq_run_gather.Bodies.{IsBody}
use Rattle.kq_plan.specs.declared.names.NameKind.TheVariants as name
use Rattle.kq_plan.specs.Fits.{FitsNames}
use Rattle.kq_plan.specs.Names.{Known}
use Rattle.kq_plan.specs.Plans.{planned_of}
use Rattle.kq_value.specs.declared.schema.Field.{Field}
use Rattle.kq_value.specs.Typed.{HasTypes}
use Rattle.kq_catalog_journal.specs.declared.limits.Limits.{Limits}
use Rattle.kq_catalog_journal.specs.declared.table.Table.{Table}
use Rattle.kq_catalog_journal.specs.declared.event.Commit.{Commit}
use Rattle.kq_catalog_journal.specs.declared.batch.Batch.{Batch}
use Rattle.kq_catalog_journal.specs.declared.batch.Failure.{Failure}
use Rattle.kq_catalog_journal.specs.declared.event.Commit.TheVariants.{CreateTable, SetPolicy, CreateView, AlterMerge, Ingest}
use Rattle.kq_catalog_journal.specs.declared.event.Operation.{Operation}
use Rattle.kq_catalog_journal.specs.declared.event.Operation.TheVariants as operation
use Rattle.kq_catalog_journal.specs.declared.event.Event.{Event}
use Rattle.kq_catalog_journal.specs.declared.view.View.{View}
use Rattle.kq_catalog_journal.specs.declared.policy.Entry.{Entry}
use Rattle.kq_catalog_journal.specs.Beside.{DueGives}
use Rattle.kq_catalog_journal.specs.Cycles.{IsOnCycle}
use Rattle.kq_catalog_journal.specs.Derived.{IsDerived, Made}
use Rattle.kq_catalog_journal.specs.History.{History, Log, log, cursor, tables, table_named, NumberedTable, table_numbered, view_count, is_view, view_cursor}
use Rattle.kq_value_text_sets.specs.Names.{is_among, repeat_of, names_of}
use Rattle.kq_catalog_journal.specs.Policies.{policies, rules, with_policy}
use Rattle.kq_catalog_journal.specs.PolicyBodies.{IsPolicyBody}
use Rattle.kq_catalog_journal.specs.Records.{picked, item_ids, extents_made}

-- why a table of this name and these columns, a view of this name, or a batch of so many rows, can't be made
pub data Violation : Type 0 where
  TooWide : Violation
  Exists : Violation
  TooMany : Violation
  TooLong : Violation
  NoCommits : Violation

-- the first violation by a name that may be a table's, or a view's, where a limit allows so many of its kind and there are so many
abbrev pub name_violation : Limits → Log → ℕ → ℕ → Option Table → Bool → Option Violation
name_violation limits l limit count (Some t) viewed = Some Exists
name_violation limits l limit count None viewed =
    if viewed then Some Exists else if nat_lt count limit then (if nat_lt (length l) limits.commits then None else Some NoCommits) else Some TooMany

-- the first violation by a new table after this log, in the order of the refusals
abbrev pub table_violation : Limits → Log → List ℕ → List Field → Option Violation
table_violation limits l name schema =
    if nat_lt limits.columns (length schema) then Some TooWide else name_violation limits l limits.tables (length (tables l)) (table_named name (tables l)) (is_view name l)

-- the first violation by a new view after this log, in the order of the refusals
abbrev pub view_violation : Limits → Log → List ℕ → Option Violation
view_violation limits l name = name_violation limits l limits.views (view_count l) (table_named name (tables l)) (is_view name l)

-- the first violation by so many further columns of a table with so many after this log, in the order of the refusals
abbrev pub columns_violation : Limits → Log → ℕ → ℕ → Option Violation
columns_violation limits l old new = if nat_lt limits.columns (old + new) then Some TooWide else if nat_lt (length l) limits.commits then None else Some NoCommits

-- the first violation by a batch of so many rows after this log, in the order of the refusals
abbrev pub batch_violation : Limits → Log → ℕ → Option Violation
batch_violation limits l rows = if nat_lt limits.batch rows then Some TooLong else if nat_lt (length l) limits.commits then None else Some NoCommits

-- columns of which a table has none by name, one or more and no two of one name, within the limits
pub record IsWidening (limits : Limits) (l : Log) (number : ℕ) (columns : List Field) : Type 0 where
  pub table : Table
  pub stands : slice_get (tables l) number ≡ Some table
  pub some : 0 < length columns
  pub different : repeat_of (names_of columns) ≡ None
  pub lacking : All (λ (f : Field). is_among f.name (names_of table.schema) ≡ false) columns
  pub within : columns_violation limits l (length table.schema) (length columns) ≡ None

-- a view of a table that stands, whose body reads the table under its present columns, and whose base is 0 or the cursor of its own commit, within
-- the limits
pub record IsNewView (limits : Limits) (l : Log) (v : View) : Type 0 where
  pub table : Table
  pub stands : slice_get (tables l) v.source ≡ Some table
  pub body : IsBody table.name table.schema (planned_of v.body)
  pub base : (v.base ≡ 0) ⊎ (v.base ≡ length l + 1)
  pub within : view_violation limits l v.name ≡ None

-- ---- policies

abbrev pub known_table : NumberedTable → Known
known_table found = (name.Table, found.table.schema)

-- the names of the tables, with their columns
abbrev pub tables_known : Log → List ℕ → Option Known
tables_known l said = option_map known_table (table_numbered said (tables l))

-- an entry whose source is a table, and whose plan is bound over the tables that it names: it reads its source, names no view, asks for no moment,
-- and gives the columns of the target
pub record IsEntry (l : Log) (target : List Field) (e : Entry) : Type 0 where
  pub source : Table
  pub stands : slice_get (tables l) e.source ≡ Some source
  pub body : IsPolicyBody source.name (planned_of e.plan)
  pub fits : FitsNames (tables_known l) (planned_of e.plan) target

-- entries for a table that stands, by which no batch of it comes back to it, within the limits; those that aren't enabled count too
pub record IsNewPolicy (limits : Limits) (l : Log) (number : ℕ) (entries : List Entry) : Type 0 where
  pub table : Table
  pub stands : slice_get (tables l) number ≡ Some table
  pub few : length entries ≤ limits.policies
  pub each : All (IsEntry l table.schema) entries
  pub no_cycle : IsOnCycle (with_policy number entries (policies l)) number → ⊥
  pub room : length l < limits.commits

-- ---- ingestions

-- an ingestion's own batch goes into a table and has rows of its types, and these are the batch's whole cascade by the policies in force
pub record IsIngestion (limits : Limits) (l : Log) (batches : List Batch) (failures : List Failure) : Type 0 where
  pub own : Batch
  pub table : Table
  pub stands : slice_get (tables l) own.table ≡ Some table
  pub typed : All (HasTypes table.schema) own.rows
  pub derived : IsDerived limits.cascade (rules l) (DueGives l) own (Made batches failures)

-- the number of rows of an ingestion's own batch
abbrev pub own_rows : List Batch → ℕ
own_rows [] = 0
own_rows (own ∷ bs) = length own.rows

abbrev pub LawfulCommit : Limits → Log → Commit → Type 0
LawfulCommit limits l (CreateTable name schema) = (0 < length schema) × (repeat_of (names_of schema) ≡ None) × (table_violation limits l name schema ≡ None)
LawfulCommit limits l (SetPolicy table entries) = IsNewPolicy limits l table entries
LawfulCommit limits l (CreateView view) = IsNewView limits l view
LawfulCommit limits l (AlterMerge table columns) = IsWidening limits l table columns
LawfulCommit limits l (Ingest batches failures) = IsIngestion limits l batches failures × (batch_violation limits l (own_rows batches) ≡ None)

-- a merge's old extents are the first of those that are picked, two or more, and its new id is the next
pub record IsMerge (h : History) (t : ℕ) (old : List ℕ) (new : ℕ) : Type 0 where
  pub count : ℕ
  pub some : 2 ≤ count
  pub within : count ≤ length (picked h t)
  pub first : old ≡ item_ids (take count (picked h t))
  pub next : new ≡ 1 + extents_made h

-- a fold brings a view that stands forward, to no more than the cursor
pub record IsFold (h : History) (view to : ℕ) : Type 0 where
  pub stands : view < view_count (log h)
  pub ahead : view_cursor h view < to
  pub within : to ≤ cursor h

abbrev pub LawfulOperation : Limits → History → Operation → Type 0
LawfulOperation limits h (operation.Commit c) = LawfulCommit limits (log h) c
LawfulOperation limits h (operation.Fold view to) = IsFold h view to
LawfulOperation limits h (operation.Merge table old new) = IsMerge h table old new

-- the event may follow these
pub record Lawful (limits : Limits) (h : History) (e : Event) : Type 0 where
  pub operation : LawfulOperation limits h e.operation

abbrev pub AreLawfulAfter : Limits → History → History → Type 0
AreLawfulAfter limits before [] = Unit {0}
AreLawfulAfter limits before (e ∷ h) = Lawful limits before e × AreLawfulAfter limits (before ++ e ∷ []) h

-- each event is lawful over the events before it
abbrev pub AreLawful : Limits → History → Type 0
AreLawful limits = AreLawfulAfter limits []
