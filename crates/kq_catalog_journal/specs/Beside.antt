-- What the query of an entry gives over the rows of a batch.
use Rattle.std.specs.Prelude.{◌≡◌, ℕ, pos, List, length, map, take, All, Option, Some, None, Result, Ok, Err, nat_eq, if◌then◌else◌}
use Rattle.std.specs.List.{slice_get}
use Rattle.kq_value.specs.Computed.{Computed, Is, Overflow}
use Rattle.kq_run_plan.specs.declared.outcome.Outcome.{Outcome}
use Rattle.kq_run_plan.specs.declared.outcome.Outcome.TheVariants as outcome
use Rattle.kq_run_plan.specs.Gives.{Gives}
use Rattle.kq_plan.specs.declared.work.LeafKind.{LeafKind}
use Rattle.kq_plan.specs.declared.work.LeafKind.TheVariants as kind
use Rattle.kq_plan.specs.Plans.{planned_of}
use Rattle.kq_value.specs.declared.record.Record.{Record}
use Rattle.kq_value.specs.declared.schema.Field.{Field}
use Rattle.kq_value.specs.Same.{Same}
use Rattle.kq_value.specs.Typed.{HasTypes}
use Rattle.kq_store_rows.specs.declared.cause.Cause.{Cause}
use Rattle.kq_store_rows.specs.declared.cause.Cause.TheVariants as causes
use Rattle.kq_catalog_journal.specs.declared.policy.Due.{Due}
use Rattle.kq_catalog_journal.specs.declared.policy.Entry.{Entry}
use Rattle.kq_catalog_journal.specs.Derived.{Row}
use Rattle.kq_catalog_journal.specs.Force.{policy_at}
use Rattle.kq_catalog_journal.specs.History.{Log, NumberedTable, table_numbered, tables}
use Rattle.kq_catalog_journal.specs.Policies.{policies}
use Rattle.kq_catalog_journal.specs.Records.{records}

-- ---- the world of an entry

-- rows cut to the first of their table's columns
abbrev pub cut_to : List Field → List Row → List Row
cut_to columns = map (take (length columns))

-- of the source the rows of the batch alone, and of every other table those that the log gave it
abbrev pub rows_beside : Log → ℕ → List Row → ℕ → List Row
rows_beside l source rows t = if nat_eq t source then rows else map (λ (r : Record). r.row) (records l t)

-- a table gives these rows in any order, cut to the columns under which it is read, and they have their types; what is no table gives nothing
abbrev pub TableBeside : Log → ℕ → List Row → List Field → Option NumberedTable → Computed (List Row) → Type 0
TableBeside l source rows columns (Some found) (Is given) = Same given (cut_to columns (rows_beside l source rows found.number)) × All (HasTypes columns) given
TableBeside l source rows columns (Some found) Overflow = ⊥
TableBeside l source rows columns None given = ⊥

-- the tables right after the log, beside the rows of a batch of the source; the columns are those of the time when the entry was set. No view is read
abbrev pub beside : Log → ℕ → List Row → List ℕ → LeafKind → List Field → Computed (List Row) → Type 0
beside l source rows said kind.Table columns given = TableBeside l source rows columns (table_numbered said (tables l)) given
beside l source rows said kind.View columns given = ⊥
beside l source rows said kind.Part columns given = ⊥

-- ---- queries

-- an outcome's rows, or the cause for which there are none
abbrev pub TellsCause : Outcome → Result (List Row) Cause → Type 0
TellsCause (outcome.Table ordered rows) given = given ≡ Ok rows
TellsCause (outcome.Cell v) given = ⊥
TellsCause (outcome.Overflow stage) given = given ≡ Err (causes.Overflow stage)
TellsCause (outcome.Full limit) given = given ≡ Err (causes.Full limit)

-- what the query of an entry may give over the rows of a batch; it asks for no moment
pub record EntryGives (l : Log) (e : Entry) (rows : List Row) (given : Result (List Row) Cause) : Type 0 where
  pub outcome : Outcome
  pub gives : Gives (planned_of e.plan) (beside l e.source rows) (pos 0) outcome
  pub told : TellsCause outcome given

-- the same of the entry at a place of its target's policy
pub record DueGives (l : Log) (d : Due) (rows : List Row) (given : Result (List Row) Cause) : Type 0 where
  pub entry : Entry
  pub stands : slice_get (policy_at (policies l) d.target) d.place ≡ Some entry
  pub gives : EntryGives l entry rows given
