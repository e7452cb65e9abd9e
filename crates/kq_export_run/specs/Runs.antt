-- What the body of an export comes to over a range.
use Rattle.std.specs.Prelude.{◌≡◌, ◌⊎◌, ◌+◌, ℕ, Bool, List, ◌++◌, length, codes, decimal}
use Rattle.kq_export_csv.specs.Artefacts.{IsArtefact}
use Rattle.kq_export_ranges.specs.Exported.{RangeGives, alone, columns_given, rows_of_range}
use Rattle.kq_export_ranges.specs.Exports.{ExportView, artefact_name}
use Rattle.kq_catalog_journal.specs.History.{History, Log, log}
use Rattle.kq_run_plan.specs.declared.outcome.Outcome.{Outcome}
use Rattle.kq_run_plan.specs.declared.outcome.Outcome.TheVariants as outcome
use Rattle.kq_run_plan.specs.Gives.{World}
use Rattle.kq_run_plan.specs.Outcomes.{Row}
use Rattle.kq_reply.specs.declared.refusal.Refusal.{Refusal}
use Rattle.kq_reply.specs.declared.refusal.Refusal.TheVariants as refusals
use Rattle.kq_value.specs.declared.schema.Field.{Field}
use Rattle.kq_export_run.specs.declared.definition.Definition.{Definition}
use Rattle.kq_export_run.specs.Held.{export_of}

-- the world of the records of a range alone
abbrev pub range_gives : Log → ExportView → ℕ → ℕ → World
range_gives l e above to = alone e.source e.columns (rows_of_range l e.table (length e.columns) above to)

-- what came to the table of an export since its last range, up to a cursor
pub record RangeView : Type 0 where
  pub history : History
  pub export : Definition
  pub to : ℕ

abbrev pub gives_of : RangeView → World
gives_of r = range_gives (log r.history) (export_of r.export) r.export.end r.to

-- an artefact that is to be put: its name, its bytes, and how many rows it has
pub record WrittenView : Type 0 where
  pub name : List ℕ
  pub bytes : List ℕ
  pub rows : ℕ

-- the artefact of a range of an export
pub record IsWritten (l : Log) (e : ExportView) (above to : ℕ) (w : WrittenView) : Type 0 where
  pub ordered : Bool
  pub given : List Row
  pub gives : RangeGives l e above to (outcome.Table ordered given)
  pub named : w.name ≡ artefact_name e.name above to
  pub bytes : IsArtefact (columns_given e.body) ordered given w.bytes
  pub count : w.rows ≡ length given

-- the name of the artefact of a range, by its first and its last cursor
abbrev pub name_by : List ℕ → ℕ → ℕ → List ℕ
name_by name first last = ((((name ++ codes "-") ++ decimal first) ++ codes "-") ++ decimal last) ++ codes ".csv"

-- an answer as the artefact of a range
pub record LaysOut (d : Definition) (to : ℕ) (columns : List Field) (ordered : Bool) (rows : List Row) (w : WrittenView) : Type 0 where
  pub named : w.name ≡ name_by d.name (d.end + 1) to
  pub bytes : IsArtefact columns ordered rows w.bytes
  pub count : w.rows ≡ length rows

-- the refusal of a fault
abbrev pub RefusesOutcome : Outcome → Refusal → Type 0
RefusesOutcome (outcome.Table ordered rows) r = ⊥
RefusesOutcome (outcome.Cell v) r = ⊥
RefusesOutcome (outcome.Overflow stage) r = r ≡ refusals.Overflow stage
RefusesOutcome (outcome.Full limit) r = r ≡ refusals.Full limit

-- the body has a fault over the range
pub record HasFault (l : Log) (e : ExportView) (above to : ℕ) (r : Refusal) : Type 0 where
  pub outcome : Outcome
  pub gives : RangeGives l e above to outcome
  pub told : RefusesOutcome outcome r

abbrev pub RefusesRange : Log → ExportView → ℕ → ℕ → Refusal → Type 0
RefusesRange l e above to r = (r ≡ refusals.Memory) ⊎ HasFault l e above to r
