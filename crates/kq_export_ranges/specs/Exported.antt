-- What the artefacts of exports hold: the query of each over consecutive ranges of cursors.
use Rattle.std.specs.Prelude.{◌≡◌, ◌≢◌, ◌≤◌, ◌&&◌, ℕ, not, nat_lt, pos, Bool, List, ◌∷◌, ◌++◌, ◌<◌, All, AllPairs, length, map, take, Option, Some, None, if◌then◌else◌}
use Rattle.std.specs.List.{AllZip, filter, slice_get}
use Rattle.std.specs.Str.{bytes_eq}
use Rattle.kq_export_csv.specs.Artefacts.{IsArtefact}
use Rattle.kq_bind_operators.specs.Flows.{columns_at}
use Rattle.kq_value.specs.Computed.{Computed, Is, Overflow}
use Rattle.kq_catalog_journal.specs.History.{History, Log, cursor, log, tables}
use Rattle.kq_catalog_journal.specs.Records.{records, schema_of}
use Rattle.kq_run_plan.specs.declared.outcome.Outcome.{Outcome}
use Rattle.kq_run_plan.specs.declared.outcome.Outcome.TheVariants as outcome
use Rattle.kq_run_plan.specs.Gives.{Gives, World}
use Rattle.kq_run_plan.specs.Outcomes.{Row}
use Rattle.kq_plan.specs.declared.work.LeafKind.{LeafKind}
use Rattle.kq_plan.specs.declared.work.LeafKind.TheVariants as kind
use Rattle.kq_plan.specs.declared.names.NameKind.TheVariants as name
use Rattle.kq_plan.specs.Names.{Known}
use Rattle.kq_plan.specs.Fits.{FitsNames}
use Rattle.kq_plan.specs.Plans.{Planned}
use Rattle.kq_value.specs.declared.record.Record.{Record}
use Rattle.kq_value.specs.declared.schema.Field.{Field}
use Rattle.kq_value.specs.Same.{Same}
use Rattle.kq_value.specs.Typed.{HasTypes}
use Rattle.kq_world.specs.Outside.{Put}
use Rattle.kq_export_ranges.specs.declared.range.ExportRange.{ExportRange}
use Rattle.kq_export_ranges.specs.Exports.{AreInTurn, ExportView, Exports, artefact_name, last_end, ranges_of}

-- ---- the records of a range

abbrev pub is_between : ℕ → ℕ → Record → Bool
is_between above to r = nat_lt above r.id.cursor && not (nat_lt to r.id.cursor)

-- the first cells of a record, so many
abbrev pub first_cells : ℕ → Record → Row
first_cells width r = take width r.row

-- the rows of the records of a table with a cursor above the one and not above the other, each cut to so many columns
abbrev pub rows_of_range : Log → ℕ → ℕ → ℕ → ℕ → List Row
rows_of_range l table width above to = map (first_cells width) (filter (is_between above to) (records l table))

-- the table alone, under these columns
abbrev pub only : List ℕ → List Field → List ℕ → Option Known
only table columns said = if bytes_eq said table then Some (name.Table, columns) else None

-- the world of a table alone, which gives these rows in any order
abbrev pub TableAlone : List Row → List Field → Computed (List Row) → Type 0
TableAlone rows columns (Is given) = Same given rows × All (HasTypes columns) given
TableAlone rows columns Overflow = ⊥

abbrev pub alone : List ℕ → List Field → List Row → World
alone source columns rows said kind.Table under given = (said ≡ source) × TableAlone rows columns given
alone source columns rows said kind.View under given = ⊥
alone source columns rows said kind.Part under given = ⊥

-- what the body of an export may give over the records of a range alone; it asks for no moment
abbrev pub RangeGives : Log → ExportView → ℕ → ℕ → Outcome → Type 0
RangeGives l e above to o = Gives e.body (alone e.source e.columns (rows_of_range l e.table (length e.columns) above to)) (pos 0) o

-- ---- artefacts

abbrev pub columns_given : Planned → List Field
columns_given p = columns_at p.steps p.output

-- an export stands over its table, whose first columns are those that it had then, and its body reads that table alone
pub record IsDefined (l : Log) (e : ExportView) : Type 0 where
  pub stands : e.table < length (tables l)
  pub more : List Field
  pub columns : schema_of l e.table ≡ e.columns ++ more
  pub fits : FitsNames (only e.source e.columns) e.body (columns_given e.body)

-- what was put for a range: under its name the rows that the export's body gives over the records of the range
pub record IsCommitted (l : Log) (defined : List ExportView) (r : ExportRange) (p : Put) : Type 0 where
  pub export : ExportView
  pub stands : slice_get defined r.export ≡ Some export
  pub within : r.to ≤ length l
  pub ordered : Bool
  pub rows : List Row
  pub gives : RangeGives l export r.above r.to (outcome.Table ordered rows)
  pub named : p.name ≡ artefact_name export.name r.above r.to
  pub bytes : IsArtefact (columns_given export.body) ordered rows p.bytes

-- the ranges of one export are consecutive, from cursor 0 up to one of the history
pub record AreConsecutive (h : History) (rs : List ExportRange) : Type 0 where
  pub in_turn : AreInTurn 0 rs
  pub within : last_end 0 rs ≤ cursor h

-- no two exports have one name
abbrev pub AreApart : List ExportView → Type 0
AreApart = AllPairs (λ e f. e.name ≢ f.name)

-- each export has its table and its own name, what was put is one artefact for each range, in order, and each export's ranges are consecutive
pub record IsExported (h : History) (x : Exports) (puts : List Put) : Type 0 where
  pub defined : All (IsDefined (log h)) x.defined
  pub apart : AreApart x.defined
  pub committed : AllZip (IsCommitted (log h) x.defined) x.ranges puts
  pub ranges : (n : ℕ) → AreConsecutive h (ranges_of n x.ranges)
