-- What contracts see of exports as they are held.
use Rattle.std.specs.Prelude.{◌≡◌, ℕ, true, List, [], Some, map}
use Rattle.std.specs.List.{slice_get}
use Rattle.kq_catalog.specs.Seen.{CatalogView}
use Rattle.kq_export_ranges.specs.Exported.{IsExported}
use Rattle.kq_export_ranges.specs.Exports.{ExportView, Exports, end_in}
use Rattle.kq_export_interface.specs.Due.{ExporterView}
use Rattle.kq_catalog_journal.specs.History.{History}
use Rattle.kq_plan.specs.Plans.{planned_of}
use Rattle.kq_export_ranges.specs.declared.range.ExportRange.{ExportRange}
use Rattle.kq_world.specs.Outside.{Put}
use Rattle.kq_export_run.specs.declared.definition.Definition.{Definition}
use Rattle.kq_export_run.specs.declared.seen.Seen.{Seen}
use Rattle.kq_export_run.specs.declared.seen.Seen.TheVariants.{Start, At}

abbrev pub export_of : Definition → ExportView
export_of d = record { name = d.name; source = d.source; table = d.table; columns = d.columns; body = planned_of d.body; text = d.text }

-- the history of the last snapshot
abbrev pub history_of : Seen → History
history_of Start = []
history_of (At snapshot) = snapshot.value.history

abbrev pub exports_of : List Definition → List ExportRange → Exports
exports_of ds rs = record { defined = map export_of ds; ranges = rs }

-- each export knows the cursor up to which it has exported
abbrev pub AreEnds : List Definition → List ExportRange → Type 0
AreEnds ds rs = (n : ℕ) (d : Definition) → slice_get ds n ≡ Some d → d.end ≡ end_in n rs

-- what was put is what the exports over this history say, and each knows its end
pub record AreHeld (h : History) (ds : List Definition) (rs : List ExportRange) (puts : List Put) : Type 0 where
  pub exported : IsExported h (exports_of ds rs) puts
  pub ends : AreEnds ds rs

-- the exports as they are held, the ranges that they have exported, what was put, how often a put has failed, and the history of the last snapshot
pub record ExporterState : Type 0 where
  pub defined : List Definition
  pub ranges : List ExportRange
  pub puts : List Put
  pub faults : ℕ
  pub seen : History

abbrev pub state_of : List Definition → List ExportRange → List Put → ℕ → History → ExporterState
state_of ds rs puts faults seen = record { defined = ds; ranges = rs; puts = puts; faults = faults; seen = seen }

-- the exports with their ranges
abbrev pub exports_in : ExporterState → Exports
exports_in s = exports_of s.defined s.ranges

-- what it tells
abbrev pub told_of : ExporterState → ExporterView
told_of s = record { serves = true; holding = record { exports = exports_in s; faults = s.faults }; seen = s.seen }
