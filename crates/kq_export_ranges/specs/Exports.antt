-- Exports, and the ranges of cursors that they have exported.
use Rattle.std.specs.Prelude.{◌+◌, ℕ, List, [], ◌∷◌, ◌++◌, Bool, Option, codes, decimal, nat_eq}
use Rattle.std.specs.Cmp.Lexicographic.{pointwise}
use Rattle.std.specs.Prelude.{position}
use Rattle.kq_plan.specs.Plans.{Planned}
use Rattle.kq_value.specs.declared.schema.Field.{Field}
use Rattle.kq_export_ranges.specs.declared.range.ExportRange.{ExportRange}
pub use Rattle.kq_export_ranges.specs.Ranges.{AreInTurn, end_in, last_end, ranges_of}

-- its name, its table by name and by number, the columns that the table had when it was defined, its body as it was bound then, and the body's text
pub record ExportView : Type 0 where
  pub name : List ℕ
  pub source : List ℕ
  pub table : ℕ
  pub columns : List Field
  pub body : Planned
  pub text : List ℕ

-- the exports in the order in which they were defined, and the ranges in the order in which they were exported
pub record Exports : Type 0 where
  pub defined : List ExportView
  pub ranges : List ExportRange

abbrev pub no_exports : Exports
no_exports = record { defined = []; ranges = [] }

-- ---- ranges

-- the cursor up to which an export has exported
abbrev pub end_of : ℕ → Exports → ℕ
end_of n x = end_in n x.ranges

-- one range more: what came since, up to a cursor
abbrev pub exported : Exports → ℕ → ℕ → Exports
exported x n to = record x { ranges = x.ranges ++ record { export = n; above = end_of n x; to = to } ∷ [] }

-- ---- names

abbrev pub is_named : List ℕ → ExportView → Bool
is_named name e = pointwise nat_eq e.name name

-- the number of the export of a name
abbrev pub export_numbered : List ℕ → List ExportView → Option ℕ
export_numbered name = position (is_named name)

-- the name of the artefact of a range: that of its export, its first and its last cursor
abbrev pub artefact_name : List ℕ → ℕ → ℕ → List ℕ
artefact_name name above to = ((((name ++ codes "-") ++ decimal (above + 1)) ++ codes "-") ++ decimal to) ++ codes ".csv"
