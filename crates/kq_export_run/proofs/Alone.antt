-- The world of a table alone, and what the body of an export gives over it.
use Rattle.std.proofs.Common.{◌≡◌, ◌∙◌, ap, sym, subst, arith, refl, ℕ, pos, Bool, true, false, cond, List, All, Option, Some, None}
use Rattle.std.proofs.lemmas.Slice.Eq.{bytes_eq-Decides}
use Rattle.std.specs.Str.{bytes_eq}
use Rattle.kq_export_ranges.specs.Exported.{IsDefined, alone, columns_given, only}
use Rattle.kq_export_ranges.specs.Exports.{ExportView}
use Rattle.kq_catalog_journal.specs.History.{Log}
use Rattle.kq_run_plan.proofs.Typed.{gives_typed}
use Rattle.kq_run_plan.specs.declared.outcome.Outcome.{Outcome}
use Rattle.kq_run_plan.specs.declared.outcome.Outcome.TheVariants as outcome
use Rattle.kq_run_plan.specs.Gives.{Gives}
use Rattle.kq_run_plan.specs.Outcomes.{Row}
use Rattle.kq_run_plan.specs.Typed.{FitsWorld, IsTypedTable, TypedWorld}
use Rattle.kq_plan.specs.declared.names.NameKind.{NameKind}
use Rattle.kq_plan.specs.declared.names.NameKind.TheVariants as name
use Rattle.kq_plan.specs.declared.work.LeafKind.TheVariants as kind
use Rattle.kq_plan.specs.Fits.{FitsLeaf}
use Rattle.kq_engine_query.proofs.Known.{known_by, other_kind, same_columns}
use Rattle.kq_value.specs.declared.schema.Field.{Field}
use Rattle.kq_value.specs.Typed.{HasTypes, IsMoment}

module _ (table : List ℕ) (cs : List Field) (said : List ℕ) (fs : List Field) where
  -- a leaf of a plan that fits the table alone is the table
  pub leaf_alone : FitsLeaf kind.Table (only table cs said) fs → (said ≡ table) × (cs ≡ fs)
  leaf_alone = by_test (bytes_eq said table) refl
    where
      by_test : (b : Bool) → bytes_eq said table ≡ b → cond b (known_by name.Table cs) None ≡ known_by name.Table fs → (said ≡ table) × (cs ≡ fs)
      by_test true same fits = ((bytes_eq-Decides said table).0 same, same_columns name.Table cs fs fits)
      by_test false same fits = absurd cc

  pub view_alone : only table cs said ≡ known_by name.View fs → ⊥
  view_alone = by_test (bytes_eq said table)
    where
      by_test : (b : Bool) → cond b (known_by name.Table cs) None ≡ known_by name.View fs → ⊥
      by_test true fits = other_kind cs fs fits
      by_test false fits = absurd cc

pub typed_alone : (table : List ℕ) (cs : List Field) (rows : List Row) → TypedWorld (only table cs) (alone table cs rows)
typed_alone table cs rows said kind.Table fs given fits gives = subst (λ (x : List Field). All (HasTypes x) given) (leaf_alone table cs said fs fits).1 gives.1.1
typed_alone table cs rows said kind.View fs given fits gives = absurd gives
typed_alone table cs rows said kind.Part fs given fits gives = absurd gives

pub fits_alone : (l : Log) (e : ExportView) (rows : List Row) → IsDefined l e → FitsWorld e.body (only e.source e.columns) (alone e.source e.columns rows)
fits_alone l e rows is = record { columns = columns_given e.body; typed = typed_alone e.source e.columns rows; fits = is.fits }

at_start : IsMoment (pos 0)
at_start = (omega arith, omega arith)

-- rows or a fault
abbrev pub IsNoCell : Outcome → Type 0
IsNoCell (outcome.Table ordered rows) = Unit {0}
IsNoCell (outcome.Cell v) = ⊥
IsNoCell (outcome.Overflow stage) = Unit {0}
IsNoCell (outcome.Full limit) = Unit {0}

no_cell : (columns : List Field) (o : Outcome) → IsTypedTable columns o → IsNoCell o
no_cell columns (outcome.Table ordered rows) typed = tt
no_cell columns (outcome.Cell v) typed = absurd typed
no_cell columns (outcome.Overflow stage) typed = tt
no_cell columns (outcome.Full limit) typed = tt

pub gives_no_cell : (l : Log) (e : ExportView) (rows : List Row) (o : Outcome) → IsDefined l e → Gives e.body (alone e.source e.columns rows) (pos 0) o → IsNoCell o
gives_no_cell l e rows o is gives =
    let typed = typed_alone e.source e.columns rows in
    let given = columns_given e.body in
    no_cell given o (gives_typed (only e.source e.columns) (alone e.source e.columns rows) (pos 0) e.body given o at_start typed is.fits gives)
