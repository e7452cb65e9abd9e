-- Rows that have the types of their columns: of a world, of steps, and of an answer.
use Rattle.std.specs.Prelude.{◌≡◌, false, ℕ, List, [], ◌∷◌, Option, All}
use Rattle.std.specs.List.{AllZip}
use Rattle.kq_value.specs.Computed.{Is}
use Rattle.kq_plan.specs.declared.work.LeafKind.{LeafKind}
use Rattle.kq_plan.specs.Fits.{FitsNames, FitsLeaf, FitsStep}
use Rattle.kq_plan.specs.Names.{Known}
use Rattle.kq_plan.specs.Plans.{Doing, Planned, Stepping, scalar}
use Rattle.kq_value.specs.declared.schema.Field.{Field}
use Rattle.kq_value.specs.Typed.{HasTypes}
use Rattle.kq_run_plan.specs.declared.outcome.Outcome.{Outcome}
use Rattle.kq_run_plan.specs.declared.outcome.Outcome.TheVariants.{Table, Cell, Overflow, Full}
use Rattle.kq_run_plan.specs.Gives.{World}
use Rattle.kq_run_plan.specs.Outcomes.{Row, is_fault}

-- what a name gives under the columns that it is known by has their types
abbrev pub TypedWorld : (List ℕ → Option Known) → World → Type 0
TypedWorld known w =
    (name : List ℕ) (kind : LeafKind) (cs : List Field) (rows : List Row)
    → FitsLeaf kind (known name) cs → w name kind cs (Is rows) → All (HasTypes cs) rows

-- a table of rows of the columns' types, or a fault
abbrev pub IsTypedTable : List Field → Outcome → Type 0
IsTypedTable cs (Table ordered rows) = All (HasTypes cs) rows
IsTypedTable cs (Cell v) = ⊥
IsTypedTable cs (Overflow stage) = Unit {0}
IsTypedTable cs (Full limit) = Unit {0}

-- a cell of the one column's type, or a fault
abbrev pub IsTypedCell : List Field → Outcome → Type 0
IsTypedCell cs (Table ordered rows) = ⊥
IsTypedCell cs (Cell v) = HasTypes cs (v ∷ [])
IsTypedCell cs (Overflow stage) = Unit {0}
IsTypedCell cs (Full limit) = Unit {0}

-- a scalar let gives a cell, and all else gives rows
abbrev pub IsTypedBy : Doing → List Field → Outcome → Type 0
IsTypedBy (scalar e) cs o = IsTypedCell cs o
IsTypedBy doing cs o = IsTypedTable cs o

-- a step's outcome, where the plan goes on
pub record Stands (s : Stepping) (o : Outcome) : Type 0 where
  pub typed : IsTypedBy s.doing s.columns o
  pub no_fault : is_fault o ≡ false

-- steps and their outcomes side by side
abbrev pub Stood : List Stepping → List Outcome → Type 0
Stood before done = AllZip Stands before done

-- ---- plans

-- the plan fits these names, whose rows in this world have the types of their columns
pub record FitsWorld (p : Planned) (known : List ℕ → Option Known) (w : World) : Type 0 where
  pub columns : List Field
  pub typed : TypedWorld known w
  pub fits : FitsNames known p columns

-- a step that fits such names, behind steps that gave what fits them
pub record IsNext (known : List ℕ → Option Known) (w : World) (before : List Stepping) (done : List Outcome) (s : Stepping) : Type 0 where
  pub typed : TypedWorld known w
  pub stood : Stood before done
  pub fits : FitsStep known before s.doing s.columns
