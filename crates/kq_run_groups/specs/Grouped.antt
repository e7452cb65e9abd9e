-- What a summarize gives of rows, by their keys.
use Rattle.std.specs.Prelude.{◌≡◌, ℕ, zero, suc, min, List, [], ◌∷◌, ◌++◌, length, if◌then◌else◌, Result, Ok, Err}
use Rattle.std.specs.List.{All}
use Rattle.kq_run_aggregates.specs.Holds.{Cell}
use Rattle.kq_run_aggregates.specs.declared.kind.Kind.{Kind}
use Rattle.kq_run_aggregates.specs.declared.kind.Kind.TheVariants as kind
use Rattle.kq_value.specs.Computed.{Computed, Is, Overflow, and_then}
use Rattle.kq_value.specs.declared.fault.EvalFault.{EvalFault}
use Rattle.kq_value.specs.declared.fault.EvalFault.TheVariants as fault
use Rattle.kq_store_rows.specs.Chunks.{HasWidth}
use Rattle.kq_value.specs.declared.ty.Ty.{Ty}
use Rattle.kq_value.specs.declared.value.Value.{Value}
use Rattle.kq_value.specs.Same.{times}
use Rattle.kq_value.specs.Values.{is_same_row}

-- an aggregate, and the types of the columns that it gives
pub record AggregateShape : Type 0 where
  pub kind : Kind
  pub types : List Ty

-- the rows of arguments of the rows with a key, in order; each row's key stands beside its arguments
abbrev pub args_of : List Value → List (List Value) → List (List Value) → List (List Value)
args_of key [] rows = []
args_of key (k ∷ keys) [] = []
args_of key (k ∷ keys) (r ∷ rows) = if is_same_row key k then r ∷ args_of key keys rows else args_of key keys rows

-- the different ones of the rows' keys, each once
pub record AreDifferent (keys groups : List (List Value)) : Type 0 where
  pub each : (k : List Value) → times k groups ≡ min 1 (times k keys)

-- the keys of the groups; a key of no cells is there also over no rows
abbrev pub AreKeys : ℕ → List (List Value) → List (List Value) → Type 0
AreKeys zero keys groups = groups ≡ [] ∷ []
AreKeys (suc width) keys groups = AreDifferent keys groups

-- the aggregates may give these cells, one after another, over the rows with a key, or an overflow where one of them does
abbrev pub Cells : List AggregateShape → List Value → List (List Value) → List (List (List Value)) → Computed (List Value) → Type 0
Cells [] key keys [] out = out ≡ Is []
Cells [] key keys (rows ∷ args) out = ⊥
Cells (a ∷ others) key keys [] out = ⊥
Cells (a ∷ others) key keys (rows ∷ args) out =
    (first : Computed (List Value)) × (rest : Computed (List Value))
    × Cell a.kind a.types (args_of key keys rows) first × Cells others key keys args rest × (out ≡ and_then first (λ x. and_then rest (λ y. Is (x ++ y))))

-- a row for each group: its key, and then the cells
abbrev pub GroupRows : List AggregateShape → List (List Value) → List (List Value) → List (List (List Value)) → Computed (List (List Value)) → Type 0
GroupRows aggregates [] keys args out = out ≡ Is []
GroupRows aggregates (g ∷ groups) keys args out =
    (first : Computed (List Value)) × (others : Computed (List (List Value)))
    × Cells aggregates g keys args first × GroupRows aggregates groups keys args others × (out ≡ and_then first (λ x. and_then others (λ rows. Is ((g ++ x) ∷ rows))))

-- the rows of a summarize over rows whose keys, of so many cells, and arguments for each aggregate are these, or an overflow
abbrev pub Grouped : ℕ → List AggregateShape → List (List Value) → List (List (List Value)) → Computed (List (List Value)) → Type 0
Grouped width aggregates keys args out = (groups : List (List Value)) × AreKeys width keys groups × GroupRows aggregates groups keys args out

-- the same of an answer, unless memory ran out
abbrev pub IsGrouped : ℕ → List AggregateShape → List (List Value) → List (List (List Value)) → Result (List (List Value)) EvalFault → Type 0
IsGrouped width aggregates keys args (Ok rows) = Grouped width aggregates keys args (Is rows)
IsGrouped width aggregates keys args (Err fault.Overflow) = Grouped width aggregates keys args Overflow
IsGrouped width aggregates keys args (Err fault.Memory) = Unit {0}

-- an aggregate that takes whole rows has a column for each of their cells, and any other has one
abbrev pub FitsArgs : Kind → List Ty → List (List Value) → Type 0
FitsArgs kind.ArgMax types rows = All (HasWidth (length types)) rows
FitsArgs kind.ArgMin types rows = All (HasWidth (length types)) rows
FitsArgs kind.TakeAny types rows = All (HasWidth (length types)) rows
FitsArgs k types rows = length types ≡ 1

abbrev pub FitArgs : List AggregateShape → List (List (List Value)) → Type 0
FitArgs [] [] = Unit {0}
FitArgs [] (rows ∷ args) = ⊥
FitArgs (a ∷ others) [] = ⊥
FitArgs (a ∷ others) (rows ∷ args) = FitsArgs a.kind a.types rows × FitArgs others args
