-- Rows that are made of other rows, by pieces.
use Rattle.std.specs.Prelude.{◌≡◌, ◌+◌, ◌<◌, ℕ, false, List, [], ◌∷◌, map, Result, Ok, Err, Vec}
use Rattle.std.specs.declared.alloc.Global.{Global}
use Rattle.kq_value.specs.declared.value.Value.{Value}
use Rattle.kq_store_column_view.specs.Vectors.{cells_of}
use Rattle.kq_value.specs.Computed.{AnswersAs, Computed, Is, Overflow, each}
use Rattle.kq_value.specs.declared.fault.EvalFault.{EvalFault}
use Rattle.kq_value.specs.declared.fault.EvalFault.TheVariants as fault
use Rattle.kq_plan_expressions.specs.Terms.{Term, column}
use Rattle.kq_eval_columns.specs.kq_eval_row.Val.{Surroundings, cell_of}
use Rattle.kq_eval_pieces.specs.Operators.{values_at}
use Rattle.kq_eval_pieces.specs.Pieces.{is_column}
use Rattle.kq_eval_pieces.specs.declared.sources.Source.{Source}
use Rattle.kq_eval_pieces.specs.declared.sources.Source.TheVariants.{Column, Made}

-- the cell that a source gives of a row with this place in its piece
abbrev pub cell_from : Source → ℕ → List Value → Value
cell_from (Column j) i r = cell_of r j
cell_from (Made v) i r = cell_of (cells_of v) i

-- its cells of rows, of which the first has this place
abbrev pub cells_from : Source → ℕ → List (List Value) → List Value
cells_from x i [] = []
cells_from x i (r ∷ rows) = cell_from x i r ∷ cells_from x (i + 1) rows

-- a cell from each source
abbrev pub row_from : List Source → ℕ → List Value → List Value
row_from xs i r = map (λ x. cell_from x i r) xs

abbrev pub rows_from : List Source → ℕ → List (List Value) → List (List Value)
rows_from xs i [] = []
rows_from xs i (r ∷ rows) = row_from xs i r ∷ rows_from xs (i + 1) rows

-- of each of the rows, the sources give the values of the terms over it
abbrev pub MakeRows : List Term → Surroundings → List (List Value) → Result (Vec Source Global) EvalFault → Type 0
MakeRows es s rows = AnswersAs (λ xs. rows_from xs.items 0 rows) (each (values_at es s) rows)

-- the source of a term's values: a column where the term is one, and else what came of it over the piece
abbrev pub Sourced : Term → Computed (List Value) → Result Source EvalFault → Type 0
Sourced e came (Ok (Column j)) = e ≡ column j
Sourced e came (Ok (Made v)) = (is_column e ≡ false) × (came ≡ Is (cells_of v))
Sourced e came (Err fault.Overflow) = (is_column e ≡ false) × (came ≡ Overflow)
Sourced e came (Err fault.Memory) = Unit {0}

-- behind a place, cells stand as they did
abbrev pub StandBehind : ℕ → List Value → List Value → Type 0
StandBehind i old new = (k : ℕ) → i < k → cell_of new k ≡ cell_of old k

-- behind a place, sources give what they did
abbrev pub GiveBehind : ℕ → List Source → List Source → Type 0
GiveBehind i old new = (k : ℕ) (r : List Value) → i < k → row_from new k r ≡ row_from old k r
