-- The rows of a union.
use Rattle.std.specs.Prelude.{ℕ, suc, List, [], ◌∷◌, ◌++◌, map, slice_index_or, Option, Some, None}
use Rattle.kq_value.specs.declared.schema.Field.{Field}
use Rattle.kq_value.specs.declared.ty.Ty.{Ty}
use Rattle.kq_value.specs.declared.value.Value.{Value}
use Rattle.kq_value.specs.Typed.{missing_of}
use Rattle.kq_run_reshape.specs.Cells.{cell_at}

-- the cell of the arm's column that fills a column of this type; null, or empty for a string, where none does
abbrev pub filling : Option ℕ → Ty → List Value → Value
filling (Some column) t row = cell_at row column
filling None t row = missing_of t

-- a cell for each column of the union, where the first is that at this place
abbrev pub filled_from : ℕ → List Field → List (Option ℕ) → List Value → List Value
filled_from i [] cells row = []
filled_from i (f ∷ fs) cells row = filling (slice_index_or cells i None) f.ty row ∷ filled_from (suc i) fs cells row

abbrev pub filled : List Field → List (Option ℕ) → List Value → List Value
filled = filled_from 0

-- rows, and for each column of the union the column that fills it
abbrev pub Filled : Type 0
Filled = List (List Value) × List (Option ℕ)

-- the rows of the arms one after another
abbrev pub united : List Field → List Filled → List (List Value)
united columns [] = []
united columns (a ∷ arms) = map (filled columns a.1) a.0 ++ united columns arms
