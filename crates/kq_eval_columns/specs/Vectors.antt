-- The rows that columns make.
use Rattle.std.specs.Prelude.{ℕ, List, map}
use Rattle.kq_value.specs.declared.value.Value.{Value}
use Rattle.kq_eval_row.specs.Val.{cell_of}
use Rattle.kq_store_column_view.specs.declared.vector.Vector.{Vector}
use Rattle.kq_store_column_view.specs.Vectors.{cells_of}

-- the row at a place, with a null for each column that ends before it
abbrev pub row_at : List Vector → ℕ → List Value
row_at columns i = map (λ c. cell_of (cells_of c) i) columns

-- the rows at these places
abbrev pub rows_at : List Vector → List ℕ → List (List Value)
rows_at columns places = map (row_at columns) places
