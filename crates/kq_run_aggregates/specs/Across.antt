-- Rows whose cells stand in columns.
use Rattle.std.specs.Prelude.{ℕ, List, map}
use Rattle.std.specs.List.{range_with_len}
use Rattle.kq_value.specs.declared.value.Value.{Value}
use Rattle.kq_store_column_view.specs.Vectors.{cell_of}

-- the cells of one row
abbrev pub across : List (List Value) → ℕ → List Value
across columns i = map (λ (cells : List Value). cell_of cells i) columns

-- so many rows
abbrev pub rows_across : ℕ → List (List Value) → List (List Value)
rows_across n columns = map (across columns) (range_with_len 0 n)
