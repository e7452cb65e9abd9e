-- Rows in columns.
use Rattle.std.specs.Prelude.{◌≡◌, ◌<◌, ◌^◌, ℕ, List, length, map}
use Rattle.std.specs.List.{All, range_with_len}
use Rattle.kq_value.specs.declared.value.Value.{Value}
use Rattle.kq_store_column_view.specs.Vectors.{cell_of}

-- a row has a cell of each column
abbrev pub row_across : List (List Value) → ℕ → List Value
row_across columns i = map (λ c. cell_of c i) columns

-- so many rows, from the first cells of the columns on
abbrev pub rows_across : List (List Value) → ℕ → List (List Value)
rows_across columns count = map (row_across columns) (range_with_len 0 count)

-- the cells of rows in a column
abbrev pub column_in : List (List Value) → ℕ → List Value
column_in rows j = map (λ r. cell_of r j) rows

-- so many columns of rows
abbrev pub columns_in : List (List Value) → ℕ → List (List Value)
columns_in rows width = map (column_in rows) (range_with_len 0 width)

-- each column has a cell for each row
pub record AreWhole (columns : List (List Value)) (count : ℕ) : Type 0 where
  pub long : All (λ c. length c ≡ count) columns
  pub small : count < 2 ^ 63
