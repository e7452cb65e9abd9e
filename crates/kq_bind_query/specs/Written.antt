-- The cells of a datatable, in its rows.
use Rattle.std.specs.Prelude.{◌≡◌, ℕ, ◌+◌, ◌*◌, List, All, Ok, Some, length, slice_get}
use Rattle.kq_bind_clauses.specs.Tables.{cell_made, Tabled}
use Rattle.kq_read_grammar.specs.declared.clause.Cell.{Cell}
use Rattle.kq_value.specs.declared.schema.Field.{Field}
use Rattle.kq_value.specs.declared.value.Value.{Value}

-- a row has a value for each of so many columns
abbrev pub IsRowOf : ℕ → List Value → Type 0
IsRowOf width row = length row ≡ width

-- a value is that of the cell of this number, as one of this column
pub record IsCell (text : List ℕ) (cells : List Cell) (number : ℕ) (f : Field) (v : Value) : Type 0 where
  pub cell : Cell
  pub there : slice_get cells number ≡ Some cell
  pub made : cell_made text f.ty cell ≡ Ok v

-- a table has all the cells, row by row
pub record HoldsCells (text : List ℕ) (cells : List Cell) (t : Tabled) : Type 0 where
  pub rows : All (IsRowOf (length t.0)) t.1
  pub all : length t.1 * length t.0 ≡ length cells
  pub each : (r k : ℕ) (row : List Value) (f : Field) (v : Value) → slice_get t.1 r ≡ Some row → slice_get t.0 k ≡ Some f → slice_get row k ≡ Some v
      → IsCell text cells (r * length t.0 + k) f v
