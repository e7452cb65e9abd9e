-- Expressions that read one column of words.
use Rattle.std.specs.Prelude.{◌≡◌, ◌<◌, ℕ, List, [], Some, get_or, length, map, slice_get}
use Rattle.std.specs.List.{All}
use Rattle.kq_value.specs.declared.value.Value.{Value}
use Rattle.kq_value.specs.Computed.{Is}
use Rattle.kq_plan_expressions.specs.declared.expr.Expr.{Expr}
use Rattle.kq_eval_columns.specs.kq_eval_row.Val.{Surroundings, val}
use Rattle.kq_store_column_view.specs.declared.vector.Vector.{Vector}
use Rattle.kq_store_column_view.specs.Vectors.{cell_of, cells_of}
use Rattle.kq_eval_pieces.specs.Pieces.{columns_read}
use Rattle.kq_eval_pieces.specs.declared.worded.Worded.{Worded}

-- the expression reads this column and no other
pub record ReadsWords (e : Expr) (columns : List Vector) (w : Worded) : Type 0 where
  pub alone : All (λ n. n ≡ w.column) (columns_read e)
  pub cells : get_or (map cells_of columns) w.column [] ≡ map (cell_of w.words.now) w.codes.now

-- the value at each place is that of the expression over any row that has the word there in this column
pub record AreByWord (e : Expr) (s : Surroundings) (column : ℕ) (words values : List Value) : Type 0 where
  pub each : (row : List Value) (i : ℕ) → i < length words → cell_of row column ≡ cell_of words i → val e s row ≡ Is (cell_of values i)

-- these are the expression's values at the words with these codes
pub record AreByCodes (e : Expr) (s : Surroundings) (column : ℕ) (words : List Value) (codes : List ℕ) (cells : List Value) : Type 0 where
  pub values : List Value
  pub by : AreByWord e s column words values
  pub are : cells ≡ map (cell_of values) codes

-- these are the codes at the places, each below the count
pub record AreCodesAt (codes places : List ℕ) (count : ℕ) (found : List ℕ) : Type 0 where
  pub are : map Some found ≡ map (slice_get codes) places
  pub below : All (λ c. c < count) found
