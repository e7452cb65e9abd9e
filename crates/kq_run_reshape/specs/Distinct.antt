-- The different rows of some columns.
use Rattle.std.specs.Prelude.{◌≡◌, ℕ, List, map, min}
use Rattle.kq_value.specs.declared.value.Value.{Value}
use Rattle.kq_value.specs.Same.{times}
use Rattle.kq_run_reshape.specs.Cells.{cell_at}

-- the cells of these columns
abbrev pub chosen : List ℕ → List Value → List Value
chosen columns row = map (cell_at row) columns

-- a row stands once where it is the choice of these columns of some row, and else not at all
pub record Apart (columns : List ℕ) (rows out : List (List Value)) : Type 0 where
  pub each : (r : List Value) → times r out ≡ min 1 (times r (map (chosen columns) rows))
