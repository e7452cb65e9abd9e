-- Rows of one cell, and the cells that numbers stand for.
use Rattle.std.specs.Prelude.{ℤ, List, [], ◌∷◌, map}
use Rattle.kq_value.specs.declared.value.Value.{Value}
use Rattle.kq_value.specs.declared.value.Value.TheVariants.{Long, Moment, Span}
use Rattle.kq_run_aggregates.specs.declared.reading.Reading.{Reading}
use Rattle.kq_run_aggregates.specs.declared.reading.Reading.TheVariants as reading

-- a row of this cell
abbrev pub alone : Value → List Value
alone v = v ∷ []

-- a row of each of these cells
abbrev pub each_alone : List Value → List (List Value)
each_alone cells = map alone cells

-- the cell that a number stands for
abbrev pub cell_as : Reading → ℤ → Value
cell_as reading.Long = Long
cell_as reading.Moment = Moment
cell_as reading.Span = Span
