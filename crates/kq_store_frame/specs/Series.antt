-- The cells of one column.
use Rattle.std.specs.Prelude.{ℤ, List, map}
use Rattle.kq_value.specs.declared.value.Value.{Value}
use Rattle.kq_value.specs.declared.value.Value.TheVariants as values
use Rattle.kq_store_frame.specs.declared.kind.Kind.{Kind}
use Rattle.kq_store_frame.specs.declared.kind.Kind.TheVariants as kind
use Rattle.kq_store_frame.specs.declared.series.Series.{Series}
use Rattle.kq_store_frame.specs.declared.series.Series.TheVariants as series

-- the cell of a kind that a number stands for
abbrev pub cell_by : Kind → ℤ → Value
cell_by kind.Long z = values.Long z
cell_by kind.Moment z = values.Moment z
cell_by kind.Span z = values.Span z

abbrev pub cells_in : Series → List Value
cells_in (series.Numbers k numbers) = map (cell_by k) numbers.items
cells_in (series.Cells cells) = cells.items
