-- The arguments of aggregates over a piece of rows.
use Rattle.std.specs.Prelude.{ℕ, List, [], map, replicate}
use Rattle.kq_run_aggregates.specs.Across.{rows_across}
use Rattle.kq_run_aggregates.specs.Alone.{each_alone}
use Rattle.kq_value.specs.declared.value.Value.{Value}
use Rattle.kq_store_column_view.specs.Vectors.{cells_of}
use Rattle.kq_run_groups.specs.declared.argument.Argument.{Argument}
use Rattle.kq_run_groups.specs.declared.argument.Argument.TheVariants as argument

-- the rows of arguments over so many rows
abbrev pub rows_in : ℕ → Argument → List (List Value)
rows_in n argument.Nothing = replicate n []
rows_in n (argument.Column column) = each_alone (cells_of column)
rows_in n (argument.Columns columns) = rows_across n (map cells_of columns.items)

-- those of each aggregate
abbrev pub rows_given : ℕ → List Argument → List (List (List Value))
rows_given n args = map (rows_in n) args
