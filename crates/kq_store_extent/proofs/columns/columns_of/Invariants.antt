use Rattle.std.proofs.Common.{◌≡◌, map}
use Rattle.std.specs.List.{range_with_len}
use Rattle.kq_store_column.specs.Cells.{column_of}
use Rattle.kq_store_extent.proofs.columns.columns_of.Given as goal

abbrev pub invariant-loop-j : goal.invariant-loop-j
invariant-loop-j l = l.columns.items ≡ map (λ j. column_of j l.rows) (range_with_len 0 l.j)
