use Rattle.std.proofs.Common.{◌≡◌, map}
use Rattle.std.specs.Arc.{arc_value}
use Rattle.std.specs.List.{range_with_len}
use Rattle.kq_store_column.specs.Cells.{column_of}
use Rattle.kq_store_extent.specs.Seen.{records_in, row_of}
use Rattle.kq_store_extent.specs.Wide.{wide}
use Rattle.kq_store_extent.proofs.uniting.joined_columns.Given as goal

abbrev pub invariant-loop-j : goal.invariant-loop-j
invariant-loop-j l = l.columns.items ≡ map (λ j. column_of j (map row_of (records_in (map (wide l.fields) (map arc_value l.extents))))) (range_with_len 0 l.j)
