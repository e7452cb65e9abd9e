use Rattle.std.proofs.Common.{◌≡◌, map, take}
use Rattle.kq_run_aggregates.specs.Across.{across}
use Rattle.kq_store_column_view.specs.Vectors.{cells_of}
use Rattle.kq_run_aggregates.proofs.across.row_across.Given as goal

abbrev pub invariant-loop-column : goal.invariant-loop-column
invariant-loop-column l = l.row.items ≡ across (map cells_of (take l.column-index l.columns)) l.i
