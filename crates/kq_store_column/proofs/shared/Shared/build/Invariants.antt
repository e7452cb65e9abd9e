use Rattle.std.proofs.Common.{◌≡◌, take}
use Rattle.kq_store_column.specs.Cells.{column_of}
use Rattle.kq_store_column.proofs.shared.Shared.build.Given as goal

abbrev pub invariant-loop-i : goal.invariant-loop-i
invariant-loop-i l = l.cells.items ≡ take l.i (column_of l.column l.rows)
