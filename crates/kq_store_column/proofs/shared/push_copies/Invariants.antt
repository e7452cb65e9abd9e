use Rattle.std.proofs.Common.{◌≡◌, ◌++◌, take}
use Rattle.kq_store_column_view.specs.Vectors.{cells_of}
use Rattle.kq_store_column.proofs.shared.push_copies.Given as goal

abbrev pub invariant-loop-i : goal.invariant-loop-i
invariant-loop-i l = l.cells.items ≡ l.fn.cells.items ++ take l.i (cells_of l.part)
