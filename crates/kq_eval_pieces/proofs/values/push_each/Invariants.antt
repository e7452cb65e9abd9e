use Rattle.std.proofs.Common.{◌≡◌, ◌++◌, take}
use Rattle.kq_store_column_view.specs.Vectors.{cells_of}
use Rattle.kq_eval_pieces.proofs.values.push_each.Given as goal

abbrev pub invariant-loop-i : goal.invariant-loop-i
invariant-loop-i l = l.values.items ≡ l.fn.values.items ++ take l.i (cells_of l.vector)
