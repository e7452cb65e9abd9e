use Rattle.std.proofs.Common.{◌≡◌, take}
use Rattle.kq_eval_columns.specs.Vectors.{row_at}
use Rattle.kq_eval_columns.proofs.calls.fill_row.Given as goal

abbrev pub invariant-loop-vector : goal.invariant-loop-vector
invariant-loop-vector l = l.row.items ≡ row_at (take l.vector-index l.vectors) l.i
