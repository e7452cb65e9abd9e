use Rattle.std.proofs.Common.{◌≡◌, drop}
use Rattle.kq_bind_clauses.proofs.joins.beside.Given as goal
use Rattle.kq_bind_clauses.specs.Joins.{beside}

abbrev pub invariant-loop-column : goal.invariant-loop-column
invariant-loop-column l = beside l.fn.left.items l.fn.right.items ≡ beside l.columns.items (drop l.column-index l.column-items)
