use Rattle.std.proofs.Common.{◌≡◌, drop}
use Rattle.kq_bind_clauses.proofs.unions.has_column.Given as goal
use Rattle.kq_bind_clauses.specs.Unions.{has_column}

abbrev pub invariant-loop-column : goal.invariant-loop-column
invariant-loop-column l = has_column l.columns l.field ≡ has_column (drop l.column-index l.columns) l.field
