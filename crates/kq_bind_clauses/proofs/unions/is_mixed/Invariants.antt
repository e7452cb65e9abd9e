use Rattle.std.proofs.Common.{◌≡◌, drop}
use Rattle.kq_bind_clauses.proofs.unions.is_mixed.Given as goal
use Rattle.kq_bind_clauses.specs.Unions.{is_mixed}

abbrev pub invariant-loop-column : goal.invariant-loop-column
invariant-loop-column l = is_mixed l.columns l.field ≡ is_mixed (drop l.column-index l.columns) l.field
