use Rattle.std.proofs.Common.{◌≡◌, ◌++◌, drop}
use Rattle.kq_bind_clauses.proofs.unions.names_made.Given as goal
use Rattle.kq_bind_clauses.specs.Unions.{names_made}

abbrev pub invariant-loop-field : goal.invariant-loop-field
invariant-loop-field l = names_made l.columns l.fn.kept.items l.columns ≡ l.made.items ++ names_made l.columns l.taken.items (drop l.field-index l.columns)
