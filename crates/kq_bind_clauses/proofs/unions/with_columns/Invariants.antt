use Rattle.std.proofs.Common.{◌≡◌, drop}
use Rattle.kq_bind_clauses.proofs.unions.with_columns.Given as goal
use Rattle.kq_bind_clauses.specs.Unions.{with_columns}

abbrev pub invariant-loop-field : goal.invariant-loop-field
invariant-loop-field l = with_columns l.fn.before.items l.fields ≡ with_columns l.columns.items (drop l.field-index l.fields)
