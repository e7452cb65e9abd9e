use Rattle.std.proofs.Common.{◌≡◌, ◌∷◌, drop}
use Rattle.kq_bind_clauses.proofs.tables.unsupported_columns.Given as goal
use Rattle.kq_bind_clauses.specs.Tables.{unsupported_columns}

abbrev pub invariant-loop-column : goal.invariant-loop-column
invariant-loop-column l = unsupported_columns l.text (l.fn.first ∷ l.others) ≡ unsupported_columns l.text (drop l.column-index l.others)
