use Rattle.std.proofs.Common.{◌≡◌, [], ◌∷◌, drop}
use Rattle.kq_bind_clauses.proofs.tables.table_columns.Given as goal
use Rattle.kq_bind_clauses.specs.Tables.{table_columns}

abbrev pub invariant-loop-column : goal.invariant-loop-column
invariant-loop-column l = table_columns l.text [] (l.fn.first ∷ l.others) ≡ table_columns l.text l.columns.items (drop l.column-index l.others)
