use Rattle.std.proofs.Common.{◌≡◌, [], ◌++◌, map, drop, Ok}
use Rattle.kq_bind_clauses.proofs.tables.rows_made.Given as goal
use Rattle.kq_bind_clauses.specs.Tables.{rows_made}
use Rattle.kq_bind_expressions.specs.Verdicts.{and_then}
use Rattle.kq_plan.specs.Plans.{cells_seen}

abbrev pub invariant-loop-cell : goal.invariant-loop-cell
invariant-loop-cell l = rows_made l.text l.at l.columns [] l.columns l.cells ≡ and_then (rows_made l.text l.at l.columns l.row.items l.left (drop l.cell-index l.cells)) (λ xs. Ok (map cells_seen l.rows.items ++ xs))
