use Rattle.std.proofs.Common.{◌≡◌, drop}
use Rattle.kq_bind_clauses.proofs.tables.unsupported_cells.Given as goal
use Rattle.kq_bind_clauses.specs.Tables.{unsupported_cells}

abbrev pub invariant-loop-cell : goal.invariant-loop-cell
invariant-loop-cell l = unsupported_cells l.text l.cells ≡ unsupported_cells l.text (drop l.cell-index l.cells)
