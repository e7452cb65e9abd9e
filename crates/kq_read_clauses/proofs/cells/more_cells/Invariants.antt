use Rattle.std.proofs.Common.{◌≡◌, ◌-◌}
use Rattle.kq_read_clauses.specs.Reading.{more_cells}
use Rattle.kq_read_symbols.specs.Forms.{with_front}
use Rattle.kq_read_clauses.proofs.cells.more_cells.Given as goal

abbrev pub invariant-loop-turn : goal.invariant-loop-turn
invariant-loop-turn l = with_front l.fn.found.items (more_cells l.turns l.fn.cursor) ≡ with_front l.found.items (more_cells (l.turns - l._turn) l.cursor)
