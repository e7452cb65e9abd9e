use Rattle.std.proofs.Common.{◌≡◌}
use Rattle.kq_eval_pieces.specs.Pieces.{column_of, piece_of}
use Rattle.kq_eval_pieces.proofs.columns.cells_in.Given as goal

abbrev pub invariant-loop-i : goal.invariant-loop-i
invariant-loop-i g l = l.cells.items ≡ column_of l.j (piece_of (g.R.Relation.rows l.relation) l.from l.i)
