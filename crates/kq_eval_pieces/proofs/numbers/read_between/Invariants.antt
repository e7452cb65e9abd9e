use Rattle.std.proofs.Common.{◌≡◌, map}
use Rattle.kq_eval_pieces.specs.Numbers.{number_cell}
use Rattle.kq_eval_pieces.specs.Pieces.{column_of, piece_of}
use Rattle.kq_eval_pieces.proofs.numbers.read_between.Given as goal

abbrev pub invariant-loop-i : goal.invariant-loop-i
invariant-loop-i l = map (number_cell l.kind) l.numbers.items ≡ column_of l.j (piece_of l.rows l.from l.i)
