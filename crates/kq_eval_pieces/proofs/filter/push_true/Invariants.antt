use Rattle.std.proofs.Common.{◌≡◌, ◌++◌, ◌+◌, drop}
use Rattle.kq_store_column_view.specs.Vectors.{cells_of}
use Rattle.kq_eval_pieces.specs.Pieces.{places_true}
use Rattle.kq_eval_pieces.proofs.filter.push_true.Given as goal

abbrev pub invariant-loop-i : goal.invariant-loop-i
invariant-loop-i l = l.fn.places.items ++ places_true l.from (cells_of l.values) ≡ l.places.items ++ places_true (l.from + l.i) (drop l.i (cells_of l.values))
