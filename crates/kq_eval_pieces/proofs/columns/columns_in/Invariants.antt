use Rattle.std.proofs.Common.{◌≡◌, ◌<◌, [], get_or, length, map}
use Rattle.std.specs.List.{All}
use Rattle.kq_store_column_view.specs.Vectors.{cells_of}
use Rattle.kq_eval_pieces.specs.Pieces.{column_of, piece_of}
use Rattle.kq_eval_pieces.proofs.columns.columns_in.Given as goal

abbrev pub invariant-loop-j : goal.invariant-loop-j
invariant-loop-j g l =
    (length l.columns.items ≡ l.j)
    × All (λ k. k < l.j → get_or (map cells_of l.columns.items) k [] ≡ column_of k (piece_of (g.R.Relation.rows l.relation) l.from l.to)) l.reads
