use Rattle.std.proofs.Common.{◌≡◌, ◌≤◌, ◌-◌, ◌++◌, ℕ, List, [], length}
use Rattle.std.specs.List.{All}
use Rattle.kq_value.specs.declared.value.Value.{Value}
use Rattle.kq_store_rows.specs.Chunks.{HasWidth}
use Rattle.kq_eval_pieces.specs.Pieces.{piece_of}
use Rattle.kq_eval_pieces.specs.Sources.{row_from, rows_from}
use Rattle.kq_eval_pieces.proofs.map.push_rows.Given as goal

abbrev pub invariant-loop-i : goal.invariant-loop-i
invariant-loop-i g l =
    (l.row.items ≡ [])
    × (l.mapped ≡ l.fn.mapped ++ rows_from l.fn.sources.items 0 (piece_of (g.R.Relation.rows l.relation) l.from l.i))
    × All (HasWidth (length l.fn.sources.items)) l.mapped
    × ((k : ℕ) (r : List Value) → l.i - l.from ≤ k → row_from l.left.items k r ≡ row_from l.fn.sources.items k r)
    × (length l.left.items ≡ length l.fn.sources.items)
