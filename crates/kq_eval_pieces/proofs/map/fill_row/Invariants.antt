use Rattle.std.proofs.Common.{◌≡◌, drop, length, take}
use Rattle.kq_store_rows.specs.Chunks.{row_at}
use Rattle.kq_eval_pieces.specs.Sources.{GiveBehind, row_from}
use Rattle.kq_eval_pieces.proofs.map.fill_row.Given as goal

abbrev pub invariant-loop-n : goal.invariant-loop-n
invariant-loop-n g l =
    (l.row.items ≡ row_from (take l.n l.fn.sources.items) l.i (row_at (g.R.Relation.rows l.relation) l.at))
    × (drop l.n l.sources.items ≡ drop l.n l.fn.sources.items)
    × GiveBehind l.i l.fn.sources.items l.sources.items
    × (length l.sources.items ≡ length l.fn.sources.items)
