use Rattle.std.proofs.Common.{◌≡◌, ◌-◌, length, take}
use Rattle.kq_store_rows.specs.Chunks.{row_at}
use Rattle.kq_eval_pieces.proofs.copy.copy_row.Given as goal

abbrev pub invariant-loop-cell : goal.invariant-loop-cell
invariant-loop-cell g l = l.row.items ≡ take (length l.row.items) (row_at (g.R.Relation.rows l.relation) l.i)

abbrev pub decreases-loop-cell : goal.decreases-loop-cell
decreases-loop-cell g l = length (row_at (g.R.Relation.rows l.relation) l.i) - length l.row.items
