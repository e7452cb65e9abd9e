use Rattle.std.proofs.Common.{◌≡◌, [], take}
use Rattle.kq_run_row_operators.proofs.copies.copy_rows.Given as goal

abbrev pub invariant-loop-i : goal.invariant-loop-i
invariant-loop-i g l = (l.row.items ≡ []) × (l.rows ≡ take l.i (g.R.Relation.rows l.relation))
