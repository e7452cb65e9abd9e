use Rattle.std.proofs.Common.{◌≡◌, ◌++◌, [], take}
use Rattle.kq_run_scan.proofs.first.add_first.Given as goal

abbrev pub invariant-loop-i : goal.invariant-loop-i
invariant-loop-i g l = (l.row.items ≡ []) × (l.few ≡ l.fn.few ++ take l.i (g.R.Relation.rows l.rows))
