use Rattle.std.proofs.Common.{take}
use Rattle.kq_run_reshape.proofs.Different.{Gathers}
use Rattle.kq_run_reshape.proofs.distinct.distinct_rows.Given as goal

abbrev pub invariant-loop-i : goal.invariant-loop-i
invariant-loop-i l = Gathers l.columns (take l.i l.rows) l.known
