use Rattle.std.proofs.Common.{◌≡◌, ◌++◌, drop, length}
use Rattle.kq_run_reshape.specs.Union.{filled_from}
use Rattle.kq_run_reshape.proofs.united.filled_row.Given as goal

abbrev pub invariant-loop-i : goal.invariant-loop-i
invariant-loop-i l = (filled_from 0 l.columns l.cells l.row ≡ l.values.items ++ filled_from l.i (drop l.i l.columns) l.cells l.row) × (length l.values.items ≡ l.i)
