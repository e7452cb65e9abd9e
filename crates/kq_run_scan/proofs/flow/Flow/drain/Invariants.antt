use Rattle.std.proofs.Common.{◌≡◌}
use Rattle.kq_run_row_operators.specs.Ran.{failure_of}
use Rattle.kq_run_scan.proofs.flow.Flow.drain.Given as goal

abbrev pub invariant-loop-piece : goal.invariant-loop-piece
invariant-loop-piece l = failure_of l.fn.self.to_come ≡ failure_of l.self.to_come

abbrev pub decreases-loop-piece : goal.decreases-loop-piece
decreases-loop-piece l = l.self.left
