use Rattle.std.proofs.Common.{length, map}
use Rattle.kq_run_row_operators.specs.kq_eval_row.Val.{surroundings}
use Rattle.kq_run_row_operators.specs.Operators.{rowwise_of}
use Rattle.kq_run_scan.proofs.Flown.{IsPassed}
use Rattle.kq_run_scan.proofs.flow.next_open.Given as goal

abbrev pub invariant-loop-part : goal.invariant-loop-part
invariant-loop-part l = IsPassed (map rowwise_of l.operators) (surroundings l.now l.lets) l.fn.unread l.unread

abbrev pub decreases-loop-part : goal.decreases-loop-part
decreases-loop-part l = length l.unread.rows
