use Rattle.std.proofs.Common.{◌≡◌, ◌≤◌, length, map}
use Rattle.kq_run_row_operators.specs.kq_eval_row.Val.{surroundings}
use Rattle.kq_run_row_operators.specs.Operators.{rowwise_of}
use Rattle.kq_run_row_operators.specs.Ran.{failed, joined, ran}
use Rattle.kq_run_scan.proofs.flow.least_of_rest.Given as goal

abbrev pub invariant-loop-least : goal.invariant-loop-least
invariant-loop-least l =
    (l.least ≤ l.fn.first)
    × (joined (failed l.fn.first) (ran (map rowwise_of l.operators) (surroundings l.now l.lets) l.fn.unread.rows) ≡ joined (failed l.least) (ran (map rowwise_of l.operators) (surroundings l.now l.lets) l.unread.rows))

abbrev pub decreases-loop-least : goal.decreases-loop-least
decreases-loop-least l = length l.unread.rows
