use Rattle.kq_run_gather.proofs.Coming.{HaveCome}
use Rattle.kq_run_gather.proofs.counting.count_all.Given as goal

abbrev pub invariant-loop-piece : goal.invariant-loop-piece
invariant-loop-piece l = HaveCome l.fn.flow.to_come l.flow.to_come l.count

abbrev pub decreases-loop-piece : goal.decreases-loop-piece
decreases-loop-piece l = l.flow.left
