use Rattle.kq_plan.specs.Plans.{sorting_of}
use Rattle.kq_run_scan.specs.kq_eval_row.Val.{surroundings}
use Rattle.kq_run_gather.proofs.Led.{Reached}
use Rattle.kq_run_gather.proofs.leading.top_with.Given as goal

abbrev pub invariant-loop-piece : goal.invariant-loop-piece
invariant-loop-piece l = Reached l.count (sorting_of l.key) (surroundings l.now l.lets) l.fn.flow l.flow l.leaders

abbrev pub decreases-loop-piece : goal.decreases-loop-piece
decreases-loop-piece l = l.flow.left
