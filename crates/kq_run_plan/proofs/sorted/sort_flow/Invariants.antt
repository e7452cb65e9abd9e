use Rattle.kq_run_plan.proofs.Parting.{Arrived}
use Rattle.kq_run_plan.proofs.sorted.sort_flow.Given as goal

abbrev pub invariant-loop-pieces : goal.invariant-loop-pieces
invariant-loop-pieces l = Arrived l.fn.flow l.flow l.pieces.items

abbrev pub decreases-loop-pieces : goal.decreases-loop-pieces
decreases-loop-pieces l = l.flow.left
