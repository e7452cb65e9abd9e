use Rattle.std.proofs.Common.{◌-◌, length}
use Rattle.kq_run_plan.proofs.Links.{IsAt}
use Rattle.kq_run_plan.proofs.run.run_steps.Given as goal

-- what the rest may come to, the plan may come to
abbrev pub invariant-loop-at : goal.invariant-loop-at
invariant-loop-at g l = IsAt (g.L.Leaves.known l.leaves) (g.L.Leaves.may_give l.leaves) l.now l.steps l.output l.at l.done.items

abbrev pub decreases-loop-at : goal.decreases-loop-at
decreases-loop-at g l = length l.steps - l.at
