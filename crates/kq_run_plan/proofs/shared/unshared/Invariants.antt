use Rattle.kq_run_plan.proofs.Sharing.{Marked}
use Rattle.kq_run_plan.proofs.shared.unshared.Given as goal

abbrev pub invariant-loop-place : goal.invariant-loop-place
invariant-loop-place l = Marked l.plan.steps.items l.plan.output l.place l.marks.items
