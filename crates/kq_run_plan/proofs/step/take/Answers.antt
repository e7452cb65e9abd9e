use Rattle.kq_run_plan.proofs.Plans.{Taken-first}
use Rattle.kq_run_plan.proofs.step.take.Goals as goal

pub returns-else-ordered : goal.returns-else-ordered
returns-else-ordered c = rw (c.if-ordered.false, c.in_ok-few.ensures) (Taken-first c.args.count c.args.rows.now)
