use Rattle.std.proofs.Common.{◌≡◌, drop, map}
use Rattle.kq_plan.specs.Plans.{stepping_of}
use Rattle.kq_run_plan.specs.Stretches.{order_after}
use Rattle.kq_run_plan.proofs.stretch.keeps_order.Given as goal

abbrev pub invariant-loop-step : goal.invariant-loop-step
invariant-loop-step l = order_after (map stepping_of l.stretch) l.fn.ordered ≡ order_after (map stepping_of (drop l.step-index l.stretch)) l.ordered
