use Rattle.std.proofs.Common.{◌≡◌, ◌++◌, drop, map}
use Rattle.kq_plan.specs.Plans.{stepping_of}
use Rattle.kq_run_row_operators.specs.Operators.{rowwise_of}
use Rattle.kq_run_gather.specs.Steps.{operators_of}
use Rattle.kq_run_gather.proofs.steps.operators.Given as goal

abbrev pub invariant-loop-step : goal.invariant-loop-step
invariant-loop-step l = operators_of (map stepping_of l.steps) ≡ map rowwise_of l.operators.items ++ operators_of (map stepping_of (drop l.step-index l.steps))
