use Rattle.std.proofs.Common.{◌≡◌, ◌++◌, drop}
use Rattle.kq_run_plan.specs.Outcomes.{cells_of}
use Rattle.kq_run_plan.proofs.outcome.cells.Given as goal

abbrev pub invariant-loop-outcome : goal.invariant-loop-outcome
invariant-loop-outcome l = cells_of l.done ≡ l.cells.items ++ cells_of (drop l.outcome-index l.done)
