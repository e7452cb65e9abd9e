use Rattle.kq_engine_interleavings.specs.Steps.{IsRun}
use Rattle.kq_engine_interleavings.proofs.run.run_steps.Given as goal

abbrev pub invariant-loop-step : goal.invariant-loop-step
invariant-loop-step l = IsRun l.fn.limits l.yielded l.running.catalog l.running.waiting.items l.running.outcomes.items
