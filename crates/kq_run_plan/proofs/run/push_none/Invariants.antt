use Rattle.std.proofs.Common.{◌≡◌, ◌++◌}
use Rattle.std.specs.Prelude.{replicate}
use Rattle.kq_run_plan.specs.Outcomes.{no_rows}
use Rattle.kq_run_plan.proofs.run.push_none.Given as goal

abbrev pub invariant-loop : goal.invariant-loop
invariant-loop l = l.done.items ≡ l.fn.done.items ++ replicate l.counter no_rows
