use Rattle.std.proofs.Common.{◌≡◌, ◌++◌, drop, map}
use Rattle.kq_catalog_journal.specs.History.{log}
use Rattle.kq_plan.specs.Plans.{stepping_of}
use Rattle.kq_policy_run.specs.Quiet.{looked_from}
use Rattle.kq_policy_run.proofs.lookups.add_looked.Given as goal

abbrev pub invariant-loop-step : goal.invariant-loop-step
invariant-loop-step l =
    l.tables.items ++ looked_from (log l.snapshot.history) l.entry.source (map stepping_of (drop l.step-index l.entry.plan.steps.items))
    ≡ l.initial.tables.items ++ looked_from (log l.snapshot.history) l.entry.source (map stepping_of l.entry.plan.steps.items)
