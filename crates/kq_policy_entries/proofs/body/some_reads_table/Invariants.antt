use Rattle.std.proofs.Common.{◌≡◌, drop, map}
use Rattle.std.specs.List.{list_any}
use Rattle.kq_policy_entries.specs.Policies.{reads_table}
use Rattle.kq_policy_entries.proofs.body.some_reads_table.Given as goal
use Rattle.kq_plan.specs.Plans.{stepping_of}

abbrev pub invariant-loop-step : goal.invariant-loop-step
invariant-loop-step l = list_any (reads_table l.table) (map stepping_of l.steps) ≡ list_any (reads_table l.table) (map stepping_of (drop l.step-index l.steps))
