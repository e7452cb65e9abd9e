use Rattle.std.proofs.Common.{◌≡◌, drop, map}
use Rattle.std.specs.List.{list_any}
use Rattle.kq_policy_moments.specs.kq_catalog_journal.PolicyBodies.{asks_moment}
use Rattle.kq_policy_entries.proofs.body.some_asks_moment.Given as goal
use Rattle.kq_plan.specs.Plans.{stepping_of}

abbrev pub invariant-loop-step : goal.invariant-loop-step
invariant-loop-step l = list_any asks_moment (map stepping_of l.steps) ≡ list_any asks_moment (map stepping_of (drop l.step-index l.steps))
