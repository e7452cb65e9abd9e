use Rattle.std.proofs.Common.{◌≡◌, drop, map}
use Rattle.std.specs.List.{list_any}
use Rattle.kq_catalog_journal.specs.Moments.{aggregate_asks}
use Rattle.kq_policy_moments.proofs.moments.some_aggregate_asks.Given as goal
use Rattle.kq_plan.specs.Plans.{aggregating_of}

abbrev pub invariant-loop-aggregate : goal.invariant-loop-aggregate
invariant-loop-aggregate l = list_any aggregate_asks (map aggregating_of l.aggregates) ≡ list_any aggregate_asks (map aggregating_of (drop l.aggregate-index l.aggregates))
