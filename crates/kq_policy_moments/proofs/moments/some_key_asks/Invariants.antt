use Rattle.std.proofs.Common.{◌≡◌, drop, map}
use Rattle.std.specs.List.{list_any}
use Rattle.kq_catalog_journal.specs.Moments.{key_asks}
use Rattle.kq_policy_moments.proofs.moments.some_key_asks.Given as goal
use Rattle.kq_plan.specs.Plans.{sorting_of}

abbrev pub invariant-loop-key : goal.invariant-loop-key
invariant-loop-key l = list_any key_asks (map sorting_of l.keys) ≡ list_any key_asks (map sorting_of (drop l.key-index l.keys))
