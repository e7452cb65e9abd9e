use Rattle.std.proofs.Common.{◌≡◌, take}
use Rattle.kq_policy_cascade.proofs.progress.Progress.into_made.Given as goal

abbrev pub invariant-loop-failure : goal.invariant-loop-failure
invariant-loop-failure l = l.failures ≡ take l.failure-index l.failure-items
