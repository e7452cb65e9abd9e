use Rattle.std.proofs.Common.{◌≡◌}
use Rattle.kq_policy_cascade.specs.Steps.{left}
use Rattle.kq_policy_cascade.proofs.progress.next_due.Given as goal

abbrev pub invariant-loop-at : goal.invariant-loop-at
invariant-loop-at l = left l.dues l.source l.fn.from ≡ left l.dues l.source l.at
