use Rattle.std.proofs.Common.{◌≡◌, ◌≤◌, ◌-◌, drop, length}
use Rattle.kq_policy_run.specs.Quiet.{is_quiet}
use Rattle.kq_policy_run.proofs.quiet.is_quiet_since.Given as goal

abbrev pub invariant-loop-at : goal.invariant-loop-at
invariant-loop-at l = record {
  within : l.at ≤ length l.snapshot.history;
  rest : is_quiet l.looked (drop l.at l.snapshot.history) ≡ is_quiet l.looked (drop l.place l.snapshot.history);
}

abbrev pub decreases-loop-at : goal.decreases-loop-at
decreases-loop-at l = l.end - l.at
