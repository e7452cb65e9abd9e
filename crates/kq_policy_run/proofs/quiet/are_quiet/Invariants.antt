use Rattle.std.proofs.Common.{◌≡◌, drop, map}
use Rattle.std.specs.Arc.{arc_value}
use Rattle.kq_policy_run.specs.Quiet.{is_quiet}
use Rattle.kq_policy_run.proofs.quiet.are_quiet.Given as goal

abbrev pub invariant-loop-event : goal.invariant-loop-event
invariant-loop-event l = is_quiet l.looked (drop l.event-index (map arc_value l.events)) ≡ is_quiet l.looked (map arc_value l.events)
