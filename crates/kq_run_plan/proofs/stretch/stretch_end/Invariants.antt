use Rattle.std.proofs.Common.{map}
use Rattle.kq_plan.specs.Plans.{stepping_of}
use Rattle.kq_run_plan.specs.Stretches.{IsStretch}
use Rattle.kq_run_plan.proofs.stretch.stretch_end.Given as goal

abbrev pub invariant-loop-end : goal.invariant-loop-end
invariant-loop-end l = IsStretch (map stepping_of l.steps) l.unshared l.at l.end
