use Rattle.std.proofs.Common.{◌≡◌, ◌++◌, drop, map}
use Rattle.kq_bind_operators.specs.Clauses.{arms_with}
use Rattle.kq_bind_clauses.specs.Seen.{arm_of}
use Rattle.kq_bind_operators.proofs.several.arms_of.Given as goal
use Rattle.kq_plan.specs.Plans.{stepping_of}

abbrev pub invariant-loop-input : goal.invariant-loop-input
invariant-loop-input l = arms_with (map stepping_of l.steps) l.inputs ≡ map arm_of l.arms.items ++ arms_with (map stepping_of l.steps) (drop l.input-index l.inputs)
