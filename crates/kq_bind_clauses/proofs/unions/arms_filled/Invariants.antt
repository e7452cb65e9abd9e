use Rattle.std.proofs.Common.{◌≡◌, ◌++◌, map, drop}
use Rattle.kq_bind_clauses.proofs.unions.arms_filled.Given as goal
use Rattle.kq_bind_clauses.specs.Seen.{arm_of}
use Rattle.kq_bind_clauses.specs.Unions.{arms_filled}
use Rattle.kq_plan.specs.Plans.{filling_of}

abbrev pub invariant-loop-arm : goal.invariant-loop-arm
invariant-loop-arm l = arms_filled (map arm_of l.arms) l.sources ≡ map filling_of l.filled.items ++ arms_filled (map arm_of (drop l.arm-index l.arms)) l.sources
