use Rattle.std.proofs.Common.{◌≡◌, map, drop}
use Rattle.kq_bind_clauses.proofs.unions.in_all.Given as goal
use Rattle.kq_bind_clauses.specs.Seen.{arm_of}
use Rattle.kq_bind_clauses.specs.Unions.{in_all, columns_in}

abbrev pub invariant-loop-arm : goal.invariant-loop-arm
invariant-loop-arm l = in_all (map columns_in (map arm_of l.arms)) l.field ≡ in_all (map columns_in (map arm_of (drop l.arm-index l.arms))) l.field
