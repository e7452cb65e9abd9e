use Rattle.std.proofs.Common.{◌≡◌, [], map, drop}
use Rattle.kq_bind_clauses.proofs.unions.all_columns.Given as goal
use Rattle.kq_bind_clauses.specs.Seen.{arm_of}
use Rattle.kq_bind_clauses.specs.Unions.{all_columns, columns_in}

abbrev pub invariant-loop-arm : goal.invariant-loop-arm
invariant-loop-arm l = all_columns [] (map columns_in (map arm_of l.arms)) ≡ all_columns l.columns.items (map columns_in (map arm_of (drop l.arm-index l.arms)))
