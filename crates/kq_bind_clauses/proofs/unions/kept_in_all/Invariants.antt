use Rattle.std.proofs.Common.{◌≡◌, ◌++◌, map, drop}
use Rattle.kq_bind_clauses.proofs.unions.kept_in_all.Given as goal
use Rattle.kq_bind_clauses.specs.Seen.{arm_of}
use Rattle.kq_bind_clauses.specs.Unions.{in_all, columns_in}
use Rattle.std.specs.List.{filter}

abbrev pub invariant-loop-field : goal.invariant-loop-field
invariant-loop-field l = filter (in_all (map columns_in (map arm_of l.others))) l.first ≡ l.columns.items ++ filter (in_all (map columns_in (map arm_of l.others))) (drop l.field-index l.first)
