use Rattle.std.proofs.Common.{◌≡◌, ◌++◌, not, drop}
use Rattle.kq_bind_clauses.proofs.unions.keep_names.Given as goal
use Rattle.kq_bind_clauses.specs.Unions.{keep_names, is_mixed}
use Rattle.std.specs.List.{filter}

abbrev pub invariant-loop-field : goal.invariant-loop-field
invariant-loop-field l = keep_names l.columns ≡ l.kept.items ++ filter (λ f. not (is_mixed l.columns f)) (drop l.field-index l.columns)
