use Rattle.std.proofs.Common.{◌≡◌, ◌++◌, drop}
use Rattle.kq_bind_clauses.proofs.unions.filling.Given as goal
use Rattle.kq_bind_clauses.specs.Unions.{filling}

abbrev pub invariant-loop-field : goal.invariant-loop-field
invariant-loop-field l = filling l.arm l.sources ≡ l.cells.items ++ filling l.arm (drop l.field-index l.sources)
