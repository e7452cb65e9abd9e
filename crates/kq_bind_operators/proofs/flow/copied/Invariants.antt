use Rattle.std.proofs.Common.{◌≡◌, ◌++◌, drop}
use Rattle.kq_bind_operators.proofs.flow.copied.Given as goal

abbrev pub invariant-loop-column : goal.invariant-loop-column
invariant-loop-column l = l.columns ≡ l.copies.items ++ drop l.column-index l.columns
