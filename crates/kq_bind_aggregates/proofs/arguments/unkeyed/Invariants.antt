use Rattle.std.proofs.Common.{◌≡◌, ◌++◌, drop}
use Rattle.kq_bind_aggregates.specs.Arguments.{unkeyed}
use Rattle.kq_bind_aggregates.proofs.arguments.unkeyed.Given as goal

abbrev pub invariant-loop-i : goal.invariant-loop-i
invariant-loop-i l = unkeyed 0 l.columns l.keys ≡ l.numbers.items ++ unkeyed l.i (drop l.i l.columns) l.keys
