use Rattle.std.proofs.Common.{◌≡◌, ◌++◌, drop}
use Rattle.kq_bind_aggregates.specs.Arguments.{but_own}
use Rattle.kq_bind_aggregates.proofs.arguments.with_starred.Given as goal

abbrev pub invariant-loop-number : goal.invariant-loop-number
invariant-loop-number l = l.fn.before.items ++ but_own l.own l.starred ≡ l.numbers.items ++ but_own l.own (drop l.number-index l.starred)
