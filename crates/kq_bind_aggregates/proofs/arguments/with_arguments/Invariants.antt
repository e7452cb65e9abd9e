use Rattle.std.proofs.Common.{◌≡◌, map, drop}
use Rattle.kq_bind_aggregates.specs.Arguments.{all_columns}
use Rattle.kq_bind_aggregates.specs.Seen.{argued_of}
use Rattle.kq_bind_aggregates.proofs.arguments.with_arguments.Given as goal

abbrev pub invariant-loop-argument : goal.invariant-loop-argument
invariant-loop-argument l =
    all_columns l.starred l.own l.fn.before.items (map argued_of l.arguments)
    ≡ all_columns l.starred l.own l.numbers.items (map argued_of (drop l.argument-index l.arguments))
