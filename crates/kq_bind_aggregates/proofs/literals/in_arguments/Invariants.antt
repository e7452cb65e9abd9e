use Rattle.std.proofs.Common.{◌≡◌, map, drop}
use Rattle.kq_bind_aggregates.specs.Unsupported.{unsupported_arguments}
use Rattle.kq_bind_aggregates.proofs.literals.in_arguments.Given as goal
use Rattle.kq_read_grammar.specs.Views.{argument_view}

abbrev pub invariant-loop-argument : goal.invariant-loop-argument
invariant-loop-argument l =
    unsupported_arguments l.text (map argument_view l.arguments)
    ≡ unsupported_arguments l.text (map argument_view (drop l.argument-index l.arguments))
