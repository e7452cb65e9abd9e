use Rattle.std.proofs.Common.{◌≡◌, ◌++◌, map, drop, Ok}
use Rattle.kq_bind_aggregates.specs.Arguments.{all_argued}
use Rattle.kq_bind_aggregates.specs.Seen.{argued_of}
use Rattle.kq_bind_aggregates.proofs.arguments.others_argued.Given as goal
use Rattle.kq_bind_expressions.specs.Names.{names_of}
use Rattle.kq_bind_expressions.specs.Verdicts.{and_then}
use Rattle.kq_read_grammar.specs.Views.{argument_view}

abbrev pub invariant-loop-argument : goal.invariant-loop-argument
invariant-loop-argument l =
    all_argued (names_of l.scope) l.columns (map argument_view l.arguments)
    ≡ and_then (all_argued (names_of l.scope) l.columns (map argument_view (drop l.argument-index l.arguments))) (λ xs. Ok (map argued_of l.others.items ++ xs))
