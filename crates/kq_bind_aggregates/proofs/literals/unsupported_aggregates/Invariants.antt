use Rattle.std.proofs.Common.{◌≡◌, map, drop}
use Rattle.kq_bind_aggregates.specs.Unsupported.{unsupported_aggregates}
use Rattle.kq_bind_aggregates.proofs.literals.unsupported_aggregates.Given as goal
use Rattle.kq_read_grammar.specs.Views.{aggregate_view}

abbrev pub invariant-loop-aggregate : goal.invariant-loop-aggregate
invariant-loop-aggregate l =
    unsupported_aggregates l.text (map aggregate_view l.aggregates)
    ≡ unsupported_aggregates l.text (map aggregate_view (drop l.aggregate-index l.aggregates))
