use Rattle.std.proofs.Common.{◌≡◌, map, drop}
use Rattle.kq_bind_aggregates.specs.Gathered.{each_made}
use Rattle.kq_bind_aggregates.specs.Seen.{gathering_of}
use Rattle.kq_bind_aggregates.proofs.gathered.each_made.Given as goal
use Rattle.kq_bind_expressions.specs.Names.{names_of}
use Rattle.kq_read_grammar.specs.Views.{aggregate_view}

abbrev pub invariant-loop-aggregate : goal.invariant-loop-aggregate
invariant-loop-aggregate l =
    each_made (names_of l.scope) l.columns l.starred (gathering_of l.fn.before) (map aggregate_view l.aggregates)
    ≡ each_made (names_of l.scope) l.columns l.starred (gathering_of l.gathered) (map aggregate_view (drop l.aggregate-index l.aggregates))
