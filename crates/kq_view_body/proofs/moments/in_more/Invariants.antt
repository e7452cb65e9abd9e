use Rattle.std.proofs.Common.{◌≡◌, drop, map}
use Rattle.kq_view_body.specs.Moments.{moment_in_aggregates}
use Rattle.kq_view_body.proofs.moments.in_more.Given as goal
use Rattle.kq_read_grammar.specs.Views.{aggregate_view}

abbrev pub invariant-loop-aggregate : goal.invariant-loop-aggregate
invariant-loop-aggregate l = moment_in_aggregates l.text (map aggregate_view l.aggregates) ≡ moment_in_aggregates l.text (map aggregate_view (drop l.aggregate-index l.aggregates))
