use Rattle.std.proofs.Common.{◌≡◌, drop, map}
use Rattle.kq_bind_query.specs.Queries.{lets_made}
use Rattle.kq_bind_query.specs.Seen.{letting_of}
use Rattle.kq_bind_query.proofs.lets.lets_made.Given as goal
use Rattle.kq_read_grammar.specs.TabularViews.{let_of}

abbrev pub invariant-loop-one : goal.invariant-loop-one
invariant-loop-one g l =
    let known = g.N.Names.known l.names in
    lets_made l.text known (letting_of l.fn.before) (map let_of l.more) ≡ lets_made l.text known (letting_of l.lets) (map let_of (drop l.one-index l.more))
