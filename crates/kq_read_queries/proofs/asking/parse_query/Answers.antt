use Rattle.kq_read_grammar.specs.Tabulars.{query_text}
use Rattle.kq_read_grammar.specs.TabularViews.{query_of}
use Rattle.kq_read_queries.proofs.Following.{query_goes_on}
use Rattle.kq_read_queries.specs.Reading as reading
use Rattle.kq_read_symbols.specs.Classes.{of}
use Rattle.kq_read_queries.proofs.PlaceLaws.{whole_answers}
use Rattle.kq_read_queries.proofs.QueryLaws.{query_exact}
use Rattle.kq_read_queries.proofs.asking.parse_query.Goals as goal

pub returns : goal.returns
returns c =
    let found = rw c.new-cursor.ensures at c.read_query-found.ensures in
    whole_answers query_text (of query_goes_on) reading.query query_exact (λ q. query_of q.value) c.args.symbols.now _ c.args.end _ _ c.in_default.ensures found c.whole.ensures
