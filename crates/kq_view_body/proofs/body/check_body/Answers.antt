use Rattle.std.proofs.Common.{Some, None, sym, ◌∙◌}
use Rattle.kq_view_body.proofs.Judged.{query_told}
use Rattle.kq_view_body.proofs.body.check_body.Goals as goal
use Rattle.kq_read_grammar.specs.TabularViews.{query_of}

pub returns-in-Some : goal.returns-in-Some
returns-in-Some c = query_told c.args.text.now c.args.source.now (query_of c.args.query.now) (Some c.in-Some.at) (sym c.in-Some.is ∙ c.fault.ensures)

pub returns-in-None : goal.returns-in-None
returns-in-None c = query_told c.args.text.now c.args.source.now (query_of c.args.query.now) None (sym c.in-None.is ∙ c.fault.ensures)
