-- The plan is one that the binder gives.
use Rattle.kq_read_grammar.specs.TabularViews.{query_of}
use Rattle.kq_bind_query.proofs.Differing.{answer_different}
use Rattle.kq_bind_query.proofs.FittingLemmas.{answer_fits}
use Rattle.kq_bind_query.proofs.Stages.{answer_staged}
use Rattle.kq_bind_query.proofs.fitting.bind_fitting.Goals as goal

pub returns-clause-fits : goal.returns-clause-fits
returns-clause-fits g c = answer_fits c.args.text.now (g.N.Names.known c.args.names.now) (query_of c.args.query.now) c.bind.result c.bind.ensures

pub returns-clause-different : goal.returns-clause-different
returns-clause-different g c tells =
    answer_different c.args.text.now (g.N.Names.known c.args.names.now) (query_of c.args.query.now) c.bind.result tells c.bind.ensures

pub returns-clause-staged : goal.returns-clause-staged
returns-clause-staged g c = answer_staged c.args.text.now (g.N.Names.known c.args.names.now) (query_of c.args.query.now) c.bind.result c.bind.ensures
