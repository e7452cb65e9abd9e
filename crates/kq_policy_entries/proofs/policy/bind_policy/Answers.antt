-- What isn't read, isn't bound or is judged otherwise is answered so.
use Rattle.std.proofs.lemmas.Result.{err_from_is_err_and}
use Rattle.kq_policy_entries.proofs.policy.bind_policy.Goals as goal
use Rattle.kq_policy_entries.proofs.Judged.{judged_answers}
use Rattle.kq_policy_entries.proofs.Texts.{unread_answers, unbound_answers}
use Rattle.kq_read_grammar.specs.TabularViews.{query_of}
use Rattle.kq_plan.specs.Plans.{planned_of}

pub returns-in_err-query-clause-answer : goal.returns-in_err-query-clause-answer
returns-in_err-query-clause-answer g c =
    let p = err_from_is_err_and c.from_residual.result c.from_residual.ensures.1 in
    rw (p.1, p.2) (unread_answers c.args.text.now c.args.source.now c.args.target.now (g.N.Names.known c.args.names.now) c.in_err-query.field-0.0 c.in_err-query.ensures)

pub returns-in_err-plan-clause-answer : goal.returns-in_err-plan-clause-answer
returns-in_err-plan-clause-answer g c =
    let p = err_from_is_err_and c.from_residual-in_err-plan.result c.from_residual-in_err-plan.ensures.1 in
    rw (p.1, p.2) (unbound_answers c.args.text.now c.args.source.now c.args.target.now (g.N.Names.known c.args.names.now) (query_of c.in_ok-query.query) c.in_err-plan.field-0.0 c.in_ok-query.ensures c.in_err-plan.ensures.bound)

pub returns-in_err-judge-clause-answer : goal.returns-in_err-judge-clause-answer
returns-in_err-judge-clause-answer g c =
    let p = err_from_is_err_and c.from_residual-in_err-judge.result c.from_residual-in_err-judge.ensures.1 in
    rw (p.1, p.2) (judged_answers c.args.text.now c.args.source.now c.args.target.now (g.N.Names.known c.args.names.now) (planned_of c.in_ok-plan.plan) c.in_err-judge.field-0.0
    (record { tree = query_of c.in_ok-query.query; is = c.in_ok-query.ensures; bound = c.in_ok-plan.ensures.bound }) c.in_ok-plan.ensures.fits c.in_err-judge.ensures)
