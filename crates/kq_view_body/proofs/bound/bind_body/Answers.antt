-- What is bound and has the form is a body.
use Rattle.std.proofs.Common.{◌≡◌, true, Err, subst}
use Rattle.std.proofs.lemmas.Result.{err_from_is_err_and}
use Rattle.kq_bind_query.specs.Queries.{query_bound}
use Rattle.kq_view_body.specs.Bodies.{is_body, JudgesBody}
use Rattle.kq_view_body.specs.Parts.{query_parts}
use Rattle.kq_read_grammar.specs.TabularViews.{query_of}
use Rattle.kq_plan.specs.Plans.{planned_of}
use Rattle.kq_view_body.proofs.Answered.{form_answers}
use Rattle.kq_view_body.proofs.BoundLemmas.{query_body}
use Rattle.kq_view_body.proofs.bound.bind_body.Goals as goal

pub returns-clause-answer : goal.returns-clause-answer
returns-clause-answer g c =
    let q = query_of c.args.query.now in
    (c.in_ok-plan.ensures.bound, subst (λ t. is_body (query_parts c.args.text.now t q) ≡ true) c.as_str.ensures (c.in_ok-check_body.ensures {u = tt}))

pub returns-clause-body : goal.returns-clause-body
returns-clause-body g c cs is =
    let q = query_of c.args.query.now in
    let form = subst (λ t. is_body (query_parts c.args.text.now t q) ≡ true) c.as_str.ensures (c.in_ok-check_body.ensures {u = tt}) in
    query_body c.args.text.now c.args.table.now (g.N.Names.known c.args.names.now) cs q (planned_of c.in_ok-plan.plan) is c.in_ok-plan.ensures.bound form
    c.in_ok-plan.ensures.fits.steps

pub returns-in_err-check_body-clause-answer : goal.returns-in_err-check_body-clause-answer
returns-in_err-check_body-clause-answer g c =
    let q = query_of c.args.query.now in
    let f = c.in_err-check_body.field-0.0 in
    let p = err_from_is_err_and c.from_residual-in_err-check_body.result c.from_residual-in_err-check_body.ensures.1 in
    let judged = subst (λ t. JudgesBody (query_parts c.args.text.now t q) (Err f)) c.as_str.ensures c.in_err-check_body.ensures in
    rw (p.1, p.2) (form_answers (query_bound c.args.text.now (g.N.Names.known c.args.names.now) q) (query_parts c.args.text.now c.args.table.now q) (planned_of c.in_ok-plan.plan) f c.in_ok-plan.ensures.bound judged)
