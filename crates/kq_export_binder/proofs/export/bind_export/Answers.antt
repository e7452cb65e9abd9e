-- A query that isn't bound, or is no body, is answered so; a body fits whatever names know its table.
use Rattle.std.proofs.Common.{◌≡◌, true}
use Rattle.std.proofs.lemmas.Result.{err_from_is_err_and}
use Rattle.kq_bind_query.specs.Queries.{query_bound}
use Rattle.kq_bind_query.specs.kq_bind_operators.Flows.{columns_at}
use Rattle.kq_read_grammar.specs.TabularViews.{query_of}
use Rattle.kq_plan.specs.Plans.{planned_of}
use Rattle.kq_export_binder.specs.Bodies.{is_export_body}
use Rattle.kq_export_binder.proofs.Alone.{fits_alone}
use Rattle.kq_export_binder.proofs.Unbound.{unbound_answers}
use Rattle.kq_export_binder.proofs.export.bind_export.Goals as goal

pub returns-in_err-plan-clause-answer : goal.returns-in_err-plan-clause-answer
returns-in_err-plan-clause-answer g c =
    let p = err_from_is_err_and c.from_residual.result c.from_residual.ensures.1 in
    let q = query_of c.args.query.now in
    rw (p.1, p.2) (unbound_answers (query_bound c.args.text.now (g.N.Names.known c.args.names.now) q) c.args.text.now c.args.table.now q c.in_err-plan.field-0.0 c.in_err-plan.ensures.bound)

pub returns-clause-fits : goal.returns-clause-fits
returns-clause-fits g c = λ cs stands other has.
    let p = planned_of c.in_ok-plan.plan in
    let body : is_export_body c.args.table.now p ≡ true = cc in
    fits_alone (g.N.Names.known c.args.names.now) other c.args.table.now cs stands has p (columns_at p.steps p.output) body c.in_ok-plan.ensures.fits
