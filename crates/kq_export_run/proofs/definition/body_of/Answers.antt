use Rattle.std.proofs.Common.{◌≡◌, ◌∙◌, Err, List, Ok, ap, subst, sym, ℕ}
use Rattle.kq_export_binder.specs.Answers.{AnswersExport}
use Rattle.kq_export_binder.specs.kq_bind_query.Queries.{query_bound}
use Rattle.kq_catalog.specs.Seen.{CatalogView}
use Rattle.kq_read_grammar.specs.TabularViews.{query_of}
use Rattle.kq_catalog_journal.specs.History.{NumberedTable}
use Rattle.kq_plan.specs.Plans.{planned_of}
use Rattle.kq_engine_query.specs.Worlds.{known_in}
use Rattle.kq_export_run.specs.Bound.{RefusesBody}
use Rattle.kq_export_run.proofs.Bound.{fault_refused, fits_only, table_known}
use Rattle.kq_export_run.proofs.definition.body_of.Goals as goal

pub returns-in-Ok : goal.returns-in-Ok
returns-in-Ok c =
    let h = c.args.snapshot.now.history in
    let e = c.args.export.now in
    let q = query_of e.body.tree in
    let said = e.table.text in
    let names = c.in_ok-names.names.snapshot.now in
    let same = c.in_ok-names.ensures in
    let found : NumberedTable = record { number = c.args.number; table = c.args.table.now } in
    let known = ap (λ (v : CatalogView). known_in v.history said) same ∙ table_known h said found c.requires in
    let schema = c.args.table.now.schema in
    let read = subst (λ (t : List ℕ). AnswersExport (query_bound t (known_in names.history) q) t said q (Ok c.in-Ok.plan)) c.as_str.ensures c.in-Ok.ensures.answer in
    let answer = subst (λ (v : CatalogView). AnswersExport (query_bound e.body.text (known_in v.history) q) e.body.text said q (Ok c.in-Ok.plan)) same read in
    let fits = fits_only said schema (planned_of c.in-Ok.plan) (c.in-Ok.ensures.fits schema known) in
    record { bound = record { bound = answer.0; form = answer.1; fits = fits }; refused = tt }
