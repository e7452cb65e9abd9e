use Rattle.std.proofs.Common.{◌∙◌, Err, List, Ok, Some, ap, subst, sym, ℕ}
use Rattle.kq_view_body.specs.kq_bind_query.Queries.{query_bound}
use Rattle.kq_view_body.specs.Answers.{AnswersBody}
use Rattle.kq_view_body.specs.Parts.{query_parts}
use Rattle.kq_catalog.specs.Seen.{CatalogView}
use Rattle.kq_engine_prepare.specs.Due.{IsViewDue, tree_in}
use Rattle.kq_engine_prepare.specs.Found.{Finds}
use Rattle.kq_catalog_journal.specs.History.{NumberedTable, log}
use Rattle.kq_engine_query.specs.Worlds.{known_in}
use Rattle.kq_reply.specs.declared.refusal.Refusal.{Refusal}
use Rattle.kq_engine_prepare.proofs.Defining.{bound_named, table_known, unbound_due}
use Rattle.kq_engine_prepare.proofs.new_views.bind.Goals as goal

pub name_view-requires : goal.name_view-requires
name_view-requires c =
    let now = c.args.snapshot.now in
    let view = c.args.view.now in
    let table : NumberedTable = record { number = c.args.number; table = c.args.table.now } in
    let known = ap (λ (v : CatalogView). known_in v.history view.table.text) c.in_ok-names.ensures ∙ table_known now.history view.table.text table c.requires in
    record { table = view.table.text; columns = table.table.schema; body = c.in-Ok.ensures.body table.table.schema known }

pub returns-in-Ok-clause-due : goal.returns-in-Ok-clause-due
returns-in-Ok-clause-due c =
    let now = c.args.snapshot.now in
    let view = c.args.view.now in
    let table : NumberedTable = record { number = c.args.number; table = c.args.table.now } in
    let known = ap (λ (v : CatalogView). known_in v.history view.table.text) c.in_ok-names.ensures ∙ table_known now.history view.table.text table c.requires in
    let read = subst (λ (t : List ℕ). AnswersBody (query_bound t (known_in c.in_ok-names.names.snapshot.now.history) (tree_in view)) (query_parts t view.table.text (tree_in view)) (Ok c.in-Ok.plan)) c.as_str.ensures c.in-Ok.ensures.answer in
    let answer = subst (λ (v : CatalogView). AnswersBody (query_bound view.body.text (known_in v.history) (tree_in view)) (query_parts view.body.text view.table.text (tree_in view)) (Ok c.in-Ok.plan)) c.in_ok-names.ensures read in
    bound_named now.limits now.history view table c.in-Ok.plan c.name_view.result c.requires answer (c.in-Ok.ensures.body table.table.schema known) c.name_view.ensures.due

pub returns-clause-due : goal.returns-clause-due
returns-clause-due c =
    let now = c.args.snapshot.now in
    let view = c.args.view.now in
    let table : NumberedTable = record { number = c.args.number; table = c.args.table.now } in
    let fault = c.in-Err.fault in
    let read = subst (λ (t : List ℕ). AnswersBody (query_bound t (known_in c.in_ok-names.names.snapshot.now.history) (tree_in view)) (query_parts t view.table.text (tree_in view)) (Err fault)) c.as_str.ensures c.in-Err.ensures.answer in
    let answer = subst (λ (v : CatalogView). AnswersBody (query_bound view.body.text (known_in v.history) (tree_in view)) (query_parts view.body.text view.table.text (tree_in view)) (Err fault)) c.in_ok-names.ensures read in
    subst (λ (r : Refusal). Finds (IsViewDue now.limits (log now.history) view (Some table)) (Err r)) (sym c.refusal.ensures) (unbound_due now.limits now.history view table fault answer)
