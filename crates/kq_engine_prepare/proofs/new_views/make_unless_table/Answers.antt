use Rattle.std.proofs.Common.{◌∙◌, Option, ap, inr, refl, subst, sym}
use Rattle.std.specs.Option.{option_map}
use Rattle.kq_engine_prepare.specs.Due.{IsNewDue, refused}
use Rattle.kq_engine_prepare.specs.Found.{Finds}
use Rattle.kq_catalog_journal.specs.declared.table.Table.{Table}
use Rattle.kq_catalog_journal.specs.History.{NumberedTable, log, tables}
use Rattle.kq_catalog_journal.proofs.Tables.{table_numbered-named}
use Rattle.kq_plan.specs.Plans.{planned_of}
use Rattle.kq_reply.specs.declared.refusal.Refusal.TheVariants as refusals
use Rattle.kq_engine_prepare.proofs.new_views.make_unless_table.Goals as goal

pub returns-in-Some-clause-due : goal.returns-in-Some-clause-due
returns-in-Some-clause-due c =
    let limits = c.args.snapshot.now.limits in
    let l = log c.args.snapshot.now.history in
    let view = c.args.view.now in
    let named = table_numbered-named view.name.text (tables l) ∙ ap (option_map (λ (n : NumberedTable). n.table)) c.in-Some.ensures in
    inr (subst (λ (o : Option Table). IsNewDue limits l view c.args.number (planned_of c.args.plan) o (refused (refusals.Exists view.name.at))) (sym named) refl)

pub returns-in-None-clause-due : goal.returns-in-None-clause-due
returns-in-None-clause-due c =
    let limits = c.args.snapshot.now.limits in
    let l = log c.args.snapshot.now.history in
    let view = c.args.view.now in
    let named = table_numbered-named view.name.text (tables l) ∙ ap (option_map (λ (n : NumberedTable). n.table)) c.in-None.ensures in
    subst (λ (o : Option Table). Finds (IsNewDue limits l view c.args.number (planned_of c.args.plan) o) c.make.result) (sym named) c.make.ensures.due
