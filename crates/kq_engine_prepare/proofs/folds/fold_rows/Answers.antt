use Rattle.std.proofs.Common.{Err, inr, refl, subst}
use Rattle.kq_view_fold.specs.Folds.{FoldsTo}
use Rattle.kq_view_fold.specs.declared.group.GroupFault.{GroupFault}
use Rattle.kq_plan.specs.Plans.{planned_of}
use Rattle.kq_engine_prepare.proofs.Behind.{body_of, folding_in, overflows_in}
use Rattle.kq_catalog_journal.specs.History.{log}
use Rattle.kq_engine_query.proofs.Standing.{view_over, view_within}
use Rattle.kq_engine_prepare.proofs.folds.fold_rows.Goals as goal

pub part-requires : goal.part-requires
part-requires c = view_within c.args.snapshot.now.history c.args.number c.args.view.now c.requires.view

pub fold-requires-clause-body : goal.fold-requires-clause-body
fold-requires-clause-body c = let v = c.args.view.now in body_of (log c.args.snapshot.now.history) v (view_over c.args.snapshot.now c.args.number v c.cursor-to.ensures.sound c.requires.view)

pub returns-in-Ok-clause-folding : goal.returns-in-Ok-clause-folding
returns-in-Ok-clause-folding c =
    let v = c.args.view.now in
    let n = c.args.number in
    folding_in c.args.snapshot.now n v c.part.result.now c.args.rows.now c.cursor-to.ensures.sound c.requires.view c.part.ensures c.requires.rows _ refl c.cursor-to.ensures.cursor c.in-Ok.ensures

pub returns-in-Err-Overflow-clause-refused : goal.returns-in-Err-Overflow-clause-refused
returns-in-Err-Overflow-clause-refused c =
    let v = c.args.view.now in
    let n = c.args.number in
    let over = subst (λ (f : GroupFault). FoldsTo (planned_of v.body) c.part.result.now c.args.rows.now (Err f)) c.in-Err-Overflow.field-0-is c.in-Err-Overflow.ensures in
    inr (overflows_in c.args.snapshot.now n v c.part.result.now c.args.rows.now c.cursor-to.ensures.sound c.requires.view c.part.ensures c.requires.rows c.in-Err-Overflow.stage over)
