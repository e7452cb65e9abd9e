use Rattle.std.proofs.Common.{◌++◌, Err, subst}
use Rattle.kq_plan.specs.Plans.{planned_of}
use Rattle.kq_view_fold.specs.declared.group.GroupFault.{GroupFault}
use Rattle.kq_view_fold.specs.Folds.{FoldsTo}
use Rattle.kq_view_fold.proofs.Folding.{answers_made, lost, of_rows}
use Rattle.kq_view_fold.proofs.part.view_rows.Goals as goal

pub rows-requires : goal.rows-requires
rows-requires c =
    let had = c.requires.part.had in
    of_rows (planned_of c.args.body.now) c.requires.body (had ++ c.args.delta.now) c.in-Ok.all (c.in-Ok.ensures had c.requires.part.stands)

pub returns-in-Ok : goal.returns-in-Ok
returns-in-Ok c = λ had stood. answers_made (planned_of c.args.body.now) (had ++ c.args.delta.now) c.in-Ok.all c.rows.result (c.in-Ok.ensures had stood) c.rows.ensures.rows

pub returns-in-Err-Overflow : goal.returns-in-Err-Overflow
returns-in-Err-Overflow c =
    let p = planned_of c.args.body.now in
    let part = c.args.part.now in
    let delta = c.args.delta.now in
    let over = subst (λ (f : GroupFault). FoldsTo p part delta (Err f)) c.in-Err-Overflow.field-0-is c.in-Err-Overflow.ensures in
    λ had stood. lost p had delta part c.in-Err-Overflow.field-0-0 stood over
