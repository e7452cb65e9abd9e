use Rattle.std.proofs.Common.{sym, ◌∙◌}
use Rattle.kq_run_gather.specs.Bodies.{StandsFor}
use Rattle.kq_plan.specs.Plans.{planned_of}
use Rattle.kq_view_fold.proofs.Folding.{stands_more}
use Rattle.kq_view_fold.proofs.part.fold_by.Goals as goal

pub folded-requires : goal.folded-requires
folded-requires g c =
    let had = c.requires.part.stands.groups in
    let came : StandsFor (planned_of c.args.body.now) c.args.delta.now c.in-Ok-group_rows.groups = c.in-Ok-group_rows.ensures in
    record { whole = came.groups.whole; width = came.groups.width_is ∙ sym had.width_is; shapes = came.groups.shapes ∙ sym had.shapes }

pub returns-in-Ok-folded : goal.returns-in-Ok-folded
returns-in-Ok-folded g c = λ had stood. stands_more (planned_of c.args.body.now) had c.args.delta.now c.args.part.now c.in-Ok-group_rows.groups c.in-Ok-folded.new stood c.in-Ok-group_rows.ensures c.in-Ok-folded.ensures
