use Rattle.std.proofs.Common.{◌∙◌}
use Rattle.std.proofs.lemmas.Result.{err_from_is_err_and}
use Rattle.kq_run_groups.proofs.Finishing.{cells_lost, cells_more}
use Rattle.kq_run_groups.proofs.groups.put_cells.Goals as goal

pub returns-in_err-finish : goal.returns-in_err-finish
returns-in_err-finish c =
    let p = err_from_is_err_and c.from_residual.result c.from_residual.ensures.1 in
    let lost = cells_lost c.args.states.now c.loop-one.one-index c.args.group c.one-item.result c.args.out.now.items c.loop-one.out.items c.finish.new.out.items c.in_err-finish.field-0.0 c.loop-one-test.true c.one-item.is c.loop-one.invariant c.in_err-finish.ensures in
    rw (p.1, p.2) lost

pub loop-one-preserved : goal.loop-one-preserved
loop-one-preserved c =
    c.loop-one.invariant ∙ cells_more c.args.states.now c.loop-one.one-index c.args.group c.one-item.result c.loop-one.out.items c.finish.new.out.items c.loop-one-test.true c.one-item.is c.in_ok-finish.ensures
