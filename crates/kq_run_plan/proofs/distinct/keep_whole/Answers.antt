use Rattle.std.proofs.Common.{List, ap, false}
use Rattle.kq_run_gather.specs.Pipelines.{ran_through, width_through}
use Rattle.kq_run_plan.specs.declared.outcome.Outcome.TheVariants as outcome
use Rattle.kq_run_plan.specs.Outcomes.{Row}
use Rattle.kq_run_plan.proofs.Different.{differ_collected, failed_collected}
use Rattle.kq_run_plan.proofs.distinct.keep_whole.Goals as goal

pub returns-in_ok-different-in-Rows : goal.returns-in_ok-different-in-Rows
returns-in_ok-different-in-Rows g c =
    let p = c.args.pipeline.now in
    let all = c.args.rows.now in
    differ_collected c.args.columns.now (width_through p all) (ran_through p all) c.in_ok-rows.field-0 c.in-Rows.rows c.in_ok-different-in-Rows.different _ c.in_ok-rows.ensures c.in-Rows.is c.in_ok-different-in-Rows.ensures
    (ap (λ (rs : List Row). outcome.Table false rs) c.own.ensures)

pub returns-in-Failed : goal.returns-in-Failed
returns-in-Failed g c =
    let p = c.args.pipeline.now in
    let all = c.args.rows.now in
    failed_collected c.args.columns.now (width_through p all) (ran_through p all) c.in_ok-rows.field-0 c.in-Failed.n c.in_ok-rows.ensures c.in-Failed.is
