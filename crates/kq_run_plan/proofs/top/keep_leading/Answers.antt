use Rattle.std.proofs.Common.{List, true, ap}
use Rattle.kq_run_gather.specs.Pipelines.{ran_through, width_through}
use Rattle.kq_run_gather.specs.kq_eval_row.Val.{surroundings}
use Rattle.kq_plan.specs.Plans.{sorting_of}
use Rattle.kq_run_plan.specs.declared.outcome.Outcome.TheVariants as outcome
use Rattle.kq_run_plan.specs.Outcomes.{Row}
use Rattle.kq_run_plan.proofs.Topped.{ends_failed, ends_led, ends_lost}
use Rattle.kq_run_plan.proofs.top.keep_leading.Goals as goal

pub returns-in-Rows : goal.returns-in-Rows
returns-in-Rows g c =
    let t = c.args.asked.now in
    let rows = c.args.rows.now in
    ends_led t.count (sorting_of t.key.now) (surroundings t.pipeline.moment t.pipeline.lets.now) c.args.stage (width_through t.pipeline rows) (ran_through t.pipeline rows) c.in_ok-first.field-0 c.in-Rows.first _ c.in_ok-first.ensures c.in-Rows.is
    (ap (λ (rs : List Row). outcome.Table true rs) c.own.ensures)

pub returns-in-Overflow : goal.returns-in-Overflow
returns-in-Overflow g c =
    let t = c.args.asked.now in
    let rows = c.args.rows.now in
    ends_lost t.count (sorting_of t.key.now) (surroundings t.pipeline.moment t.pipeline.lets.now) c.args.stage (width_through t.pipeline rows) (ran_through t.pipeline rows) c.in_ok-first.field-0 c.in_ok-first.ensures c.in-Overflow.is

pub returns-in-Failed : goal.returns-in-Failed
returns-in-Failed g c =
    let t = c.args.asked.now in
    let rows = c.args.rows.now in
    ends_failed t.count (sorting_of t.key.now) (surroundings t.pipeline.moment t.pipeline.lets.now) c.args.stage (width_through t.pipeline rows) (ran_through t.pipeline rows) c.in_ok-first.field-0 c.in-Failed.n c.in_ok-first.ensures c.in-Failed.is
