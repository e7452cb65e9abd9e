use Rattle.std.proofs.Common.{◌∙◌, sym}
use Rattle.kq_store_extent.specs.Seen.{held_records}
use Rattle.kq_run_plan.specs.kq_run_gather.Bodies.{columns_read}
use Rattle.kq_plan.specs.Plans.{planned_of}
use Rattle.kq_engine_query.proofs.Covering.{none_read}
use Rattle.kq_engine_query.proofs.views.rows_behind.Goals as goal

pub returns-else-above-to-clause-rows : goal.returns-else-above-to-clause-rows
returns-else-above-to-clause-rows c =
    c.own.ensures ∙ c.new.ensures ∙ sym (none_read c.args.above c.args.to (columns_read (planned_of c.args.body.now)) (held_records c.args.extents.now) c.if-above-to.false)
