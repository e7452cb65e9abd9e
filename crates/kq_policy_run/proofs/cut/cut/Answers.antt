use Rattle.kq_policy_run.proofs.Cutting.{cut_more}
use Rattle.kq_policy_run.proofs.cut.cut.Goals as goal

pub loop-index-preserved : goal.loop-index-preserved
loop-index-preserved c =
    cut_more c.args.rows.now c.loop-index.few c.push_copy.new.self c.row-row.result.now c.width.result c.args.count c.min-width.result c.loop-index.index
    c.row-row.ensures c.width.ensures c.min-width.ensures c.loop-index.invariant.0 c.loop-index.invariant.1 c.in_ok-push_copy.ensures.ok
