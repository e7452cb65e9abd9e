use Rattle.std.proofs.Common.{◌∙◌}
use Rattle.kq_bind_columns.proofs.LaidOver.{as-more}
use Rattle.kq_bind_columns.proofs.laying.as_they_are.Goals as goal

pub loop-i-preserved : goal.loop-i-preserved
loop-i-preserved c = c.loop-i.invariant ∙ as-more c.loop-i.exprs.items c.push.new.self.items c.column.result c.loop-i.i c.args.columns.now c.loop-i-test.true c.column.ensures c.in_ok-push.ensures.items
