use Rattle.std.proofs.Common.{◌*◌, ◌<◌, arith}
use Rattle.std.specs.Prelude.{codes}
use Rattle.std.proofs.lemmas.Grind.{div_ceil_times}
use Rattle.kq_script_generated.proofs.Cutting.{batch-put}
use Rattle.kq_script_generated.proofs.script.put_batches.Goals as goal

pub loop-batch-preserved : goal.loop-batch-preserved
loop-batch-preserved c =
    let below : c.loop-batch.batch * 1000 < c.args.n = omega (arith, div_ceil_times c.args.n 1000) in
    batch-put (codes "\n\n") c.loop-batch.text c.put_batch.new.text _ c.loop-batch.batch c.args.n c.min-rows.result below c.min-rows.ensures c.in_ok-put_batch.ensures c.loop-batch.invariant
