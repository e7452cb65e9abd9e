use Rattle.std.proofs.Common.{length}
use Rattle.std.proofs.lemmas.Result.{IfOk-weaker}
use Rattle.kq_run_plan.specs.Gives.{around}
use Rattle.kq_run_plan.proofs.Stretched.{count_comes}
use Rattle.kq_run_plan.proofs.stretch.flow_in.Goals as goal

pub returns-then-is_count : goal.returns-then-is_count
returns-then-is_count g c =
    let done = c.args.done.now in
    let counts = c.is_count.ensures c.if-is_count.true in
    IfOk-weaker c.count.result _ _
    (λ o e. count_comes c.args.stretch.now c.index-stretch-0.result (length done) counts.0 (around c.args.now done) c.args.ordered c.args.rows.now o c.index-stretch-0.is counts.1 c.requires.linked e)
    c.count.ensures
