use Rattle.kq_run_plan.proofs.Sharing.{shares_arm}
use Rattle.kq_run_plan.proofs.shared.share_arms.Goals as goal

pub loop-arm-preserved : goal.loop-arm-preserved
loop-arm-preserved c =
    shares_arm c.args.marks.now.items c.loop-arm.marks.items c.share.new.marks.items c.args.place c.args.arms.now c.loop-arm.arm-index c.arm-item.result c.loop-arm-test.true c.arm-item.is c.loop-arm.invariant c.share.ensures
