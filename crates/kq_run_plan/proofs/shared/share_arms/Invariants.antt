use Rattle.std.proofs.Common.{map, take}
use Rattle.kq_plan.specs.Plans.{filling_of}
use Rattle.kq_run_plan.specs.Stretches.{Shares, arm_read}
use Rattle.kq_run_plan.proofs.shared.share_arms.Given as goal

abbrev pub invariant-loop-arm : goal.invariant-loop-arm
invariant-loop-arm l = Shares l.place (map arm_read (map filling_of (take l.arm-index l.arms))) l.fn.marks.items l.marks.items
