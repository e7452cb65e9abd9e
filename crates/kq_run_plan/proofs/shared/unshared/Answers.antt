use Rattle.std.proofs.Common.{◌≡◌, ◌<◌, length, rules, arith}
use Rattle.kq_run_plan.proofs.Sharing.{Marked-end, Marked-next, Marked-start}
use Rattle.kq_run_plan.proofs.shared.unshared.Goals as goal

pub loop-place-init : goal.loop-place-init
loop-place-init c =
    let steps = c.args.plan.now.steps.items in
    let many : length c.in_ok-marks.marks.items ≡ length steps = search rules in
    Marked-start steps c.args.plan.now.output c.in_ok-marks.marks.items c.clear.new.marks.items many c.clear.ensures

pub loop-place-preserved : goal.loop-place-preserved
loop-place-preserved c =
    let steps = c.args.plan.now.steps.items in
    let within : c.loop-place.place < length steps = omega (arith, c.loop-place-test.true, c.len-place-end.ensures) in
    Marked-next steps c.args.plan.now.output c.loop-place.place c.loop-place.marks.items c.share_inputs.new.marks.items c.index.result.now c.loop-place.invariant within c.index.ensures c.share_inputs.ensures

pub returns : goal.returns
returns c =
    Marked-end c.args.plan.now.steps.items c.args.plan.now.output c.loop-place.place c.loop-place.marks.items c.loop-place.invariant (omega (arith, c.loop-place-test.false, c.len-place-end.ensures))
