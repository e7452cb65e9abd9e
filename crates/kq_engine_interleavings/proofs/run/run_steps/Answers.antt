use Rattle.kq_engine_interleavings.proofs.Running.{IsRun-start}
use Rattle.kq_engine_interleavings.proofs.run.run_steps.Goals as goal

pub loop-step-init : goal.loop-step-init
loop-step-init c = IsRun-start c.args.limits c.in_ok-new.field-0 c.new-2.result.items c.new-3.result.items c.in_ok-new.ensures.limits c.in_ok-new.ensures.history c.new-2.ensures.items c.new-3.ensures.items

pub loop-step-preserved : goal.loop-step-preserved
loop-step-preserved c = c.in_ok-run_step.ensures c.args.limits c.loop-step.yielded c.loop-step.invariant
