use Rattle.kq_engine.specs.Acts.{Advances}
use Rattle.kq_engine.specs.Acts.{WantsToFinish}
use Rattle.kq_engine_interleavings.proofs.Running.{skip_finish, finish_open}
use Rattle.kq_engine_interleavings.proofs.run.finish_one.Goals as goal

pub returns-in_default : goal.returns-in_default
returns-in_default c = λ limits done run. skip_finish limits done c.args.by _ _ _ (rw c.as_slice.ensures.value at c.in_default.ensures) run

pub returns : goal.returns
returns c = λ limits done run.
    let old = c.args.running.now in
    let p = c.remove-prepared.result in
    let is_at = rw c.as_slice.ensures.value at c.in-Some.ensures in
    let step : Advances old.catalog.limits old.catalog.history c.finish-answer.new.catalog.history p.work p.place c.told-outcome.result = rw c.told-outcome.ensures c.finish-answer.ensures.step in
    let takes : WantsToFinish p.place c.finish-answer.new.catalog.history p.work.command p.found c.told-outcome.result = rw c.told-outcome.ensures c.finish-answer.ensures.memory in
    rw (c.remove-prepared.ensures.items, c.push_reserved.ensures.items, c.in_ok-reserve.ensures.items)
    (finish_open limits done c.args.by old.catalog c.finish-answer.new.catalog old.waiting.items old.outcomes.items c.in-Some.i p c.told-outcome.result is_at c.remove-prepared.ensures.value c.finish-answer.ensures.limits step takes run)
