use Rattle.kq_policy_cascade.specs.Steps.{state_of}
use Rattle.kq_policy_cascade.proofs.Stepping.{Falls-noted, Falls-dropped, Falls-dropped_all, IsLaid-dropped}
use Rattle.kq_policy_cascade.proofs.progress.Progress.fail.Goals as goal

pub returns-then-not-due : goal.returns-then-not-due
returns-then-not-due c =
    let s = state_of c.loop-self.self in
    let t = state_of c.note.new.self in
    let dues = c.args.dues.now in
    c.loop-self.invariant.falls _ t (Falls-noted dues c.args.target c.args.cause s t c.if-not-due.true c.in_ok-note.ensures)

pub loop-self-preserved : goal.loop-self-preserved
loop-self-preserved c =
    let s = state_of c.loop-self.self in
    let dues = c.args.dues.now in
    let g = c.in-Some.frame in
    let frames = c.pop.new.self in
    let bs = c.truncate.new.self.items in
    let fs = c.truncate-in-loop-self.new.self.items in
    let batches = c.truncate.ensures.items in
    let failures = c.truncate-in-loop-self.ensures.items in
    let laid = IsLaid-dropped dues s g frames bs fs c.loop-self.invariant.laid c.in-Some.ensures.some batches failures in
    record {
      laid = laid.0;
      within = laid.1;
      falls = λ noted t more. c.loop-self.invariant.falls noted t (Falls-dropped dues c.args.target c.args.cause s t g frames bs fs noted c.if-not-due.false c.in-Some.ensures.some batches failures more);
    }

pub returns-in-None : goal.returns-in-None
returns-in-None c = c.loop-self.invariant.falls _ _ (Falls-dropped_all c.args.dues.now c.args.target c.args.cause (state_of c.loop-self.self) _ c.if-not-due.false c.in-None.ensures.none)
