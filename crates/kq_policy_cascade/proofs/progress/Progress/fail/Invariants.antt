use Rattle.std.proofs.Common.{◌<◌, Bool, length}
use Rattle.kq_policy_cascade.specs.Steps.{FallsTo, IsLaid, State, state_of}
use Rattle.kq_policy_cascade.proofs.progress.Progress.fail.Given as goal

abbrev pub invariant-loop-self : goal.invariant-loop-self
invariant-loop-self l = record {
  laid : IsLaid l.dues (state_of l.self);
  within : l.self.top.at < length l.dues;
  falls : (noted : Bool) (s : State) → FallsTo l.dues l.target l.cause (state_of l.self) noted s → FallsTo l.dues l.target l.cause (state_of l.initial.self) noted s;
}

abbrev pub decreases-loop-self : goal.decreases-loop-self
decreases-loop-self l = length l.self.below
