use Rattle.std.proofs.Common.{◌≡◌, List, Option, length}
use Rattle.kq_catalog_journal.specs.declared.policy.Due.{Due}
use Rattle.kq_policy_cascade.specs.declared.stack.Frame.{Frame}
use Rattle.kq_policy_cascade.specs.Steps.{IsLaid, Settles, state_of}
use Rattle.kq_policy_cascade.proofs.progress.Progress.next.Given as goal

abbrev pub invariant-loop-at : goal.invariant-loop-at
invariant-loop-at l = record {
  laid : IsLaid l.dues (state_of l.self);
  batches : l.self.batches.items ≡ l.initial.self.batches.items;
  failures : l.self.failures.items ≡ l.initial.self.failures.items;
  settles : (next : Option Due) (top : Frame) (rest : List Frame) → Settles l.dues l.initial.self.batches.items l.self.top l.self.below next top rest → Settles l.dues l.initial.self.batches.items l.initial.self.top l.initial.self.below next top rest;
}

abbrev pub decreases-loop-at : goal.decreases-loop-at
decreases-loop-at l = length l.self.below
