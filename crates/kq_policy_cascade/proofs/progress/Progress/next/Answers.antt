use Rattle.std.proofs.Common.{◌≡◌, ◌∙◌, ap, sym, subst, ℕ, List, [], None}
use Rattle.kq_catalog_journal.specs.declared.batch.Batch.{Batch}
use Rattle.kq_policy_cascade.specs.declared.stack.Frame.{Frame}
use Rattle.kq_policy_cascade.specs.Steps.{batch_at, found, left, IsFirst, Settles, state_of}
use Rattle.kq_policy_cascade.proofs.Stepping.{Settles-none, Settles-resumed, IsLaid-resumed}
use Rattle.kq_policy_cascade.proofs.progress.Progress.next.Goals as goal

pub returns-in-Some-clause-next : goal.returns-in-Some-clause-next
returns-in-Some-clause-next c =
    let own = c.loop-at.self.top.own in
    let source : c.table-source.result ≡ (batch_at c.args.self.now.batches.items own).table = c.table-source.ensures ∙ ap (λ (b : Batch). b.table) c.batch.ensures ∙ ap (λ (bs : List Batch). (batch_at bs own).table) c.loop-at.invariant.batches in
    let first : IsFirst c.args.dues.now (batch_at c.args.self.now.batches.items own).table c.loop-at.self.top.at c.in-Some.at = subst (λ (s : ℕ). IsFirst c.args.dues.now s c.loop-at.self.top.at c.in-Some.at) source c.in-Some.ensures in
    c.loop-at.invariant.settles _ _ _ (found c.in-Some.at first)

pub loop-at-preserved : goal.loop-at-preserved
loop-at-preserved c =
    let own = c.loop-at.self.top.own in
    let g = c.in-Some-pop.frame in
    let source : c.table-source.result ≡ (batch_at c.args.self.now.batches.items own).table = c.table-source.ensures ∙ ap (λ (b : Batch). b.table) c.batch.ensures ∙ ap (λ (bs : List Batch). (batch_at bs own).table) c.loop-at.invariant.batches in
    let none : left c.args.dues.now (batch_at c.args.self.now.batches.items own).table c.loop-at.self.top.at ≡ [] = subst (λ (s : ℕ). left c.args.dues.now s c.loop-at.self.top.at ≡ []) source c.in-None.ensures in
    record {
      laid = IsLaid-resumed c.args.dues.now (state_of c.loop-at.self) g c.pop.new.self c.loop-at.invariant.laid c.in-Some-pop.ensures.some;
      batches = c.loop-at.invariant.batches;
      failures = c.loop-at.invariant.failures;
      settles = λ next top rest more. c.loop-at.invariant.settles next top rest
          (Settles-resumed c.args.dues.now c.args.self.now.batches.items c.loop-at.self.top g c.loop-at.self.below c.pop.new.self next top rest none c.in-Some-pop.ensures.some more);
    }

pub returns-in-None-pop-clause-next : goal.returns-in-None-pop-clause-next
returns-in-None-pop-clause-next c =
    let own = c.loop-at.self.top.own in
    let source : c.table-source.result ≡ (batch_at c.args.self.now.batches.items own).table = c.table-source.ensures ∙ ap (λ (b : Batch). b.table) c.batch.ensures ∙ ap (λ (bs : List Batch). (batch_at bs own).table) c.loop-at.invariant.batches in
    let none : left c.args.dues.now (batch_at c.args.self.now.batches.items own).table c.loop-at.self.top.at ≡ [] = subst (λ (s : ℕ). left c.args.dues.now s c.loop-at.self.top.at ≡ []) source c.in-None.ensures in
    c.loop-at.invariant.settles _ _ _
    (subst (λ (frames : List Frame). Settles c.args.dues.now c.args.self.now.batches.items c.loop-at.self.top c.loop-at.self.below None c.loop-at.self.top frames) (c.in-None-pop.ensures.none ∙ sym c.in-None-pop.ensures.same)
    (Settles-none c.args.dues.now c.args.self.now.batches.items c.loop-at.self.top c.loop-at.self.below none c.in-None-pop.ensures.none))
