use Rattle.std.proofs.Common.{◌∙◌, ℕ, arith}
use Rattle.kq_engine.specs.declared.upkeep.Upkeep.TheVariants as upkeeps
use Rattle.kq_workers.proofs.Going.{HasChores-carries}
use Rattle.kq_workers.proofs.Looping.{Tending-more, Tending-none}
use Rattle.kq_workers.proofs.round.fold_views.Goals as goal

pub loop-view-init : goal.loop-view-init
loop-view-init g c = let post = c.args.post.now in Tending-none post.shared.now.limits post.actor c.args.snapshot.now.history (λ (n : ℕ). upkeeps.Fold n) c.args.worker.now c.requires.since

pub tend-requires-clause-of : goal.tend-requires-clause-of
tend-requires-clause-of g c = let post = c.args.post.now in (HasChores-carries post.shared.now.limits post.actor c.args.snapshot.now.history c.args.worker.now c.loop-view.worker c.loop-view.invariant.chores).of ∙ c.requires.of

pub loop-view-preserved : goal.loop-view-preserved
loop-view-preserved g c =
    let post = c.args.post.now in
    Tending-more post.shared.now.limits post.actor c.args.snapshot.now.history (λ (n : ℕ). upkeeps.Fold n) c.args.worker.now c.loop-view.worker c.tend.new.worker c.loop-view.view c.loop-view.invariant c.tend.ensures.chores c.tend.ensures.since c.tend.ensures.kept
    (λ k below. omega (arith, below))
