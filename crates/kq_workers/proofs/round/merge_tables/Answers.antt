use Rattle.std.proofs.Common.{◌∙◌, ℕ, arith}
use Rattle.kq_engine.specs.declared.upkeep.Upkeep.TheVariants as upkeeps
use Rattle.kq_workers.proofs.Going.{HasChores-carries}
use Rattle.kq_workers.proofs.Looping.{Tending-more, Tending-none}
use Rattle.kq_workers.proofs.round.merge_tables.Goals as goal

pub loop-table-init : goal.loop-table-init
loop-table-init g c = let post = c.args.post.now in Tending-none post.shared.now.limits post.actor c.args.snapshot.now.history (λ (n : ℕ). upkeeps.Merge n) c.args.worker.now c.requires.since

pub tend-requires-clause-of : goal.tend-requires-clause-of
tend-requires-clause-of g c = let post = c.args.post.now in (HasChores-carries post.shared.now.limits post.actor c.args.snapshot.now.history c.args.worker.now c.loop-table.worker c.loop-table.invariant.chores).of ∙ c.requires.of

pub loop-table-preserved : goal.loop-table-preserved
loop-table-preserved g c =
    let post = c.args.post.now in
    Tending-more post.shared.now.limits post.actor c.args.snapshot.now.history (λ (n : ℕ). upkeeps.Merge n) c.args.worker.now c.loop-table.worker c.tend.new.worker c.loop-table.table c.loop-table.invariant c.tend.ensures.chores c.tend.ensures.since c.tend.ensures.kept
    (λ k below. omega (arith, below))
