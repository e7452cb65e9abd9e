use Rattle.std.proofs.Common.{ℕ}
use Rattle.kq_engine.specs.declared.upkeep.Upkeep.TheVariants as upkeeps
use Rattle.kq_workers.proofs.Looping.{Tending}
use Rattle.kq_workers.proofs.round.fold_views.Given as goal

abbrev pub invariant-loop-view : goal.invariant-loop-view
invariant-loop-view g l = Tending l.post.shared.now.limits l.post.actor l.snapshot.history (λ (n : ℕ). upkeeps.Fold n) l.fn.worker l.worker l.view
