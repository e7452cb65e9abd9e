use Rattle.std.proofs.Common.{ℕ}
use Rattle.kq_engine.specs.declared.upkeep.Upkeep.TheVariants as upkeeps
use Rattle.kq_workers.proofs.Looping.{Tending}
use Rattle.kq_workers.proofs.round.merge_tables.Given as goal

abbrev pub invariant-loop-table : goal.invariant-loop-table
invariant-loop-table g l = Tending l.post.shared.now.limits l.post.actor l.snapshot.history (λ (n : ℕ). upkeeps.Merge n) l.fn.worker l.worker l.table
