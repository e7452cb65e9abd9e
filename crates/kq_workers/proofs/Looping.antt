-- Chores for one view or table after another.
use Rattle.std.proofs.Common.{◌≡◌, ◌<◌, ◌+◌, ℕ, false, length, arith, below_more}
use Rattle.kq_catalog_journal.specs.declared.limits.Limits.{Limits}
use Rattle.kq_catalog_journal.specs.History.{History, log, tables, view_count}
use Rattle.kq_engine.specs.declared.upkeep.Upkeep.{Upkeep}
use Rattle.kq_engine.specs.declared.upkeep.Upkeep.TheVariants as upkeeps
use Rattle.kq_engine.specs.Upkeeps.{IsThere}
use Rattle.kq_workers.specs.declared.worker.Worker.{Worker}
use Rattle.kq_workers.specs.Kept.{AreKept, IsKept}
use Rattle.kq_workers.specs.Rounds.{SeenGoesOn, HasChores}
use Rattle.kq_workers.proofs.Going.{HasChores-append, HasChores-carries, HasChores-none, HasChores-short}
use Rattle.kq_workers.proofs.Keeping.{kept_later}

-- what was kept up before some chores is so after them
kept_on : (limits : Limits) (actor : ℕ) (first : History) (mid new : Worker) (upkeep : Upkeep) → SeenGoesOn limits first mid.pass.seen → HasChores limits actor first mid new → SeenGoesOn limits first new.pass.seen → IsThere (log first) upkeep → IsKept first mid.pass.seen upkeep → IsKept first new.pass.seen upkeep
kept_on limits actor first mid new upkeep before chores after there kept = kept_later limits first mid.pass.seen new.pass.seen upkeep before.begins (HasChores-carries limits actor first mid new chores).seen after.lawful there kept

-- the first so many were tended
pub record Tending (limits : Limits) (actor : ℕ) (first : History) (of : ℕ → Upkeep) (old new : Worker) (n : ℕ) : Type 0 where
  pub chores : HasChores limits actor first old new
  pub since : SeenGoesOn limits first new.pass.seen
  pub kept : new.short ≡ false → (k : ℕ) → k < n → IsKept first new.pass.seen (of k)

pub Tending-none : (limits : Limits) (actor : ℕ) (first : History) (of : ℕ → Upkeep) (w : Worker) → SeenGoesOn limits first w.pass.seen → Tending limits actor first of w w 0
Tending-none limits actor first of w since = record { chores = HasChores-none limits actor first w; since = since; kept = λ none k below. absurd (omega (arith, below)) }

-- and one more
pub Tending-more : (limits : Limits) (actor : ℕ) (first : History) (of : ℕ → Upkeep) (old mid new : Worker) (n : ℕ) → Tending limits actor first of old mid n → HasChores limits actor first mid new → SeenGoesOn limits first new.pass.seen
    → (new.short ≡ false → IsKept first new.pass.seen (of n)) → ((k : ℕ) → k < n → IsThere (log first) (of k)) → Tending limits actor first of old new (n + 1)
Tending-more limits actor first of old mid new n so_far chores since one there = record {
  chores = HasChores-append limits actor first old mid new so_far.chores chores;
  since = since;
  kept = λ none. below_more _ _ (λ k below. kept_on limits actor first mid new (of k) so_far.since chores since (there k below) (so_far.kept (HasChores-short limits actor first mid new chores none) k below)) (one none);
}

-- the views were tended, and then the tables
pub AreKept-round : (limits : Limits) (actor : ℕ) (first : History) (mid new : Worker) → SeenGoesOn limits first mid.pass.seen → HasChores limits actor first mid new → SeenGoesOn limits first new.pass.seen
    → (mid.short ≡ false → (view : ℕ) → view < view_count (log first) → IsKept first mid.pass.seen (upkeeps.Fold view))
    → (new.short ≡ false → (table : ℕ) → table < length (tables (log first)) → IsKept first new.pass.seen (upkeeps.Merge table)) → new.short ≡ false → AreKept first new.pass.seen
AreKept-round limits actor first mid new before chores after views tables none (upkeeps.Fold view) there =
    kept_on limits actor first mid new (upkeeps.Fold view) before chores after there (views (HasChores-short limits actor first mid new chores none) view there)
AreKept-round limits actor first mid new before chores after views tables none (upkeeps.Merge table) there = tables none table there
