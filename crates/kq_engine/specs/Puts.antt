-- What a merge or a fold that was found makes.
use Rattle.std.specs.Prelude.{◌≡◌, ◌<◌, ◌≤◌, ◌+◌, ◌⊎◌, false, [], ◌∷◌, ◌++◌, length}
use Rattle.kq_catalog.specs.declared.merging.Merging.{Merging}
use Rattle.kq_catalog.specs.Merges.{merge_event}
use Rattle.kq_catalog.specs.Views.{fold_event}
use Rattle.kq_catalog_journal.specs.declared.event.By.{By}
use Rattle.kq_catalog_journal.specs.History.{History, view_cursor}
use Rattle.kq_catalog_journal.specs.Records.{extents_made}
use Rattle.kq_reply.specs.declared.reply.Reply.TheVariants as replies
use Rattle.kq_engine_prepare.specs.declared.found.Folding.{Folding}
use Rattle.kq_engine.specs.declared.work.Outcome.{Outcome}

-- the event of a merge was appended, and its extents are told
pub record PutsMerge (old new : History) (by : By) (m : Merging) (outcome : Outcome) : Type 0 where
  pub appended : new ≡ old ++ merge_event by (1 + extents_made old) m ∷ []
  pub is : outcome ≡ record { place = length new; own = false; reply = replies.Merged (length m.old) }

-- a view that was behind was brought forward, and its new cursor is told
pub record BringsForward (old new : History) (by : By) (f : Folding) (outcome : Outcome) : Type 0 where
  pub behind : view_cursor old f.view < f.to
  pub appended : new ≡ old ++ fold_event by f.view f.to ∷ []
  pub is : outcome ≡ record { place = length new; own = false; reply = replies.Folded f.to }

-- a view that is as far stayed, and its cursor is told
pub record LeavesView (old new : History) (f : Folding) (outcome : Outcome) : Type 0 where
  pub ahead : f.to ≤ view_cursor old f.view
  pub stays : new ≡ old
  pub is : outcome ≡ record { place = length old; own = false; reply = replies.Folded (view_cursor old f.view) }

abbrev pub PutsFold : History → History → By → Folding → Outcome → Type 0
PutsFold old new by f outcome = BringsForward old new by f outcome ⊎ LeavesView old new f outcome
