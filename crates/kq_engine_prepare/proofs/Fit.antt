-- Commits that are counted.
use Rattle.std.proofs.Common.{◌≡◌, ◌<◌, Bool, true, false, cond, length, nat_lt, refl}
use Rattle.kq_catalog.specs.declared.intent.Intent.{Intent}
use Rattle.kq_catalog.specs.declared.intent.Intent.TheVariants as intents
use Rattle.kq_catalog.specs.Intents.{BeginsEmpty, commit_of}
use Rattle.kq_catalog_journal.specs.declared.event.Commit.{Commit}
use Rattle.kq_catalog_journal.specs.declared.event.Commit.TheVariants as commits
use Rattle.kq_catalog_journal.specs.declared.limits.Limits.{Limits}
use Rattle.kq_catalog_journal.specs.History.{Log}
use Rattle.kq_catalog_journal.specs.Lawful.{LawfulCommit}
use Rattle.kq_reply.specs.declared.refusal.Refusal.{Refusal}
use Rattle.kq_reply.specs.declared.refusal.Refusal.TheVariants as refusals
use Rattle.kq_engine_prepare.specs.Due.{Commits, counted, refused}

-- a commit is no refusal
pub no_commit : (c : Commit) (r : Refusal) → Commits c ≡ refused r → ⊥
no_commit c r e = cc

-- a commit that is due where commits are counted is that commit, and there was room
pub counted-commit : (limits : Limits) (l : Log) (c d : Commit) → Commits d ≡ counted limits l c → (nat_lt (length l) limits.commits ≡ true) × (c ≡ d)
counted-commit limits l c d e = by_test (nat_lt (length l) limits.commits) refl e
  where
    by_test : (b : Bool) → nat_lt (length l) limits.commits ≡ b → Commits d ≡ cond b (Commits c) (refused (refusals.Full limits.commits)) → (nat_lt (length l) limits.commits ≡ true) × (c ≡ d)
    by_test true room e = (room, cc)
    by_test false room e = absurd (no_commit d (refusals.Full limits.commits) e)

-- the commit makes no view
abbrev pub MakesNoView : Commit → Type 0
MakesNoView (commits.CreateTable name schema) = Unit {0}
MakesNoView (commits.SetPolicy table entries) = Unit {0}
MakesNoView (commits.CreateView view) = ⊥
MakesNoView (commits.AlterMerge table columns) = Unit {0}
MakesNoView (commits.Ingest batches failures) = Unit {0}

-- so it is offered without a part
pub BeginsEmpty-offered : (intent : Intent) → MakesNoView (commit_of intent) → BeginsEmpty intent
BeginsEmpty-offered (intents.CreateTable name schema) none = tt
BeginsEmpty-offered (intents.SetPolicy table entries) none = tt
BeginsEmpty-offered (intents.CreateView view part) none = absurd none
BeginsEmpty-offered (intents.AlterMerge table columns) none = tt
BeginsEmpty-offered (intents.Ingest parts failures) none = tt

-- the commit may be made, and one more is allowed
pub record IsFit (limits : Limits) (l : Log) (c : Commit) : Type 0 where
  pub room : length l < limits.commits
  pub lawful : LawfulCommit limits l c
