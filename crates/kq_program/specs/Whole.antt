-- The events of a history are those of its sessions and workers.
use Rattle.std.specs.Prelude.{◌≡◌, ◌⊎◌, ◌<◌, ◌+◌, ◌++◌, ◌&&◌, ◌||◌, ℕ, Bool, true, false, List, [], ◌∷◌, length, filter, All, count_by, nat_eq, nat_le, nat_lt}
use mathlib.Core.List.{IsPrefix}
use Rattle.kq_catalog_journal.specs.declared.event.Event.{Event}
use Rattle.kq_catalog_journal.specs.declared.limits.Limits.{Limits}
use Rattle.kq_catalog_journal.specs.History.{History, CommitAt, commits_at, commits_of}
use Rattle.kq_workers.specs.kq_engine.Shared.{PassView}
use Rattle.kq_workers.specs.Rounds.{Works}
use Rattle.kq_session.specs.Session.{is_receipted, own_commits}
use Rattle.kq_program.specs.Views.{EndedView}

-- the commits of an actor
abbrev pub commits_by : ℕ → History → List CommitAt
commits_by actor h = filter (λ (m : CommitAt). nat_eq m.by.actor actor) (commits_at h)

-- from the n-th session on, the commits of each are just those of its receipts with `own`
abbrev pub AreOwn : History → ℕ → List EndedView → Type 0
AreOwn h n [] = Unit {0}
AreOwn h n (s ∷ ss) = (commits_by n h ≡ own_commits n s.session.receipts) × AreOwn h (n + 1) ss

-- the event was made for a receipt of a session from the n-th on, whose reply is no refusal
abbrev pub is_of_sessions : ℕ → List EndedView → Event → Bool
is_of_sessions n [] e = false
is_of_sessions n (s ∷ ss) e = is_receipted n s.session.receipts e || is_of_sessions (n + 1) ss e

-- the event is by one of so many workers, whose actors are counted from 8, and no commit, so a fold or a merge
abbrev pub is_of_workers : ℕ → Event → Bool
is_of_workers workers e = nat_le 8 e.by.actor && (nat_lt e.by.actor (8 + workers) && nat_eq (length (commits_of e.operation)) 0)

-- the event has its cause: a session's command or a worker
abbrev pub is_caused : ℕ → List EndedView → Event → Bool
is_caused workers sessions e = is_of_sessions 0 sessions e || is_of_workers workers e

-- the commits of the history are just those of the sessions' receipts with `own`, and each event has its cause
pub record Whole (workers : ℕ) (h : History) (sessions : List EndedView) : Type 0 where
  pub own : AreOwn h 0 sessions
  pub no_others : All (λ (m : CommitAt). m.by.actor < length sessions) (commits_at h)
  pub caused : All (λ (e : Event). is_caused workers sessions e ≡ true) h

-- ---- workers

-- a worker's pass came back as it was, or after rounds of chores under the worker's actor
abbrev pub RestsOrWorks : Limits → ℕ → PassView → PassView → Type 0
RestsOrWorks limits actor old new = (new ≡ old) ⊎ ((refused : ℕ) × (short : Bool) × Works limits actor old new refused short)

-- an event of the actor that passes a test
abbrev pub is_of_actor : ℕ → (Event → Bool) → Event → Bool
is_of_actor actor test e = nat_eq e.by.actor actor && test e

-- a worker rested or worked, through a pass that has seen no more than a history, and the actor's among these events are just those that it made
pub record HasWorked (limits : Limits) (h events : History) (actor : ℕ) : Type 0 where
  pub old : PassView
  pub new : PassView
  pub did : RestsOrWorks limits actor old new
  pub seen : IsPrefix new.seen h
  pub own : History
  pub added : new.added ≡ old.added ++ own
  pub just : (test : Event → Bool) → count_by (is_of_actor actor test) events ≡ count_by test own

-- so did so many workers, whose actors are counted from 8
abbrev pub HaveWorked : Limits → History → History → ℕ → Type 0
HaveWorked limits h events workers = (n : ℕ) → n < workers → HasWorked limits h events (8 + n)
