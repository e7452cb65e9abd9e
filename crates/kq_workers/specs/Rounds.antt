-- What a worker does to its pass: rounds of chores.
use Rattle.std.specs.Prelude.{◌≡◌, ◌+◌, ◌-◌, ◌^◌, ◌||◌, ◌&&◌, ◌++◌, ◌∷◌, [], ℕ, Bool, true, false, List, length, min, All, nat_eq, if◌then◌else◌}
use mathlib.Core.List.{IsPrefix}
use Rattle.kq_catalog_journal.specs.declared.event.Event.{Event}
use Rattle.kq_catalog_journal.specs.declared.limits.Limits.{Limits}
use Rattle.kq_catalog_journal.specs.History.{History, commits_of}
use Rattle.kq_catalog_journal.specs.Lawful.{AreLawful}
use Rattle.kq_reply.specs.declared.refusal.Refusal.TheVariants as refusals
use Rattle.kq_reply.specs.declared.reply.Reply.{Reply}
use Rattle.kq_reply.specs.declared.reply.Reply.TheVariants as replies
use Rattle.kq_engine.specs.declared.upkeep.Upkeep.{Upkeep}
use Rattle.kq_engine.specs.declared.work.Outcome.{Outcome}
use Rattle.kq_engine.specs.Shared.{PassView}
use Rattle.kq_engine.specs.Upkeeps.{IsWanted, KeepsUp}
use Rattle.kq_workers.specs.declared.worker.Worker.{Worker}

-- the number after another one, which stands still at the last of its type
abbrev pub next : ℕ → ℕ
next n = min (n + 1) (2 ^ 64 - 1)

-- whether a reply tells of want of memory
abbrev pub wants_memory : Reply → Bool
wants_memory (replies.Refused refusals.Memory) = true
wants_memory _ = false

-- a chore: a fold or a merge, with its outcome
pub record Chore : Type 0 where
  pub upkeep : Upkeep
  pub outcome : Outcome

-- it went through the pass under the actor's next number
pub record TakesChore (limits : Limits) (actor : ℕ) (old new : Worker) (t : Chore) : Type 0 where
  pub number : new.number ≡ next old.number
  pub keeps : KeepsUp limits old.pass new.pass (record { actor = actor; number = new.number }) t.upkeep t.outcome
  pub looked : new.refused ≡ old.refused
  pub short : new.short ≡ (old.short || wants_memory t.outcome.reply)

-- such a chore was taken for this upkeep
pub record TakesOne (limits : Limits) (actor : ℕ) (old new : Worker) (upkeep : Upkeep) : Type 0 where
  pub outcome : Outcome
  pub chore : TakesChore limits actor old new (record { upkeep = upkeep; outcome = outcome })

-- chores, one after another
abbrev pub TakesChores : Limits → ℕ → List Chore → Worker → Worker → Type 0
TakesChores limits actor [] old new = old ≡ new
TakesChores limits actor (t ∷ chores) old new = (mid : Worker) × TakesChore limits actor old mid t × TakesChores limits actor chores mid new

-- one take of the catalogue, which appends nothing
pub record Looks (old new : PassView) : Type 0 where
  pub seen : IsPrefix old.seen new.seen
  pub pass : new ≡ record old { seen = new.seen; taken = old.taken ++ length new.seen ∷ [] }

-- a round: a look and its chores, for each of which there was something to do at the look; or a look that was refused, as its count tells, and none
pub record GoesRound (limits : Limits) (actor : ℕ) (chores : List Chore) (old new : Worker) : Type 0 where
  pub looked : Worker
  pub looks : Looks old.pass looked.pass
  pub number : looked.number ≡ old.number
  pub refused : Bool
  pub counted : looked.refused.count ≡ (if refused then next old.refused.count else old.refused.count)
  pub short : looked.short ≡ (old.short || refused)
  pub none : refused ≡ true → chores ≡ []
  pub wanted : All (λ (t : Chore). IsWanted looked.pass.seen t.upkeep) chores
  pub chore : TakesChores limits actor chores looked new

-- rounds, one after another
abbrev pub GoesRounds : Limits → ℕ → List (List Chore) → Worker → Worker → Type 0
GoesRounds limits actor [] old new = old ≡ new
GoesRounds limits actor (chores ∷ rounds) old new = (mid : Worker) × GoesRound limits actor chores old mid × GoesRounds limits actor rounds mid new

-- a worker that begins
abbrev pub begun : PassView → Worker
begun pass = record { pass = pass; refused = record { count = 0 }; number = 0; short = false }

-- the event is an actor's fold or merge, since it is no commit
abbrev pub is_upkeep : ℕ → Event → Bool
is_upkeep actor e = nat_eq e.by.actor actor && nat_eq (length (commits_of e.operation)) 0

-- a pass after a worker's rounds, of which there is one or more: it has seen at least as much, and all events that were made through it are folds and
-- merges of the actor; each chore made, under its last take, at most one event, a fold or a merge with the actor's request id; so many looks were
-- refused, and memory was wanting, or not
pub record Works (limits : Limits) (actor : ℕ) (old new : PassView) (refused : ℕ) (short : Bool) : Type 0 where
  pub of : new.of ≡ old.of
  pub worth : new.worth ≡ old.worth
  pub events : History
  pub added : new.added ≡ old.added ++ events
  pub upkeep : All (λ (e : Event). is_upkeep actor e ≡ true) events
  pub made : new.made ≡ old.made
  pub seen : IsPrefix old.seen new.seen
  pub first : List Chore
  pub rounds : List (List Chore)
  pub last : ℕ
  pub went : GoesRounds limits actor (first ∷ rounds) (begun old) (record { pass = new; refused = record { count = refused }; number = last; short = short })

-- one round or more
pub record HasRounds (limits : Limits) (actor : ℕ) (old new : Worker) : Type 0 where
  pub first : List Chore
  pub more : List (List Chore)
  pub went : GoesRounds limits actor (first ∷ more) old new

-- chores under way, for each of which there was something to do at the history's end
pub record HasChores (limits : Limits) (actor : ℕ) (first : History) (old new : Worker) : Type 0 where
  pub chores : List Chore
  pub wanted : All (λ (t : Chore). IsWanted first t.upkeep) chores
  pub taken : TakesChores limits actor chores old new

-- a round under way
pub record HasRound (limits : Limits) (actor : ℕ) (old new : Worker) : Type 0 where
  pub chores : List Chore
  pub went : GoesRound limits actor chores old new

-- what was seen goes on lawfully from an earlier history
pub record SeenGoesOn (limits : Limits) (first seen : History) : Type 0 where
  pub begins : IsPrefix first seen
  pub lawful : AreLawful limits seen
