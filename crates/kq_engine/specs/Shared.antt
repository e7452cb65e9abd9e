-- What contracts see of the shared engine and of its passes, and what a call does to a pass.
use Rattle.std.specs.Prelude.{◌≡◌, ◌+◌, ◌≤◌, ℕ, ℤ, Bool, false, List, [], ◌∷◌, ◌++◌, length, take, if◌then◌else◌}
use mathlib.Core.List.{IsPrefix}
use Rattle.kq_lock.specs.Passes.{TurnId}
use Rattle.kq_catalog_journal.specs.declared.limits.Limits.{Limits}
use Rattle.kq_catalog_journal.specs.History.{History}
use Rattle.kq_reply.specs.declared.refusal.Refusal.TheVariants as refusals
use Rattle.kq_reply.specs.declared.reply.Reply.TheVariants as replies
use Rattle.kq_engine.specs.declared.work.Outcome.{Outcome}
use Rattle.kq_engine.specs.declared.work.Work.{Work}
use Rattle.kq_engine.specs.Acts.{Appends}
use Rattle.kq_engine_prepare.specs.Fits.{Fits, event_by}
use Rattle.kq_engine_prepare.specs.Found.{MayWantMemory}
use Rattle.kq_engine_prepare.specs.Merges.{NamesAll}

-- which lock it is, and the limits of the catalogue behind it
pub record SharedView : Type 0 where
  pub turn : TurnId
  pub limits : Limits

-- the lock that it is a pass of, what it has seen, its worth, the events made through it, in order, the number of client
-- commits among them, and the length of each history that it took
pub record PassView : Type 0 where
  pub of : TurnId
  pub seen : History
  pub worth : ℕ
  pub added : History
  pub made : ℕ
  pub taken : List ℕ

-- the number of commits of an outcome
abbrev pub commit_count : Bool → ℕ
commit_count own = if own then 1 else 0

-- one take or two, and the place is at least what the first found
pub record TakesOneOrTwo (old new : List ℕ) (place : ℕ) : Type 0 where
  pub first : ℕ
  pub more : List ℕ
  pub gains : new ≡ old ++ first ∷ more
  pub few : length more ≤ 1
  pub since : first ≤ place

-- the call's last take found a history that goes on from what was seen, and what the pass has then seen is that with the call's own event, if it made
-- one; the call made no other
pub record AppendsLast (limits : Limits) (old new : PassView) (work : Work) (outcome : Outcome) : Type 0 where
  pub found : History
  pub begins : IsPrefix old.seen found
  pub before : List ℕ
  pub last : new.taken ≡ before ++ length found ∷ []
  pub appends : Appends limits found new.seen work.by work.command outcome
  pub added : new.added ≡ old.added ++ event_by work.by appends.made

-- a command went through the pass: memory was wanting only where the command takes some, and under its last take it made at most one event, and its
-- outcome fits what the pass has then seen, at a place not below what it had seen
pub record Applies (limits : Limits) (old new : PassView) (work : Work) (outcome : Outcome) : Type 0 where
  pub of : new.of ≡ old.of
  pub worth : new.worth ≡ old.worth
  pub seen : IsPrefix old.seen new.seen
  pub takes : TakesOneOrTwo old.taken new.taken outcome.place
  pub last : AppendsLast limits old new work outcome
  pub made : new.made ≡ old.made + commit_count outcome.own
  pub fits : Fits limits new.seen work.by work.command work.now outcome.place outcome.own outcome.reply
  pub since : length old.seen ≤ outcome.place
  pub names_all : NamesAll (take outcome.place new.seen) (length old.seen) outcome.reply
  pub memory : outcome.reply ≡ replies.Refused refusals.Memory → MayWantMemory (take takes.first new.seen) (take outcome.place new.seen) work.command

-- prepared work was finished under one take, which found a history that goes on from what was seen
pub record Finishes (limits : Limits) (old new : PassView) (work : Work) (outcome : Outcome) : Type 0 where
  pub of : new.of ≡ old.of
  pub worth : new.worth ≡ old.worth
  pub seen : IsPrefix old.seen new.seen
  pub found : History
  pub begins : IsPrefix old.seen found
  pub taken : new.taken ≡ old.taken ++ length found ∷ []
  pub appends : Appends limits found new.seen work.by work.command outcome
  pub added : new.added ≡ old.added ++ event_by work.by appends.made
  pub made : new.made ≡ old.made + commit_count outcome.own
  pub fits : Fits limits new.seen work.by work.command work.now outcome.place outcome.own outcome.reply
  pub since : length old.seen ≤ outcome.place
  pub names_all : NamesAll (take outcome.place new.seen) (length old.seen) outcome.reply
  pub memory : outcome.reply ≡ replies.Refused refusals.Memory → MayWantMemory old.seen (take outcome.place new.seen) work.command

-- the pass's last take found what it has seen
pub record IsJustTaken (pass : PassView) : Type 0 where
  pub before : List ℕ
  pub last : pass.taken ≡ before ++ length pass.seen ∷ []

-- prepared work was concluded: it was answered already, which takes nothing, or finished under one take
pub record Concludes (limits : Limits) (old new : PassView) (work : Work) (outcome : Outcome) : Type 0 where
  pub of : new.of ≡ old.of
  pub worth : new.worth ≡ old.worth
  pub seen : IsPrefix old.seen new.seen
  pub more : List ℕ
  pub few : length more ≤ 1
  pub taken : new.taken ≡ old.taken ++ more
  pub last : AppendsLast limits old new work outcome
  pub made : new.made ≡ old.made + commit_count outcome.own
  pub fits : Fits limits new.seen work.by work.command work.now outcome.place outcome.own outcome.reply
  pub since : length old.seen ≤ outcome.place
  pub names_all : NamesAll (take outcome.place new.seen) (length old.seen) outcome.reply
  pub memory : outcome.reply ≡ replies.Refused refusals.Memory → MayWantMemory old.seen (take outcome.place new.seen) work.command
