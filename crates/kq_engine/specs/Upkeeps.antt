-- When a fold or a merge by number is told, what it makes, and what a call for one does to a pass.
use Rattle.std.specs.Prelude.{◌≡◌, ◌≢◌, ◌⊎◌, ◌<◌, ◌≤◌, ℕ, ℤ, Bool, true, false, List, [], ◌∷◌, ◌++◌, length, take, Option, Some, None}
use mathlib.Core.List.{IsPrefix}
use Rattle.kq_catalog.specs.Merges.{WasPicked}
use Rattle.kq_catalog.specs.Views.{WasFolded}
use Rattle.kq_read_commands.specs.declared.columns.Identifier.{Identifier}
use Rattle.kq_read_commands.specs.declared.command.Command.{Command}
use Rattle.kq_read_commands.specs.declared.command.Command.TheVariants as commands
use Rattle.kq_catalog_journal.specs.declared.event.By.{By}
use Rattle.kq_catalog_journal.specs.declared.event.Operation.{Operation}
use Rattle.kq_catalog_journal.specs.declared.event.Operation.TheVariants as operation
use Rattle.kq_catalog_journal.specs.declared.limits.Limits.{Limits}
use Rattle.kq_catalog_journal.specs.History.{History, Log, NumberedTable, cursor, log, view_cursor, tables, table_numbered, view_count}
use Rattle.kq_catalog_journal.specs.Lawful.{AreLawful}
use Rattle.kq_catalog_journal.specs.Records.{picked}
use Rattle.kq_reply.specs.declared.refusal.Refusal.TheVariants as refusals
use Rattle.kq_reply.specs.declared.reply.Reply.{Reply}
use Rattle.kq_reply.specs.declared.reply.Reply.TheVariants as replies
use Rattle.kq_engine_prepare.specs.declared.found.Found.{Found}
use Rattle.kq_engine_prepare.specs.declared.found.Found.TheVariants as founds
use Rattle.kq_engine.specs.declared.upkeep.Upkeep.{Upkeep}
use Rattle.kq_engine.specs.declared.upkeep.Upkeep.TheVariants as upkeeps
use Rattle.kq_engine.specs.declared.work.Outcome.{Outcome}
use Rattle.kq_engine_prepare.specs.Fits.{Fits, event_by}
use Rattle.kq_engine_prepare.specs.Folds.{FoldsView, IsFoldingIn, view_number}
use Rattle.kq_engine_prepare.specs.Merges.{IsMergingIn, IsSettled, MergesTable, NamesAll}
use Rattle.kq_engine.specs.Shared.{PassView, TakesOneOrTwo}

-- ---- what is kept up

-- whether it is the fold of a view
abbrev pub is_fold : Upkeep → Bool
is_fold (upkeeps.Fold view) = true
is_fold (upkeeps.Merge table) = false

-- the view or the table stands
abbrev pub IsThere : Log → Upkeep → Type 0
IsThere l (upkeeps.Fold view) = view < view_count l
IsThere l (upkeeps.Merge table) = table < length (tables l)

-- there is something to do: the view is behind the cursor, or two or more extents of the table may be merged
abbrev pub IsWanted : History → Upkeep → Type 0
IsWanted h (upkeeps.Fold view) = view_cursor h view ≢ cursor h
IsWanted h (upkeeps.Merge table) = 2 ≤ length (picked h table)

-- there is nothing to do
abbrev pub IsIdle : History → Upkeep → Type 0
IsIdle h (upkeeps.Fold view) = view_cursor h view ≡ cursor h
IsIdle h (upkeeps.Merge table) = length (picked h table) < 2

-- ---- the reply

-- the reply over a history with the upkeep's own event: the one that is due to a command which names the view or the table
abbrev pub TellsUpkeep : History → Upkeep → Reply → Type 0
TellsUpkeep h (upkeeps.Fold view) reply = FoldsView h view reply
TellsUpkeep h (upkeeps.Merge table) reply = MergesTable h table reply

-- that one, or want of memory
abbrev pub AnswersUpkeep : History → Upkeep → Reply → Type 0
AnswersUpkeep h upkeep reply = (reply ≡ replies.Refused refusals.Memory) ⊎ TellsUpkeep h upkeep reply

-- the table of the name has this number
pub record IsNumbered (h : History) (name : Identifier) (table : ℕ) : Type 0 where
  pub found : NumberedTable
  pub named : table_numbered name.text (tables (log h)) ≡ Some found
  pub same : found.number ≡ table

-- the command is a fold or a merge that names the view or the table
abbrev pub AsksFor : History → Command → Upkeep → Type 0
AsksFor h (commands.Fold name) (upkeeps.Fold view) = view_number h name ≡ Some view
AsksFor h (commands.Merge name) (upkeeps.Merge table) = IsNumbered h name table
AsksFor h _ _ = ⊥

-- the outcome fits each command that asks for the upkeep
abbrev pub FitsEach : Limits → History → By → Upkeep → Outcome → Type 0
FitsEach limits h by upkeep outcome = (command : Command) (now : ℤ) → AsksFor h command upkeep → Fits limits h by command now outcome.place outcome.own outcome.reply

-- ---- what is found

-- the part of the view up to the cursor, or all extents that are picked in the table with the one that they become
abbrev pub IsChore : History → Upkeep → Found → Type 0
IsChore h (upkeeps.Fold view) (founds.Folds folding) = IsFoldingIn h view folding
IsChore h (upkeeps.Merge table) (founds.Merges merging) = IsMergingIn h table merging
IsChore h _ _ = ⊥

-- the reply is told with no event, and want of memory only where there is something to do
pub record IsToldAt (h : History) (upkeep : Upkeep) (reply : Reply) : Type 0 where
  pub answers : AnswersUpkeep h upkeep reply
  pub settled : IsSettled (cursor h) reply
  pub memory : reply ≡ replies.Refused refusals.Memory → IsWanted h upkeep

-- it was found at this place of the history, for this upkeep
pub record WasChore (h : History) (upkeep : Upkeep) (place : ℕ) (chore : Found) : Type 0 where
  pub within : place ≤ length h
  pub there : IsThere (log (take place h)) upkeep
  pub is : IsChore (take place h) upkeep chore

-- it was found at some place, and its table stands
abbrev pub WasFound : History → Found → Type 0
WasFound h (founds.Folds folding) = WasFolded h folding.view folding.to folding.part
WasFound h (founds.Merges merging) = WasPicked h merging × (merging.table < length (tables (log h)))
WasFound h _ = ⊥

-- ---- what is made

-- the operation is the upkeep's own, beside its reply
abbrev pub IsOwn : Upkeep → Reply → Operation → Type 0
IsOwn (upkeeps.Fold view) reply (operation.Fold number to) = (number ≡ view) × (reply ≡ replies.Folded to)
IsOwn (upkeeps.Merge table) reply (operation.Merge number old new) = (number ≡ table) × (reply ≡ replies.Merged (length old))
IsOwn _ reply _ = ⊥

-- such an operation, or none; a merge that is told was made
abbrev pub MakesOwn : Upkeep → Reply → Option Operation → Type 0
MakesOwn upkeep reply None = (extents : ℕ) → reply ≢ replies.Merged extents
MakesOwn upkeep reply (Some made) = IsOwn upkeep reply made

-- at most the upkeep's own event was appended, and its outcome is told at the new end of the history: a merge is of all that were picked since the
-- work began, and a fold up to all that stood there
pub record Upholds (old new : History) (by : By) (upkeep : Upkeep) (began : ℕ) (outcome : Outcome) : Type 0 where
  pub made : Option Operation
  pub own_event : MakesOwn upkeep outcome.reply made
  pub appended : new ≡ old ++ event_by by made
  pub place : outcome.place ≡ length new
  pub no_commit : outcome.own ≡ false
  pub answers : AnswersUpkeep new upkeep outcome.reply
  pub names_all : NamesAll new began outcome.reply

-- the same for whatever this was found for, and wherever
abbrev pub PutsChore : History → History → By → Found → Outcome → Type 0
PutsChore old new by chore outcome = (upkeep : Upkeep) (place : ℕ) → WasChore old upkeep place chore → Upholds old new by upkeep place outcome

-- ---- what is done to a pass

-- a chore was finished under one take, which found a history that goes on from what was seen
pub record FinishesUpkeep (limits : Limits) (old new : PassView) (by : By) (upkeep : Upkeep) (outcome : Outcome) : Type 0 where
  pub of : new.of ≡ old.of
  pub worth : new.worth ≡ old.worth
  pub made : new.made ≡ old.made
  pub lawful : AreLawful limits new.seen
  pub found : History
  pub begins : IsPrefix old.seen found
  pub taken : new.taken ≡ old.taken ++ length found ∷ []
  pub upholds : Upholds found new.seen by upkeep (length old.seen) outcome
  pub added : new.added ≡ old.added ++ event_by by upholds.made

-- the call's last take found a history that goes on from what was seen, and what the pass has then seen is that with the upkeep's own event, if it
-- made one; the call made no other
pub record UpholdsLast (old new : PassView) (by : By) (upkeep : Upkeep) (outcome : Outcome) : Type 0 where
  pub found : History
  pub begins : IsPrefix old.seen found
  pub before : List ℕ
  pub last : new.taken ≡ before ++ length found ∷ []
  pub upholds : Upholds found new.seen by upkeep (length old.seen) outcome
  pub added : new.added ≡ old.added ++ event_by by upholds.made

-- there was something to do at a place from the given one on
pub record WasWanted (h : History) (from : ℕ) (upkeep : Upkeep) : Type 0 where
  pub at : ℕ
  pub since : from ≤ at
  pub within : at ≤ length h
  pub wanted : IsWanted (take at h) upkeep

-- a fold or a merge by number went through the pass: it made at most its own event, which is no commit, its outcome tells of all that the pass has
-- then seen, and memory was wanting only where there was something to do
pub record KeepsUp (limits : Limits) (old new : PassView) (by : By) (upkeep : Upkeep) (outcome : Outcome) : Type 0 where
  pub of : new.of ≡ old.of
  pub worth : new.worth ≡ old.worth
  pub made : new.made ≡ old.made
  pub seen : IsPrefix old.seen new.seen
  pub lawful : AreLawful limits new.seen
  pub takes : TakesOneOrTwo old.taken new.taken outcome.place
  pub last : UpholdsLast old new by upkeep outcome
  pub memory : outcome.reply ≡ replies.Refused refusals.Memory → WasWanted new.seen (length old.seen) upkeep
