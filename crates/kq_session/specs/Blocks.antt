-- When a reply fits a block of a script.
use Rattle.std.specs.Prelude.{◌≡◌, ◌≤◌, ◌⊎◌, ◌+◌, ℕ, ℤ, Bool, true, false, List, [], ◌∷◌, ◌++◌, length, take, Option, Some, None, Result, Ok, Err, nat_eq}
use Rattle.std.specs.List.{list_any}
use mathlib.Core.List.{IsPrefix}
use Rattle.kq_catalog_journal.specs.declared.event.By.{By}
use Rattle.kq_catalog_journal.specs.declared.event.Operation.{Operation}
use Rattle.kq_catalog_journal.specs.declared.limits.Limits.{Limits}
use Rattle.kq_catalog_journal.specs.History.{History}
use Rattle.kq_read_commands.specs.declared.command.Asked.{Asked}
use Rattle.kq_read_commands.specs.declared.command.Asked.TheVariants.{Engine, Exporter}
use Rattle.kq_read_commands.specs.declared.command.Command.{Command}
use Rattle.kq_read_commands.specs.declared.command.CommandFault.{CommandFault}
use Rattle.kq_read_commands.specs.declared.command.CommandFault.TheVariants.{NotText, Syntax, Deep, Unsupported, Memory}
use Rattle.kq_read_commands.specs.declared.command.Export.{Export}
use Rattle.kq_read_commands.specs.Reads.{ReadsAs}
use Rattle.kq_export_interface.specs.Due.{AnswersHolding, ExporterView, Holding}
use Rattle.kq_reply.specs.declared.refusal.Refusal.{Refusal}
use Rattle.kq_reply.specs.declared.refusal.Refusal.TheVariants as refusals
use Rattle.kq_reply.specs.declared.reply.Reply.{Reply}
use Rattle.kq_reply.specs.declared.reply.Reply.TheVariants as replies
use Rattle.kq_reply.specs.Number.{kind_of, number_of}
use Rattle.kq_script_blocks.specs.Script.{Block, command, too_long}
use Rattle.kq_engine.specs.declared.work.Outcome.{Outcome}
use Rattle.kq_engine.specs.kq_engine_prepare.Fits.{Fits, MayMake, event_by}
use Rattle.kq_engine.specs.kq_engine_prepare.Merges.{NamesAll}
use Rattle.kq_engine.specs.Shared.{PassView, commit_count}

-- refused for the text alone, or for want of memory
pub record RefusesAlone (h : History) (place : ℕ) (own : Bool) (reply : Reply) (r : Refusal) : Type 0 where
  pub within : place ≤ length h
  pub not_own : own ≡ false
  pub reason : (reply ≡ replies.Refused r) ⊎ (reply ≡ replies.Refused refusals.Memory)

-- refused for its length alone, which takes no memory
pub record RefusesLength (h : History) (place : ℕ) (own : Bool) (reply : Reply) (bytes : ℕ) : Type 0 where
  pub within : place ≤ length h
  pub not_own : own ≡ false
  pub refused : reply ≡ replies.Refused (refusals.TooLong bytes)

-- the refusal of a fault
abbrev pub refusal_of : CommandFault → Refusal
refusal_of (NotText at) = refusals.NotText at
refusal_of (Syntax at) = refusals.Syntax at
refusal_of (Deep at) = refusals.Deep at
refusal_of (Unsupported at) = refusals.Unsupported at
refusal_of Memory = refusals.Memory

-- the exporter of session 0 serves, and no other does
abbrev pub serves_to : ℕ → Bool
serves_to actor = nat_eq actor 0

-- the exporter's reply to what it is asked, over the history up to a place, and what it holds before and after
pub record FitsExport (h : History) (actor : ℕ) (held holds : Holding) (asked : Export) (place : ℕ) (own : Bool) (reply : Reply) : Type 0 where
  pub within : place ≤ length h
  pub not_own : own ≡ false
  pub answers : AnswersHolding (serves_to actor) (take place h) held holds asked reply

-- the reply to what a text reads as; what the exporter holds changes only where the exporter is asked
abbrev pub FitsRead : Limits → History → By → Holding → Holding → Result Asked CommandFault → ℤ → ℕ → Bool → Reply → Type 0
FitsRead limits h request held holds (Ok (Engine asked)) now place own reply = Fits limits h request asked now place own reply × (holds ≡ held)
FitsRead limits h request held holds (Ok (Exporter asked)) now place own reply = FitsExport h request.actor held holds asked place own reply
FitsRead limits h request held holds (Err fault) now place own reply = RefusesAlone h place own reply (refusal_of fault) × (holds ≡ held)

-- the reply to a text fits what the text reads as, or is the refusal of the text
pub record FitsText (limits : Limits) (h : History) (request : By) (held holds : Holding) (text : List ℕ) (now : ℤ) (place : ℕ) (own : Bool) (reply : Reply) : Type 0 where
  pub read : Result Asked CommandFault
  pub reads : ReadsAs text read
  pub fits : FitsRead limits h request held holds read now place own reply

-- the reply to a block, and what the exporter holds before and after
abbrev pub FitsBlock : Limits → History → By → Holding → Holding → Block → ℤ → ℕ → Bool → Reply → Type 0
FitsBlock limits h request held holds (command text) now place own reply = FitsText limits h request held holds text now place own reply
FitsBlock limits h request held holds (too_long bytes) now place own reply = RefusesLength h place own reply bytes × (holds ≡ held)

-- the kinds of the refusals of a text alone, and for want of memory
abbrev pub is_early : ℕ → Bool
is_early kind = list_any (λ (r : Refusal). nat_eq kind (number_of r)) (refusals.Memory ∷ refusals.Syntax 0 ∷ refusals.Deep 0 ∷ refusals.TooLong 0 ∷ refusals.Unsupported 0 ∷ refusals.NotText 0 ∷ [])

-- the takes for a reply of this kind at this place, two at most: such a refusal needs none, and else the place is at least
-- the first
abbrev pub AreTakes : ℕ → ℕ → List ℕ → Type 0
AreTakes kind place [] = is_early kind ≡ true
AreTakes kind place (first ∷ more) = (first ≤ place) × (length more ≤ 1)

-- the block is a command of the engine, which may make the operation beside this reply over the history whose last event it then is
abbrev pub MakesFor : Limits → History → By → Block → Reply → Operation → Type 0
MakesFor limits seen by (command text) reply made = (asked : Command) × ReadsAs text (Ok (Engine asked)) × (found : History) × (seen ≡ found ++ event_by by (Some made)) × MayMake limits found asked reply (Some made)
MakesFor limits seen by (too_long bytes) reply made = ⊥

-- such an operation, or none
abbrev pub MayMakeFor : Limits → History → By → Block → Reply → Option Operation → Type 0
MayMakeFor limits seen by block reply None = Unit {0}
MayMakeFor limits seen by block reply (Some made) = MakesFor limits seen by block reply made

-- an exporter goes on: it serves or not as before, and what it was asked over begins what was seen
pub record GoesOn (seen : History) (old new : ExporterView) : Type 0 where
  pub serves : new.serves ≡ old.serves
  pub behind : IsPrefix new.seen seen

-- one block was answered through a pass: it made at most one event, the outcome fits what the pass has then seen, at a place not below what it had
-- seen, and
-- a merge that it tells is of all that were picked at such a place, and a fold up to the cursor there or a later one; the exporter goes on
pub record AnswersBlock (limits : Limits) (old new : PassView) (held holds : ExporterView) (by : By) (block : Block) (now : ℤ) (outcome : Outcome) : Type 0 where
  pub of : new.of ≡ old.of
  pub worth : new.worth ≡ old.worth
  pub seen : IsPrefix old.seen new.seen
  pub operation : Option Operation
  pub added : new.added ≡ old.added ++ event_by by operation
  pub may_make : MayMakeFor limits new.seen by block outcome.reply operation
  pub made : new.made ≡ old.made + commit_count outcome.own
  pub takes : List ℕ
  pub taken : new.taken ≡ old.taken ++ takes
  pub enough : AreTakes (kind_of outcome.reply) outcome.place takes
  pub fits : FitsBlock limits new.seen by held.holding holds.holding block now outcome.place outcome.own outcome.reply
  pub exporter : GoesOn new.seen held holds
  pub since : length old.seen ≤ outcome.place
  pub names_all : NamesAll (take outcome.place new.seen) (length old.seen) outcome.reply
  pub within : outcome.place ≤ length new.seen

-- the exporter was asked over one take of the catalogue, which is what the pass has then seen; no event was made
pub record AnswersExport (old new : PassView) (held holds : ExporterView) (asked : Export) (outcome : Outcome) : Type 0 where
  pub seen : IsPrefix old.seen new.seen
  pub pass : new ≡ record old { seen = new.seen; taken = old.taken ++ length new.seen ∷ [] }
  pub place : outcome.place ≡ length new.seen
  pub own : outcome.own ≡ false
  pub answers : AnswersHolding held.serves new.seen held.holding holds.holding asked outcome.reply
  pub exporter : GoesOn new.seen held holds
