-- What one call of the engine does.
use Rattle.std.specs.Prelude.{◌≡◌, ◌≤◌, ◌⊎◌, ℕ, Bool, true, false, [], ◌∷◌, ◌++◌, length, take, Option, Some, Result, Ok, Err}
use Rattle.kq_catalog_journal.specs.declared.event.By.{By}
use Rattle.kq_catalog_journal.specs.declared.event.Commit.{Commit}
use Rattle.kq_catalog_journal.specs.declared.event.Operation.{Operation}
use Rattle.kq_catalog_journal.specs.declared.event.Operation.TheVariants as operation
use Rattle.kq_catalog_journal.specs.declared.limits.Limits.{Limits}
use Rattle.kq_catalog_journal.specs.History.{History, cursor, log, commits_at}
use Rattle.kq_read_commands.specs.declared.command.Command.{Command}
use Rattle.kq_reply.specs.declared.refusal.Refusal.{Refusal}
use Rattle.kq_reply.specs.declared.refusal.Refusal.TheVariants as refusals
use Rattle.kq_reply.specs.declared.reply.Reply.{Reply}
use Rattle.kq_reply.specs.declared.reply.Reply.TheVariants as replies
use Rattle.kq_engine_prepare.specs.declared.found.Found.{Found}
use Rattle.kq_engine_prepare.specs.Fits.{AnswersCommand, Fits, IsGranted, Makes, MayMake, Tends, event_by, own_commit}
use Rattle.kq_engine_prepare.specs.Found.{TakesToFinish}
use Rattle.kq_engine_prepare.specs.Merges.{IsSettled, NamesAll}
use Rattle.kq_engine.specs.declared.work.Outcome.{Outcome}
use Rattle.kq_engine.specs.declared.work.Work.{Work}

-- the outcome of an answer: that of a refusal is at the end of the history
abbrev pub outcome_of : History → Result Outcome Refusal → Outcome
outcome_of h (Ok outcome) = outcome
outcome_of h (Err r) = record { place = length h; own = false; reply = replies.Refused r }

-- such an operation was appended beside the reply that is due with it, which is no refusal; a merge is of all that were picked since the work began,
-- and a fold up to all that stood there
pub record Tended (limits : Limits) (old new : History) (work : Work) (began : ℕ) (reply : Reply) : Type 0 where
  pub made : Operation
  pub tends : Tends limits old work.command reply made
  pub granted : IsGranted reply
  pub answers : AnswersCommand limits new work.now work.command reply
  pub names_all : NamesAll new began reply
  pub appended : new ≡ old ++ event_by work.by (Some made)

-- with `own` the command's commit was appended; without it the history stayed, or it gained the one operation of another kind that is the command's
abbrev pub Did : Limits → History → History → Work → ℕ → Bool → Reply → Type 0
Did limits old new work began true reply = (c : Commit) × (new ≡ old ++ record { by = work.by; operation = operation.Commit c } ∷ []) × Makes limits (log old) work.command reply c
Did limits old new work began false reply = ((new ≡ old) × AnswersCommand limits old work.now work.command reply × IsSettled (cursor (take began old)) reply) ⊎ Tended limits old new work began reply

-- at most the command's own event, at the new end of the history
abbrev pub Acts : Limits → History → History → Work → ℕ → Outcome → Type 0
Acts limits old new work began outcome = (outcome.place ≡ length new) × Did limits old new work began outcome.own outcome.reply

-- the history gains one event or none, with this request id, and it is a commit exactly with `own`: the one at the outcome's place
pub record Appends (limits : Limits) (old new : History) (request : By) (command : Command) (outcome : Outcome) : Type 0 where
  pub made : Option Operation
  pub may_make : MayMake limits old command outcome.reply made
  pub appended : new ≡ old ++ event_by request made
  pub commits : commits_at new ≡ commits_at old ++ own_commit outcome.own outcome.place request

-- one step of the engine: at most one event is appended, the outcome fits the history, and a merge is of all that were picked since the work began, a
-- fold up to all that stood there
pub record Advances (limits : Limits) (old new : History) (work : Work) (began : ℕ) (outcome : Outcome) : Type 0 where
  pub appends : Appends limits old new work.by work.command outcome
  pub fits : Fits limits new work.by work.command work.now outcome.place outcome.own outcome.reply
  pub since : began ≤ outcome.place
  pub names_all : NamesAll (take outcome.place new) began outcome.reply

-- an outcome that tells of want of memory has its place where finishing takes some
abbrev pub WantsToFinish : (place : ℕ) → History → Command → Found → Outcome → Type 0
WantsToFinish place h command ready outcome = outcome.reply ≡ replies.Refused refusals.Memory → TakesToFinish place (take outcome.place h) command ready
