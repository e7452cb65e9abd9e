-- When a reply fits, and which event goes with it.
use Rattle.std.specs.Prelude.{◌≡◌, ◌≢◌, ◌≤◌, ◌⊎◌, ℕ, ℤ, Bool, true, false, List, [], ◌∷◌, ◌++◌, length, take, Option, Some, None, Result, Ok, Err}
use Rattle.kq_catalog_journal.specs.declared.event.By.{By}
use Rattle.kq_catalog_journal.specs.declared.event.Commit.{Commit}
use Rattle.kq_catalog_journal.specs.declared.event.Operation.{Operation}
use Rattle.kq_catalog_journal.specs.declared.event.Operation.TheVariants as operation
use Rattle.kq_catalog_journal.specs.declared.limits.Limits.{Limits}
use Rattle.kq_catalog_journal.specs.History.{History, Log, CommitAt, cursor, log, commits_at}
use Rattle.kq_read_commands.specs.declared.command.Command.{Command}
use Rattle.kq_read_commands.specs.declared.command.Command.TheVariants.{Query, Show, Change, Merge, Fold}
use Rattle.kq_read_grammar.specs.TabularViews.{query_of}
use Rattle.kq_engine_query.specs.Answers.{AnswersQuery}
use Rattle.kq_reply.specs.declared.refusal.Refusal.{Refusal}
use Rattle.kq_reply.specs.declared.refusal.Refusal.TheVariants as refusals
use Rattle.kq_reply.specs.declared.reply.Reply.{Reply}
use Rattle.kq_reply.specs.declared.reply.Reply.TheVariants as replies
use Rattle.kq_engine_prepare.specs.Due.{Accept}
use Rattle.kq_engine_prepare.specs.Folds.{AnswersFold, TendsFold}
use Rattle.kq_engine_prepare.specs.Merges.{AnswersMerge, IsMergedBy, IsSettled, NamesAll, TendsMerge}
use Rattle.kq_engine_prepare.specs.Shows.{AnswersShow}

-- the reply that is due at a moment without a commit; to a merge or a fold over a history with its own event
abbrev pub IsDue : Limits → History → ℤ → Command → Reply → Type 0
IsDue limits h now (Query query) reply = AnswersQuery h now query.text (query_of query.tree) reply
IsDue limits h now (Show show) reply = AnswersShow h show reply
IsDue limits h now (Change change) reply = Accept limits (log h) change reply None
IsDue limits h now (Merge table) reply = AnswersMerge h table reply
IsDue limits h now (Fold view) reply = AnswersFold h view reply

-- the log admits this reply to the command with this commit, so it is a change
abbrev pub Makes : Limits → Log → Command → Reply → Commit → Type 0
Makes limits l (Query query) reply c = ⊥
Makes limits l (Show show) reply c = ⊥
Makes limits l (Change change) reply c = Accept limits l change reply (Some c)
Makes limits l (Merge table) reply c = ⊥
Makes limits l (Fold view) reply c = ⊥

-- a reply without a commit: the one that is due, or want of memory
abbrev pub AnswersCommand : Limits → History → ℤ → Command → Reply → Type 0
AnswersCommand limits h now command reply = (reply ≡ replies.Refused refusals.Memory) ⊎ IsDue limits h now command reply

-- the reply fits this whole history: with `own`, its last event is the command's commit
abbrev pub FitsNow : Limits → History → By → Command → ℤ → Bool → Reply → Type 0
FitsNow limits h request command now false reply = AnswersCommand limits h now command reply
FitsNow limits h request command now true reply = (before : History) × (c : Commit) × (h ≡ before ++ record { by = request; operation = operation.Commit c } ∷ []) × Makes limits (log before) command reply c

-- the reply fits the command at a place of the history; a merge that it tells has the request id
pub record Fits (limits : Limits) (h : History) (request : By) (command : Command) (now : ℤ) (place : ℕ) (own : Bool) (reply : Reply) : Type 0 where
  pub within : place ≤ length h
  pub at : FitsNow limits (take place h) request command now own reply
  pub requested : IsMergedBy (take place h) request reply

-- an operation as an event with its request id, or none
abbrev pub event_by : By → Option Operation → History
event_by request None = []
event_by request (Some made) = record { by = request; operation = made } ∷ []

-- the operation that a command without a commit may make beside its reply: a fold or a merge
abbrev pub Tends : Limits → History → Command → Reply → Operation → Type 0
Tends limits old command reply (operation.Commit c) = ⊥
Tends limits old command reply (operation.Fold view to) = TendsFold old command reply view to
Tends limits old command reply (operation.Merge table ids new) = TendsMerge old command reply table ids

-- the reply is no refusal
abbrev pub IsGranted : Reply → Type 0
IsGranted reply = (r : Refusal) → reply ≢ replies.Refused r

-- the commit of an outcome, if it made one
abbrev pub own_commit : Bool → ℕ → By → List CommitAt
own_commit true place request = record { place = place; by = request } ∷ []
own_commit false place request = []

-- the operation is the command's, beside its reply: the commit that the log admits, or a fold or a merge
abbrev pub Performs : Limits → History → Command → Reply → Operation → Type 0
Performs limits old command reply (operation.Commit c) = Makes limits (log old) command reply c
Performs limits old command reply (operation.Fold view to) = TendsFold old command reply view to
Performs limits old command reply (operation.Merge table ids new) = TendsMerge old command reply table ids

-- such an operation, beside a reply that is no refusal; or none
abbrev pub MayMake : Limits → History → Command → Reply → Option Operation → Type 0
MayMake limits old command reply None = Unit {0}
MayMake limits old command reply (Some made) = IsGranted reply × Performs limits old command reply made
