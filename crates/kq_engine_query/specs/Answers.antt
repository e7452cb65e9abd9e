-- The replies to queries.
use Rattle.std.specs.Prelude.{◌≡◌, ◌⊎◌, ℕ, ℤ, List, Ok, Err}
use Rattle.kq_bind_query.specs.kq_bind_operators.Flows.{columns_at}
use Rattle.kq_bind_query.specs.Queries.{query_bound}
use Rattle.kq_bind_expressions.specs.declared.fault.BindFault.{BindFault}
use Rattle.kq_bind_expressions.specs.declared.fault.BindFault.TheVariants as faults
use Rattle.kq_bind_expressions.specs.Verdicts.{Fault, unsupported, unknown, mistyped, Verdict}
use Rattle.kq_read_grammar.specs.Trees.{QueryTree}
use Rattle.kq_store_rows.specs.declared.answer.Answer.{Answer}
use Rattle.kq_catalog_journal.specs.History.{History}
use Rattle.kq_run_plan.specs.declared.outcome.Outcome.{Outcome}
use Rattle.kq_run_plan.specs.declared.outcome.Outcome.TheVariants as outcome
use Rattle.kq_run_plan.specs.Gives.{Gives}
use Rattle.kq_plan.specs.Plans.{Planned}
use Rattle.kq_reply.specs.declared.refusal.Refusal.{Refusal}
use Rattle.kq_reply.specs.declared.refusal.Refusal.TheVariants as refusals
use Rattle.kq_reply.specs.declared.reply.Reply.{Reply}
use Rattle.kq_reply.specs.declared.reply.Reply.TheVariants as replies
use Rattle.kq_value.specs.declared.schema.Field.{Field}
use Rattle.kq_engine_query.specs.Printed.{PrintsAnswer}
use Rattle.kq_engine_query.specs.Worlds.{known_in, MayGive}

-- ---- what can't be bound

-- the refusal of the first fault
abbrev pub refusal_by : Fault → Refusal
refusal_by (unsupported at) = refusals.Unsupported at
refusal_by (unknown at) = refusals.Unknown at
refusal_by (mistyped at) = refusals.Mistyped at

-- the same of the code's fault, which may be want of memory
abbrev pub refusal_of : BindFault → Refusal
refusal_of (faults.Unsupported at) = refusals.Unsupported at
refusal_of (faults.Unknown at) = refusals.Unknown at
refusal_of (faults.Mistyped at) = refusals.Mistyped at
refusal_of faults.Memory = refusals.Memory

-- a refusal is so answered, or memory was wanting
abbrev pub RefusesBy : (Reply → Type 0) → Refusal → Type 0
RefusesBy Answers r = (r ≡ refusals.Memory) ⊎ Answers (replies.Refused r)

-- ---- what a plan gives

-- the columns of what a plan gives
abbrev pub columns_given : Planned → List Field
columns_given p = columns_at p.steps p.output

-- rows are printed under these columns, and a fault is refused; a cell is no answer
abbrev pub Shows : List Field → Outcome → Reply → Type 0
Shows columns (outcome.Table ordered rows) reply = PrintsAnswer (λ (a : Answer). a ≡ record { schema = columns; ordered = ordered; rows = rows }) reply
Shows columns (outcome.Cell v) reply = ⊥
Shows columns (outcome.Overflow stage) reply = reply ≡ replies.Refused (refusals.Overflow stage)
Shows columns (outcome.Full limit) reply = reply ≡ replies.Refused (refusals.Full limit)

-- the reply shows what the plan may give over the world of the history
pub record AnswersRun (h : History) (now : ℤ) (p : Planned) (reply : Reply) : Type 0 where
  pub outcome : Outcome
  pub given : Gives p (MayGive h) now outcome
  pub shown : Shows (columns_given p) outcome reply

abbrev pub AnswersBound : History → ℤ → Verdict Planned → Reply → Type 0
AnswersBound h now (Ok p) reply = AnswersRun h now p reply
AnswersBound h now (Err fault) reply = reply ≡ replies.Refused (refusal_by fault)

-- a query is bound over the names of the history, and its plan is run over the world of the history alone
abbrev pub AnswersQuery : History → ℤ → List ℕ → QueryTree → Reply → Type 0
AnswersQuery h now text q reply = AnswersBound h now (query_bound text (known_in h) q) reply
