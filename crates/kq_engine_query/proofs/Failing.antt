-- No query is answered by a fault of artefacts.
use Rattle.std.proofs.Common.{◌≡◌, ◌≢◌, ℕ, ℤ, List, Ok, Err, ap, sym, ◌∙◌, subst}
use Rattle.kq_store_rows.specs.declared.answer.Answer.{Answer}
use Rattle.kq_bind_expressions.specs.Verdicts.{Fault, Verdict, unsupported, unknown, mistyped}
use Rattle.kq_bind_query.specs.Queries.{query_bound}
use Rattle.kq_read_grammar.specs.Trees.{QueryTree}
use Rattle.kq_catalog_journal.specs.History.{History}
use Rattle.kq_run_plan.specs.declared.outcome.Outcome.{Outcome}
use Rattle.kq_run_plan.specs.declared.outcome.Outcome.TheVariants as outcome
use Rattle.kq_plan.specs.Plans.{Planned}
use Rattle.kq_reply.specs.declared.refusal.Refusal.{Refusal}
use Rattle.kq_reply.specs.declared.refusal.Refusal.TheVariants as refusals
use Rattle.kq_reply.specs.declared.reply.Reply.{Reply}
use Rattle.kq_reply.specs.declared.reply.Reply.TheVariants as replies
use Rattle.kq_value.specs.declared.schema.Field.{Field}
use Rattle.kq_engine_query.specs.Answers.{AnswersBound, AnswersQuery, Shows, columns_given, refusal_by}
use Rattle.kq_engine_query.specs.Printed.{PrintsAnswer}
use Rattle.kq_engine_query.specs.Worlds.{known_in}

-- the reply isn't that the artefacts failed
abbrev pub TellsNone : Reply → Type 0
TellsNone reply = reply ≢ replies.Refused refusals.ArtefactFault

abbrev pub IsOther : Refusal → Type 0
IsOther r = r ≢ refusals.ArtefactFault

same_refusal : (r q : Refusal) → replies.Refused r ≡ replies.Refused q → r ≡ q
same_refusal r q e = cc

pub other_refused : (r : Refusal) → IsOther r → TellsNone (replies.Refused r)
other_refused r other = λ e. other (same_refusal r refusals.ArtefactFault e)

pub none_by : (reply other : Reply) → reply ≡ other → TellsNone other → TellsNone reply
none_by reply other is none = subst TellsNone (sym is) none

pub bind_other : (fault : Fault) → IsOther (refusal_by fault)
bind_other (unsupported at) = λ e. cc
bind_other (unknown at) = λ e. cc
bind_other (mistyped at) = λ e. cc

pub printed_none : (IsSo : Answer → Type 0) (reply : Reply) → PrintsAnswer IsSo reply → TellsNone reply
printed_none IsSo reply prints = none_by reply (replies.Rows prints.text) prints.is (λ e. cc)

shown_none : (columns : List Field) (o : Outcome) (reply : Reply) → Shows columns o reply → TellsNone reply
shown_none columns (outcome.Table ordered rows) reply shows = printed_none _ reply shows
shown_none columns (outcome.Cell v) reply shows = absurd shows
shown_none columns (outcome.Overflow stage) reply shows = none_by reply (replies.Refused (refusals.Overflow stage)) shows (λ e. cc)
shown_none columns (outcome.Full limit) reply shows = none_by reply (replies.Refused (refusals.Full limit)) shows (λ e. cc)

bound_none : (h : History) (now : ℤ) (v : Verdict Planned) (reply : Reply) → AnswersBound h now v reply → TellsNone reply
bound_none h now (Ok p) reply answers = shown_none (columns_given p) answers.outcome reply answers.shown
bound_none h now (Err fault) reply answers = none_by reply (replies.Refused (refusal_by fault)) answers (other_refused (refusal_by fault) (bind_other fault))

-- nor is any query, whatever the history
pub query_none : (h : History) (now : ℤ) (text : List ℕ) (q : QueryTree) (reply : Reply) → AnswersQuery h now text q reply → TellsNone reply
query_none h now text q reply answers = bound_none h now (query_bound text (known_in h) q) reply answers
