-- What a call on the catalogue does.
use Rattle.std.proofs.Common.{◌≡◌, ◌≤◌, ◌+◌, ℕ, Bool, true, false, inl, inr, [], ◌∷◌, ◌++◌, length, take, refl, sym, subst}
use Rattle.kq_catalog_journal.specs.declared.event.Commit.{Commit}
use Rattle.kq_catalog_journal.specs.declared.event.Operation.TheVariants as operation
use Rattle.kq_catalog_journal.specs.declared.limits.Limits.{Limits}
use Rattle.kq_catalog_journal.specs.History.{History, cursor, log}
use Rattle.kq_reply.specs.declared.reply.Reply.{Reply}
use Rattle.kq_engine.specs.declared.work.Outcome.{Outcome}
use Rattle.kq_engine.specs.declared.work.Work.{Work}
use Rattle.kq_engine_prepare.specs.Due.{reply_to}
use Rattle.kq_engine.specs.Acts.{Acts, Did}
use Rattle.kq_engine_prepare.specs.Fits.{AnswersCommand, Makes}
use Rattle.kq_engine_prepare.specs.Found.{IsCommitDue}
use Rattle.kq_engine_prepare.specs.Merges.{IsSettled}
use Rattle.kq_engine_prepare.proofs.Telling.{NamesAll-since, cursor_earlier, cursor_take, settled_less}

-- the commit that is due was appended
pub Acts-commit : (limits : Limits) (old new : History) (work : Work) (began : ℕ) (c : Commit) (place : ℕ) (reply : Reply) → IsCommitDue limits (log old) work.command c → new ≡ old ++ record { by = work.by; operation = operation.Commit c } ∷ [] → place ≡ length new → reply ≡ reply_to c (cursor old + 1)
    → Acts limits old new work began (record { place = place; own = true; reply = reply })
Acts-commit limits old new work began c place reply due added at is = (at, (c, added, subst (λ (r : Reply). Makes limits (log old) work.command r c) (sym is) due))

-- nothing was appended
pub Acts-answer : (limits : Limits) (h : History) (work : Work) (began : ℕ) (place : ℕ) (reply : Reply) → place ≡ length h → AnswersCommand limits h work.now work.command reply → IsSettled (cursor h) reply → Acts limits h h work began (record { place = place; own = false; reply = reply })
Acts-answer limits h work began place reply at answers settled = (at, inl (refl, answers, settled_less (cursor (take began h)) (cursor h) reply (cursor_take began h) settled))

did_since : (limits : Limits) (old new : History) (work : Work) (began later : ℕ) (own : Bool) (reply : Reply) → began ≤ later → Did limits old new work later own reply → Did limits old new work began own reply
did_since limits old new work began later true reply before did = did
did_since limits old new work began later false reply before (inl stays) = inl (stays.0, stays.1, settled_less (cursor (take began old)) (cursor (take later old)) reply (cursor_earlier began later old before) stays.2)
did_since limits old new work began later false reply before (inr t) = inr (record { made = t.made; tends = t.tends; granted = t.granted; answers = t.answers; names_all = NamesAll-since new began later reply before t.names_all; appended = t.appended })

-- what was picked later was picked since the work began
pub Acts-since : (limits : Limits) (old new : History) (work : Work) (began later : ℕ) (outcome : Outcome) → began ≤ later → Acts limits old new work later outcome → Acts limits old new work began outcome
Acts-since limits old new work began later outcome before acts = (acts.0, did_since limits old new work began later outcome.own outcome.reply before acts.1)
