use Rattle.std.proofs.Common.{◌≡◌, ℕ, take, ap, ◌∙◌, subst, sym, rules}
use Rattle.kq_lock.proofs.Beginnings.{take-IsPrefix}
use Rattle.kq_catalog_journal.specs.History.{History}
use Rattle.kq_catalog.specs.Seen.{hist}
use Rattle.kq_catalog_journal.specs.declared.limits.Limits.{Limits}
use Rattle.kq_catalog.specs.Grown.{numbers_of}
use Rattle.kq_catalog.proofs.Grown.{same_limits}
use Rattle.kq_engine.specs.declared.work.Outcome.{Outcome}
use Rattle.kq_engine.specs.Acts.{Advances}
use Rattle.kq_engine_prepare.specs.Fits.{event_by}
use Rattle.kq_engine_prepare.specs.Found.{IsReady}
use Rattle.kq_engine.specs.Acts.{WantsToFinish}
use Rattle.kq_reply.specs.declared.refusal.Refusal.TheVariants as refusals
use Rattle.kq_reply.specs.declared.reply.Reply.TheVariants as replies
use Rattle.kq_engine.proofs.Preparing.{ready_wants}
use Rattle.kq_engine.proofs.Sharing.{Finishes-step}
use Rattle.kq_engine.proofs.shared.Shared.finish.Goals as goal

pub conclude-answer-requires-clause-ready : goal.conclude-answer-requires-clause-ready
conclude-answer-requires-clause-ready g c =
    let limits = c.args.self.now.limits in
    let work = c.args.work.now in
    let pass = c.pass.inside.pass in
    let taken = c.take-catalog.result in
    let place = c.pass.inside.seen in
    let ready : IsReady limits pass.seen work.now work.command c.args.found = rw (← c.pass.view_is) at c.requires.ready in
    let fixed : numbers_of taken.limits ≡ numbers_of limits = search rules in
    let first : take place (hist taken) ≡ pass.seen = ap (λ (n : ℕ). take n (hist taken)) c.pass.invariant.1 ∙ take-IsPrefix pass.seen (hist taken) c.take-catalog.ensures.seen in
    subst (λ (l : Limits). IsReady l (take place (hist taken)) work.now work.command c.args.found) (sym (same_limits _ _ fixed))
    (subst (λ (h : History). IsReady limits h work.now work.command c.args.found) (sym first) ready)

pub give-requires-clause-begins : goal.give-requires-clause-begins
give-requires-clause-begins g c =
    let appends = c.conclude-answer.ensures.step.appends in
    rw c.take-catalog.ensures.pass (event_by c.args.work.now.by appends.made, sym appends.appended)

pub returns : goal.returns
returns g c =
    let old = c.take-catalog.result.history in
    let new = c.conclude-answer.new.catalog.history in
    let work = c.args.work.now in
    let pass = c.pass.inside.pass in
    let began = c.pass.inside.seen in
    let fixed : numbers_of c.take-catalog.result.limits ≡ numbers_of c.args.self.now.limits = search rules in
    let told = subst (λ (o : Outcome). Advances c.take-catalog.result.limits old new work began o) (sym c.told-outcome.ensures) c.conclude-answer.ensures.step in
    let step = subst (λ (l : Limits). Advances l old new work began c.told-outcome.result) (same_limits _ _ fixed) told in
    let ready : IsReady c.args.self.now.limits pass.seen work.now work.command c.args.found = rw (← c.pass.view_is) at c.requires.ready in
    let wants_to = subst (λ (o : Outcome). WantsToFinish began new work.command c.args.found o) (sym c.told-outcome.ensures) c.conclude-answer.ensures.memory in
    let takes = λ (wants : c.told-outcome.result.reply ≡ replies.Refused refusals.Memory). ready_wants c.args.self.now.limits pass.seen began (take c.told-outcome.result.place new) work.now work.command c.args.found ready (wants_to wants) in
    rw (← c.pass.view_is, c.give.ensures.pass, c.take-catalog.ensures.pass) (Finishes-step c.args.self.now.limits pass.of pass.seen old new pass.added pass.worth pass.taken work began c.told-outcome.result c.pass.invariant.1 c.take-catalog.ensures.seen step takes)
