use Rattle.std.proofs.Common.{◌≡◌, subst, arith, false}
use Rattle.kq_catalog_journal.specs.declared.limits.Limits.{Limits}
use Rattle.kq_catalog_journal.specs.History.{History}
use Rattle.kq_reply.specs.declared.refusal.Refusal.TheVariants as refusals
use Rattle.kq_reply.specs.declared.reply.Reply.TheVariants as replies
use Rattle.kq_engine_prepare.specs.Fits.{FitsNow}
use Rattle.kq_engine_interleavings.specs.Steps.{IsPrepared}
use Rattle.kq_engine_prepare.specs.Found.{TakesMemory}
use Rattle.kq_engine_interleavings.specs.Steps.{opens, tells}
use Rattle.kq_engine_interleavings.proofs.Running.{skip_begin, begin_open, begin_refused, count_by-at, same_refusal}
use Rattle.kq_engine_prepare.proofs.Telling.{refused_still}
use Rattle.kq_engine_interleavings.proofs.run.begin_one.Goals as goal

pub returns-in-Some : goal.returns-in-Some
returns-in-Some c = λ limits done run.
    let some = count_by-at (opens c.args.work.by) c.args.running.now.waiting.items c.in-Some._at (rw c.as_slice.ensures.value at c.in-Some.ensures) in
    skip_begin limits done c.args.work _ _ _ (omega (arith, some)) run

pub returns-in-Some-told_at : goal.returns-in-Some-told_at
returns-in-Some-told_at c = λ limits done run.
    let some = count_by-at (tells c.args.work.by) c.args.running.now.outcomes.items c.in-Some-told_at._at (rw c.as_slice-2.ensures.value at c.in-Some-told_at.ensures) in
    skip_begin limits done c.args.work _ _ _ (omega (arith, some)) run

pub returns-in-Ok : goal.returns-in-Ok
returns-in-Ok c = λ limits done run.
    let catalog = c.args.running.now.catalog in
    let none_open = rw c.as_slice.ensures.value at c.in_default.ensures in
    let none_told = rw c.as_slice-2.ensures.value at c.in_default-told_at.ensures in
    let begun = c.in-Ok.ensures.prepared in
    let here = subst (λ (h : History). IsPrepared catalog.limits h c.in-Ok.prepared) c.in_ok-snapshot.ensures.history (subst (λ (l : Limits). IsPrepared l c.in_ok-snapshot.snapshot.history c.in-Ok.prepared) c.in_ok-snapshot.ensures.limits begun.prepared_here) in
    rw c.in_ok-push-in-Ok.ensures.items
    (begin_open limits done c.args.work catalog c.args.running.now.waiting.items c.args.running.now.outcomes.items c.in-Ok.prepared none_open none_told begun.same_work here run)

pub returns : goal.returns
returns c = λ limits done run.
    let catalog = c.args.running.now.catalog in
    let none_open = rw c.as_slice.ensures.value at c.in_default.ensures in
    let none_told = rw c.as_slice-2.ensures.value at c.in_default-told_at.ensures in
    let reply = replies.Refused c.in-Err.refusal in
    let refused = c.in-Err.ensures.refused in
    let here = subst (λ (h : History). FitsNow catalog.limits h c.args.work.by c.args.work.command c.args.work.now false reply) c.in_ok-snapshot.ensures.history (subst (λ (l : Limits). FitsNow l c.in_ok-snapshot.snapshot.history c.args.work.by c.args.work.command c.args.work.now false reply) c.in_ok-snapshot.ensures.limits refused) in
    let takes = λ (e : reply ≡ replies.Refused refusals.Memory). subst (λ (h : History). TakesMemory h c.args.work.command) c.in_ok-snapshot.ensures.history (c.in-Err.ensures.memory (same_refusal c.in-Err.refusal refusals.Memory e)) in
    rw c.in_ok-push-in-Err.ensures.items
    (begin_refused limits done c.args.work catalog c.args.running.now.waiting.items c.args.running.now.outcomes.items c.place-began.result reply none_open none_told (cc (c.place-began.ensures, c.in_ok-snapshot.ensures.history)) here (refused_still c.in-Err.refusal) takes run)
