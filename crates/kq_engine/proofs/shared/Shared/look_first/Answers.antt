use Rattle.std.proofs.Common.{ℤ, ◌≡◌, subst, IfErr, IfOk, rules, w64, to_z, of_z}
use Rattle.std.proofs.lemmas.Int.{to_z-of_z}
use Rattle.kq_catalog_journal.specs.declared.limits.Limits.{Limits}
use Rattle.kq_catalog.specs.Grown.{numbers_of}
use Rattle.kq_catalog.specs.Seen.{hist}
use Rattle.kq_catalog.proofs.Grown.{same_limits}
use Rattle.kq_lock.proofs.Beginnings.{IsPrefix-refl}
use Rattle.kq_engine_prepare.specs.Fits.{AnswersCommand}
use Rattle.kq_engine_prepare.specs.Found.{IsLooked}
use Rattle.kq_reply.specs.declared.reply.Reply.TheVariants as replies
use Rattle.kq_engine.proofs.shared.Shared.look_first.Goals as goal

pub returns-clause-looked : goal.returns-clause-looked
returns-clause-looked g c =
    let taken = c.take-catalog.result in
    let work = c.args.work.now in
    let same : to_z w64 (of_z w64 work.now) ≡ work.now = search (rules, to_z-of_z) in
    let fixed : numbers_of taken.limits ≡ numbers_of c.args.self.now.limits = search rules in
    rw c.give.ensures.pass (subst (λ (l : Limits). IfOk c.first_look-looked.result (IsLooked l (hist taken) work.now work.command)) (same_limits taken.limits c.args.self.now.limits fixed)
    (subst (λ (t : ℤ). IfOk c.first_look-looked.result (IsLooked taken.limits (hist taken) t work.command)) same c.first_look-looked.ensures.looked))

pub returns-clause-refused : goal.returns-clause-refused
returns-clause-refused g c =
    let taken = c.take-catalog.result in
    let work = c.args.work.now in
    let same : to_z w64 (of_z w64 work.now) ≡ work.now = search (rules, to_z-of_z) in
    let fixed : numbers_of taken.limits ≡ numbers_of c.args.self.now.limits = search rules in
    rw c.give.ensures.pass
    (subst (λ (l : Limits). IfErr c.first_look-looked.result (λ r. AnswersCommand l (hist taken) work.now work.command (replies.Refused r))) (same_limits taken.limits c.args.self.now.limits fixed)
    (subst (λ (t : ℤ). IfErr c.first_look-looked.result (λ r. AnswersCommand taken.limits (hist taken) t work.command (replies.Refused r))) same c.first_look-looked.ensures.refused))

pub give-requires-clause-begins : goal.give-requires-clause-begins
give-requires-clause-begins g c = rw c.take-catalog.ensures.pass (IsPrefix-refl (hist c.take-catalog.result))
