use Rattle.std.proofs.Common.{◌≡◌, ◌⊎◌, inl, inr, ℤ, List, ℕ, Result, Ok, Err, IfErr, IfOk, ap, rules, subst, w64, to_z, of_z}
use Rattle.std.proofs.lemmas.Int.{to_z-of_z}
use Rattle.kq_reply.specs.declared.refusal.Refusal.{Refusal}
use Rattle.kq_reply.specs.declared.refusal.Refusal.TheVariants as refusals
use Rattle.kq_reply.specs.declared.reply.Reply.{Reply}
use Rattle.kq_reply.specs.declared.reply.Reply.TheVariants as replies
use Rattle.kq_read_grammar.specs.TabularViews.{query_of}
use Rattle.kq_engine_query.specs.Answers.{AnswersQuery, RefusesBy}
use Rattle.kq_engine_prepare.proofs.query.answer.Goals as goal

pub returns-clause-answer : goal.returns-clause-answer
returns-clause-answer g c =
    let same : to_z w64 (of_z w64 c.args.now) ≡ c.args.now = search (rules, to_z-of_z) in
    let h = c.args.snapshot.now.history in
    let q = query_of c.args.query.now.tree in
    subst (λ (z : ℤ). IfOk c.answer.result (AnswersQuery h z c.args.query.now.text q)) same
    (subst (λ (text : List ℕ). IfOk c.answer.result (AnswersQuery h (to_z w64 (of_z w64 c.args.now)) text q)) c.as_str.ensures c.answer.ensures.answer)

-- the refusal as a reply
refused_as : (IsIt : Reply → Type 0) (r : Result Reply Refusal) → IfErr r (RefusesBy IsIt) → IfErr r (λ x. (replies.Refused x ≡ replies.Refused refusals.Memory) ⊎ IsIt (replies.Refused x))
refused_as IsIt (Ok reply) is = is
refused_as IsIt (Err x) (inl e) = inl (ap replies.Refused e)
refused_as IsIt (Err x) (inr is) = inr is

pub returns-clause-refused : goal.returns-clause-refused
returns-clause-refused g c =
    let same : to_z w64 (of_z w64 c.args.now) ≡ c.args.now = search (rules, to_z-of_z) in
    let h = c.args.snapshot.now.history in
    let q = query_of c.args.query.now.tree in
    refused_as (AnswersQuery h c.args.now c.args.query.now.text q) c.answer.result
    (subst (λ (z : ℤ). IfErr c.answer.result (RefusesBy (AnswersQuery h z c.args.query.now.text q))) same
    (subst (λ (text : List ℕ). IfErr c.answer.result (RefusesBy (AnswersQuery h (to_z w64 (of_z w64 c.args.now)) text q))) c.as_str.ensures c.answer.ensures.refused))
