use Rattle.std.proofs.Common.{◌≡◌, ◌∙◌, ℤ, List, Vec, Global, FitsSigned, ap, arith, rules, subst, sym, to_z, w64}
use Rattle.std.proofs.lemmas.Int.{to_z-of_z}
use Rattle.std.proofs.lemmas.List.{take_all}
use Rattle.kq_run_groups.specs.Columns.{SameCodes, code_of}
use Rattle.kq_run_groups.proofs.Columns.{same_more}
use Rattle.kq_run_groups.proofs.codes.are_same.Goals as goal

pub loop-one-preserved : goal.loop-one-preserved
loop-one-preserved c =
    let a = c.code_at.result in
    let b = c.code_at-in-loop-one.result in
    let fa : FitsSigned w64 a = search rules in
    let fb : FitsSigned w64 b = search rules in
    let same : a ≡ b = sym (to_z-of_z w64 a fa) ∙ ap (to_z w64) c.if-code_at.false ∙ to_z-of_z w64 b fb in
    same_more c.args.p c.args.q c.args.codes.now c.loop-one.one-index c.one-item.result c.loop-one-test.true c.one-item.is
    (sym (ap (λ (codes : List ℤ). code_of codes c.args.p) c.as_slice.ensures.value) ∙ sym c.code_at.ensures ∙ same ∙ c.code_at-in-loop-one.ensures ∙ ap (λ (codes : List ℤ). code_of codes c.args.q) c.as_slice-in-loop-one.ensures.value) c.loop-one.invariant

pub returns : goal.returns
returns c = λ _. subst (λ (codes : List (Vec ℤ Global)). SameCodes c.args.p c.args.q codes) (take_all c.loop-one.one-index c.args.codes.now (omega arith)) c.loop-one.invariant
