use Rattle.std.proofs.Common.{◌≡◌, ◌<◌, ℕ, pos, false, length, get_or, arith, ◌∙◌, rules, w64, FitsSigned}
use Rattle.std.proofs.lemmas.Int.{to_z-of_z}
use Rattle.kq_value.specs.declared.value.Value.TheVariants.{Long, Bool as Truth}
use Rattle.kq_eval_kernels.specs.Numbers.{of_kind}
use Rattle.kq_eval_kernels.proofs.Loops.{told_of_all}
use Rattle.kq_eval_kernels.proofs.beside.tests_beside.Goals as goal

pub returns : goal.returns
returns g c =
    let kind = c.args.kind in
    let numbers = c.args.numbers.now in
    let fo : FitsSigned w64 c.args.other = search rules in
    let told : (k : ℕ) → k < length numbers → g.T.LongTest.test (of_kind kind (get_or numbers k (pos 0))) (of_kind kind c.args.other) ≡ Truth (get_or c.loop-i.truths.items k false) =
    λ k l.
    let p : g.T.LongTest.test (Long (get_or numbers k (pos 0))) (Long c.args.other) ≡ Truth (get_or c.loop-i.truths.items k false) = simp to_z-of_z at c.loop-i.invariant.1 k (omega arith) in
    g.met.T.LongTest.kinds kind (get_or numbers k (pos 0)) c.args.other ∙ p in
    told_of_all (λ z. g.T.LongTest.test (of_kind kind z) (of_kind kind c.args.other)) numbers c.loop-i.truths.items (pos 0) c.loop-i.invariant.0 told
