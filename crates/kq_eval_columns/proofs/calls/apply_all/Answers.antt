use Rattle.std.proofs.Common.{◌≡◌, ◌∷◌, [], map, length, arith, subst, rules, w64, FitsSigned}
use Rattle.std.proofs.lemmas.Int.{to_z-of_z}
use Rattle.std.specs.Prelude.{IfSome}
use Rattle.kq_value.specs.Computed.{Is}
use Rattle.kq_eval_kernels.specs.Pairs.{each_two}
use Rattle.kq_eval_row.specs.Applied.{applied}
use Rattle.kq_store_column_view.specs.Vectors.{cells_of}
use Rattle.kq_eval_columns.specs.Seen.{paired}
use Rattle.kq_eval_columns.proofs.Pairing.{decided, decided_alone, one_of, two_of}
use Rattle.kq_eval_columns.proofs.calls.apply_all.Goals as goal

pub returns-in-Some : goal.returns-in-Some
returns-in-Some c =
    let a = c.a-item.result in
    let n = c.args.count in
    let one = one_of c.args.vectors.now a (omega arith) (omega arith) c.a-item.is in
    let h : length (cells_of a) ≡ n = omega arith in
    let fn : FitsSigned w64 c.args.piece.now = search rules in
    let gives = subst (λ o. IfSome o (λ v. map (λ x. applied c.args.function c.args.piece.now (x ∷ [])) (cells_of a) ≡ map Is (cells_of v))) c.in-Some.is (simp to_z-of_z at c.in_ok-values-in-len1.ensures) in
    decided_alone c.args.function c.args.piece.now c.args.vectors.now a n (cells_of c.in-Some.values) one h gives

pub returns-in-Some-2 : goal.returns-in-Some-2
returns-in-Some-2 c =
    let a = c.a-item-then-vectors-lt3.result in
    let b = c.b-item.result in
    let n = c.args.count in
    let both = two_of c.args.vectors.now a b (omega arith) (omega arith) c.a-item-then-vectors-lt3.is c.b-item.is in
    let h : length (cells_of a) ≡ n = omega arith in
    let k : length (cells_of b) ≡ n = omega arith in
    let gives = subst (λ o. IfSome o (λ v. each_two (paired c.args.function) (cells_of a) (cells_of b) ≡ Is (cells_of v))) c.in-Some-2.is c.in_ok-values-in-len2.ensures in
    decided c.args.function c.args.piece.now c.args.vectors.now a b n (cells_of c.in-Some-2.values) both h k gives
