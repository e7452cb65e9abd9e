use Rattle.std.proofs.Common.{◌≡◌, arith, subst, to_z, of_z, w64}
use Rattle.std.specs.Prelude.{SomeIff, int_div}
use Rattle.std.specs.Int.{CanDivide}
use Rattle.std.proofs.lemmas.Int.{ints}
use Rattle.kq_value_arithmetic.proofs.Checked.{divides}
use Rattle.kq_value_arithmetic.proofs.numbers.checked_quotient.Goals as goal

pub returns : goal.returns
returns c =
    let m : to_z w64 (of_z w64 c.args.m) ≡ c.args.m = omega (arith, ints, c.ranges.m) in
    let n : to_z w64 (of_z w64 c.args.n) ≡ c.args.n = omega (arith, ints, c.ranges.n) in
    let h = subst (λ x. SomeIff c.checked_div.result (CanDivide w64 x (to_z w64 (of_z w64 c.args.n))) (int_div x (to_z w64 (of_z w64 c.args.n)))) m c.checked_div.ensures in
    divides c.checked_div.result c.args.m c.args.n c.requires (subst (λ x. SomeIff c.checked_div.result (CanDivide w64 c.args.m x) (int_div c.args.m x)) n h)
