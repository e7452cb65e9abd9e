use Rattle.std.proofs.Common.{◌≡◌, pos, neg_ℤ, arith, subst, to_z, of_z, w64}
use Rattle.std.specs.Prelude.{SomeIff, FitsSigned, unsigned_abs}
use Rattle.std.proofs.lemmas.Int.{ints}
use Rattle.kq_value_arithmetic.proofs.Checked.{distances}
use Rattle.kq_value_arithmetic.proofs.numbers.checked_distance.Goals as goal

pub returns : goal.returns
returns c =
    let z : to_z w64 (of_z w64 c.args.z) ≡ c.args.z = omega (arith, ints, c.ranges.z) in
    distances c.checked_abs.result c.args.z c.ranges.z (subst (λ x. SomeIff c.checked_abs.result (FitsSigned w64 (neg_ℤ x)) (pos (unsigned_abs x))) z c.checked_abs.ensures)
