-- Sameness doesn't look at the order of its sides.
use Rattle.std.proofs.Common.{◌≡◌, Bool, true, false, refl, sym}
use Rattle.kq_value.specs.Values.{is_same}
use Rattle.kq_value.specs.declared.value.Value.{Value}
use Rattle.kq_value.proofs.Equals.{is_same-Decides}
use Rattle.kq_value_arithmetic.specs.Comparing.{held, are_same}

same_tests : (b c : Bool) → (b ≡ true → c ≡ true) → (c ≡ true → b ≡ true) → b ≡ c
same_tests true true f g = refl
same_tests true false f g = sym (f refl)
same_tests false true f g = g refl
same_tests false false f g = refl

turned : (v w : Value) → is_same v w ≡ true → is_same w v ≡ true
turned v w h = (is_same-Decides w v).1 (sym ((is_same-Decides v w).0 h))

pub are_same_turned : (a b : Value) → are_same a b ≡ are_same b a
are_same_turned a b = same_tests (are_same a b) (are_same b a) (turned (held a) (held b)) (turned (held b) (held a))
