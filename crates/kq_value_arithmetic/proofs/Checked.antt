-- What checked operations on numbers give.
use Rattle.std.proofs.Common.{zero, suc, ℤ, pos, negsuc, neg_ℤ, Option, Some, None, FitsSigned, arith, w64}
use Rattle.std.specs.Prelude.{SomeIff, int_div, unsigned_abs}
use Rattle.std.specs.Int.{CanDivide, IsNonZero}

pub divides : (o : Option ℤ) (m n : ℤ) → IsNonZero w64 n → SomeIff o (CanDivide w64 m n) (int_div m n) → SomeIff o (FitsSigned w64 (int_div m n)) (int_div m n)
divides None m n some h = λ f. h (some, f)
divides (Some x) m n some h = (h.0.1, h.1)

-- minus z fits exactly where the distance of z does
to_distance : (z : ℤ) → FitsSigned w64 z → FitsSigned w64 (neg_ℤ z) → FitsSigned w64 (pos (unsigned_abs z))
to_distance (pos n) f g = f
to_distance (negsuc n) f g = g

from_distance : (z : ℤ) → FitsSigned w64 z → FitsSigned w64 (pos (unsigned_abs z)) → FitsSigned w64 (neg_ℤ z)
from_distance (pos zero) f g = f
from_distance (pos (suc n)) f g = omega (arith, g)
from_distance (negsuc n) f g = g

pub distances : (o : Option ℤ) (z : ℤ) → FitsSigned w64 z → SomeIff o (FitsSigned w64 (neg_ℤ z)) (pos (unsigned_abs z)) → SomeIff o (FitsSigned w64 (pos (unsigned_abs z))) (pos (unsigned_abs z))
distances None z f h = λ g. h (from_distance z f g)
distances (Some x) z f h = (to_distance z f h.0, h.1)
