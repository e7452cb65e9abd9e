-- The two orders of bytes.
use Rattle.std.proofs.Common.{◌≡◌, ◌<◌, ℕ, sym, arith}
use Rattle.std.specs.Ordering.{MatchOrdering}
use Rattle.std.specs.declared.cmp.Ordering.{Ordering}
use Rattle.std.specs.declared.cmp.Ordering.TheVariants.{Less, Equal, Greater}
use Rattle.kq_value_strings.specs.declared.suffix.Order.{Order}
use Rattle.kq_value_strings.specs.declared.suffix.Order.TheVariants.{Rising, Falling}
use Rattle.kq_value_strings.specs.Suffixes.{Precedes}

pub Precedes-trans : (order : Order) (a b c : ℕ) → Precedes order a b → Precedes order b c → Precedes order a c
Precedes-trans Rising a b c p q = omega arith
Precedes-trans Falling a b c p q = omega arith

pub Precedes-irrefl : (order : Order) (a : ℕ) → Precedes order a a → ⊥
Precedes-irrefl Rising a p = omega arith
Precedes-irrefl Falling a p = omega arith

pub turned : (a b : ℕ) (r : Ordering) → MatchOrdering r (b < a) (b ≡ a) (a < b) → MatchOrdering r (b < a) (a ≡ b) (a < b)
turned a b Less h = h
turned a b Equal h = sym h
turned a b Greater h = h
