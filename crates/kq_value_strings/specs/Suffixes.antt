-- The orders of bytes by which a suffix is the greatest.
use Rattle.std.specs.Prelude.{ℕ, ◌<◌}
use Rattle.kq_value_strings.specs.declared.suffix.Order.{Order}
use Rattle.kq_value_strings.specs.declared.suffix.Order.TheVariants.{Rising, Falling}

abbrev pub Precedes : Order → ℕ → ℕ → Type 0
Precedes Rising a b = a < b
Precedes Falling a b = b < a
