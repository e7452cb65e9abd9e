-- What the arithmetic operators give: the exact number, or an overflow where it is outside the result's type.
-- Beside a null it is the null of that type, and so it is beside a value that isn't a number.
use Rattle.std.specs.Prelude.{zero, ℤ, pos, neg_ℤ, ◌+ℤ◌, ◌-ℤ◌, ◌*ℤ◌, int_div, int_le, unsigned_abs, if◌then◌else◌, Option, Some, None, option_map}
use Rattle.std.specs.Int.{int_rem_euclid}
use Rattle.kq_value.specs.Computed.{Computed}
use Rattle.kq_value.specs.Typed.{type_of}
use Rattle.kq_value.specs.declared.ty.Ty.{Ty}
use Rattle.kq_value.specs.declared.ty.Ty.TheVariants.{Moment, Span}
use Rattle.kq_value.specs.declared.value.Value.{Value}
use Rattle.kq_value_formats.specs.Ticks.{floor_to}
use Rattle.kq_value_arithmetic.specs.Numbers.{number_of, value_in, operated}

-- the type of what is added to: a datetime, where there is one
abbrev pub sum_type : Ty → Ty → Ty
sum_type a Moment = Moment
sum_type a b = a

-- a datetime taken from a datetime leaves a timespan
abbrev pub difference_type : Ty → Ty → Ty
difference_type a Moment = Span
difference_type a b = a

-- a number of timespans is a timespan
abbrev pub product_type : Ty → Ty → Ty
product_type a Span = Span
product_type a b = a

-- what is divided keeps its type
abbrev pub divided_type : Ty → Ty → Ty
divided_type a b = a

-- the quotient, truncated towards zero; none where the divisor is 0
abbrev pub quotient : ℤ → ℤ → Option ℤ
quotient m (pos zero) = None
quotient m n = Some (int_div m n)

-- the r with 0 <= r < abs(n) for which m - r is a multiple of n; none where n is 0
abbrev pub modulus : ℤ → ℤ → Option ℤ
modulus m (pos zero) = None
modulus m n = Some (int_rem_euclid m n)

-- the greatest multiple of the step at or below x; none where the step is 0 or less
abbrev pub floor : ℤ → ℤ → Option ℤ
floor x step = if int_le step (pos 0) then None else Some (floor_to step x)

-- KQL reference, 'Numerical operators' and 'Datetime / timespan arithmetic': +
abbrev pub plus : Value → Value → Computed Value
plus = operated sum_type (λ m n. Some (m +ℤ n))

-- the same: -
abbrev pub minus : Value → Value → Computed Value
minus = operated difference_type (λ m n. Some (m -ℤ n))

-- the same: *
abbrev pub times : Value → Value → Computed Value
times = operated product_type (λ m n. Some (m *ℤ n))

-- the same: /
abbrev pub divided : Value → Value → Computed Value
divided = operated divided_type quotient

-- the same: %
abbrev pub remainder : Value → Value → Computed Value
remainder = operated divided_type modulus

-- KQL reference, bin() and floor()
abbrev pub bin_of : Value → Value → Computed Value
bin_of = operated divided_type floor

-- KQL reference, 'Numerical operators': the sign -
abbrev pub negated : Value → Computed Value
negated v = value_in (type_of v) (option_map neg_ℤ (number_of v))

-- KQL reference, abs()
abbrev pub absolute : Value → Computed Value
absolute v = value_in (type_of v) (option_map (λ z. pos (unsigned_abs z)) (number_of v))
