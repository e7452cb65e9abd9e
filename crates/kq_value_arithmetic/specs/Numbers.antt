-- The numbers in values, and numbers as values of types.
use Rattle.std.specs.Prelude.{ℤ, if◌then◌else◌, Option, Some, None, option_and_then}
use Rattle.kq_value.specs.Computed.{Computed, Is, Overflow}
use Rattle.kq_value.specs.Typed.{type_of}
use Rattle.kq_value.specs.declared.ty.Ty.{Ty}
use Rattle.kq_value.specs.declared.ty.Ty.TheVariants as ty
use Rattle.kq_value.specs.declared.value.Value.{Value}
use Rattle.kq_value.specs.declared.value.Value.TheVariants.{Null, Long, Int, Moment, Span}
use Rattle.kq_value_formats.specs.Datetimes.{is_moment}
use Rattle.kq_value_formats.specs.Numerals.{is_int, is_long}

-- the number of a long or an int, or the ticks of a datetime or a timespan
abbrev pub number_of : Value → Option ℤ
number_of (Long z) = Some z
number_of (Int z) = Some z
number_of (Moment z) = Some z
number_of (Span z) = Some z
number_of v = None

-- a number as a value of a type, or an overflow outside the type
abbrev pub number_in : Ty → ℤ → Computed Value
number_in ty.Long z = if is_long z then Is (Long z) else Overflow
number_in ty.Int z = if is_int z then Is (Int z) else Overflow
number_in ty.Moment z = if is_moment z then Is (Moment z) else Overflow
number_in ty.Span z = if is_long z then Is (Span z) else Overflow
number_in t z = Is (Null t)

-- the same, and the null of the type where there is no number
abbrev pub value_in : Ty → Option ℤ → Computed Value
value_in t None = Is (Null t)
value_in t (Some z) = number_in t z

-- an operator on the numbers of two values, where both have one
abbrev pub of_both : (ℤ → ℤ → Option ℤ) → Value → Value → Option ℤ
of_both operator a b = option_and_then (λ m. option_and_then (λ n. operator m n) (number_of b)) (number_of a)

-- the value of an operator whose result's type comes of the types of both
abbrev pub operated : (Ty → Ty → Ty) → (ℤ → ℤ → Option ℤ) → Value → Value → Computed Value
operated typing operator a b = value_in (typing (type_of a) (type_of b)) (of_both operator a b)
