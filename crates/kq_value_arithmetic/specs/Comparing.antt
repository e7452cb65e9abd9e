-- What the comparisons give.
use Rattle.std.specs.Prelude.{Bool, not, ◌||◌, ◌&&◌, if◌then◌else◌}
use Rattle.std.specs.declared.cmp.Ordering.{Ordering}
use Rattle.std.specs.Ordering.{is_lt, is_le, is_gt, is_ge}
use Rattle.kq_value.specs.Typed.{is_null}
use Rattle.kq_value.specs.Values.{value_cmp, is_same}
use Rattle.kq_value.specs.declared.dynamic.Dyn.TheVariants as dyn
use Rattle.kq_value.specs.declared.ty.Ty.TheVariants as ty
use Rattle.kq_value.specs.declared.value.Value.{Value}
use Rattle.kq_value.specs.declared.value.Value.TheVariants.{Null, Long, Text, Bool as Truth, Dynamic}

-- by the order of values, and false beside a null
abbrev pub compared : (Ordering → Bool) → Value → Value → Value
compared test a b = Truth (not (is_null a || is_null b) && test (value_cmp a b))

-- KQL reference, 'Numerical operators': <, <=, > and >=
abbrev pub less : Value → Value → Value
less = compared is_lt

abbrev pub at_most : Value → Value → Value
at_most = compared is_le

abbrev pub greater : Value → Value → Value
greater = compared is_gt

abbrev pub at_least : Value → Value → Value
at_least = compared is_ge

-- a dynamic that holds a long, a string or a bool, as that value
abbrev pub held : Value → Value
held (Dynamic (dyn.Long z)) = Long z
held (Dynamic (dyn.Text bs)) = Text bs
held (Dynamic (dyn.Bool b)) = Truth b
held v = v

-- the same value, also where a dynamic holds it
abbrev pub are_same : Value → Value → Bool
are_same a b = is_same (held a) (held b)

-- KQL reference, 'Numerical operators', 'String operators' and 'Dynamic': ==, which is null for two nulls and false for one, and finds a scalar in a
-- dynamic
abbrev pub equal : Value → Value → Value
equal a b = if is_null a && is_null b then Null ty.Bool else Truth (not (is_null a || is_null b) && are_same a b)

-- the same: !=
abbrev pub unequal : Value → Value → Value
unequal a b = if is_null a && is_null b then Null ty.Bool else Truth (is_null a || is_null b || not (are_same a b))
