-- Each conversion, test and part gives a proper value of its type.
use Rattle.std.proofs.Common.{◌≡◌, ℕ, ◌*◌, ℤ, ◌+ℤ◌, ◌-ℤ◌, Bool, true, false, cond, List, [], ◌∷◌, take, drop, Some, None, Option, pos, refl, ap, arith}
use Rattle.std.specs.Option.{option_and_then, option_map, unwrap_or}
use Rattle.std.proofs.lemmas.Bool.Decides.{nat_tests}
use Rattle.kq_value_formats.specs.Cells.{trimmed, is_blank, text_of}
use Rattle.kq_value_formats.specs.Civil.{days_of_year_0}
use Rattle.kq_value_formats.specs.Conversions.{to_long, to_int, to_bool, to_datetime, to_timespan}
use Rattle.kq_value_formats.specs.Datetimes.{after_date, date_days, datetime_of, is_moment, ticks_per_day}
use Rattle.kq_value_formats.specs.Members.{array_length}
use Rattle.kq_value.specs.Seen.{tree_of}
use Rattle.kq_value.specs.Typed.{HasType, IsProper, IsMoment}
use Rattle.kq_value.specs.declared.ty.Ty.{Ty}
use Rattle.kq_value.specs.declared.ty.Ty.TheVariants as ty
use Rattle.kq_value.specs.declared.dynamic.Dyn.TheVariants as dyn
use Rattle.kq_value.specs.declared.value.Value.{Value}
use Rattle.kq_value.specs.declared.value.Value.TheVariants.{Null, Text, Long, Int, Bool as Truth, Moment, Span, Dynamic}
use Rattle.kq_value_conversions.specs.Converted.{in_range, printed, as_text, as_long, as_int, as_bool, as_moment, as_span, as_dynamic, null_test, not_null_test, empty_test, not_empty_test}
use Rattle.kq_value_conversions.specs.Parts.{member_of, array_length_of, sorted_of, keys_of}

-- what was read, or a null of the type
or_null-typed : {A : Type 0} (made : A → Value) (t : Ty) (o : Option A) → ((a : A) → o ≡ Some a → HasType t (made a)) → HasType t (Null t) → HasType t (unwrap_or (option_map made o) (Null t))
or_null-typed made t (Some a) some none = some a refl
or_null-typed made t None some none = none

pub as_text-typed : (v : Value) → HasType ty.Text (as_text v)
as_text-typed v = (refl, tt)

pub as_long-typed : (v : Value) → HasType ty.Long (as_long v)
as_long-typed v = or_null-typed Long ty.Long (to_long v) (λ z e. (refl, tt)) (refl, ((λ e. cc), (λ e. cc)))

pub as_int-typed : (v : Value) → HasType ty.Int (as_int v)
as_int-typed v = or_null-typed Int ty.Int (to_int v) (λ z e. (refl, tt)) (refl, ((λ e. cc), (λ e. cc)))

pub as_bool-typed : (v : Value) → HasType ty.Bool (as_bool v)
as_bool-typed v = or_null-typed Truth ty.Bool (to_bool v) (λ b e. (refl, tt)) (refl, ((λ e. cc), (λ e. cc)))

pub as_span-typed : (v : Value) → HasType ty.Span (as_span v)
as_span-typed v = or_null-typed Span ty.Span (to_timespan v) (λ z e. (refl, tt)) (refl, ((λ e. cc), (λ e. cc)))

passes : (b : Bool) (y z : ℤ) → is_moment y ≡ b → cond b (Some y) None ≡ Some z → is_moment z ≡ true
passes true y z e h = let same : y ≡ z = cc in rw (← same) e
passes false y z e h = absurd (cc)

within : (days : Option ℕ) (ticks : Option ℤ) (f : ℕ → ℤ → ℤ) (z : ℤ)
    → option_and_then (λ d. option_and_then (λ t. cond (is_moment (f d t)) (Some (f d t)) None) ticks) days ≡ Some z → is_moment z ≡ true
within None ticks f z h = absurd (cc)
within (Some d) None f z h = absurd (cc)
within (Some d) (Some t) f z h = passes (is_moment (f d t)) (f d t) z refl h

is_moment-true : (z : ℤ) → is_moment z ≡ true → IsMoment z
is_moment-true z h = grind (arith, nat_tests)

-- what is read as a datetime is in range
pub datetime_of-in_range : (text : List ℕ) (z : ℤ) → datetime_of text ≡ Some z → IsMoment z
unfolding datetime_of
datetime_of-in_range text z h =
    is_moment-true z (within (date_days (take 10 text)) (after_date (drop 10 text)) (λ d t. (pos (d * ticks_per_day) -ℤ pos (days_of_year_0 * ticks_per_day)) +ℤ t) z h)

to_datetime-in_range : (v : Value) (z : ℤ) → IsProper v → to_datetime v ≡ Some z → IsMoment z
to_datetime-in_range (Text text) z p h = datetime_of-in_range (trimmed is_blank text) z h
to_datetime-in_range (Moment y) z p h = let same : y ≡ z = cc in rw (← same) p
to_datetime-in_range (Dynamic (dyn.Text text)) z p h = datetime_of-in_range (trimmed is_blank text) z h
to_datetime-in_range v z p h = absurd (cc)

pub as_moment-typed : (v : Value) → IsProper v → HasType ty.Moment (as_moment v)
as_moment-typed v p = or_null-typed Moment ty.Moment (to_datetime v) (λ z e. (refl, to_datetime-in_range v z p e)) (refl, ((λ e. cc), (λ e. cc)))

pub as_dynamic-typed : (v : Value) → HasType ty.Dynamic (as_dynamic v)
as_dynamic-typed v = (refl, tt)

pub null_test-typed : (v : Value) → HasType ty.Bool (null_test v)
null_test-typed v = (refl, tt)

pub not_null_test-typed : (v : Value) → HasType ty.Bool (not_null_test v)
not_null_test-typed v = (refl, tt)

pub empty_test-typed : (v : Value) → HasType ty.Bool (empty_test v)
empty_test-typed (Text []) = (refl, tt)
empty_test-typed (Text (b ∷ bs)) = (refl, tt)
empty_test-typed v = (refl, tt)

pub not_empty_test-typed : (v : Value) → HasType ty.Bool (not_empty_test v)
not_empty_test-typed (Text []) = (refl, tt)
not_empty_test-typed (Text (b ∷ bs)) = (refl, tt)
not_empty_test-typed v = (refl, tt)

pub member_of-typed : (v w : Value) → HasType ty.Dynamic (member_of v w)
member_of-typed (Dynamic d) (Text key) = (refl, tt)
member_of-typed (Dynamic d) (Long index) = (refl, tt)
member_of-typed v w = (refl, tt)

pub array_length_of-typed : (v : Value) → HasType ty.Long (array_length_of v)
array_length_of-typed (Dynamic d) = or_null-typed (λ n. Long (pos n)) ty.Long (array_length (tree_of d)) (λ z e. (refl, tt)) (refl, ((λ e. cc), (λ e. cc)))
array_length_of-typed v = (refl, ((λ e. cc), (λ e. cc)))

pub sorted_of-typed : (v : Value) → HasType ty.Dynamic (sorted_of v)
sorted_of-typed (Dynamic d) = (refl, tt)
sorted_of-typed v = (refl, tt)

pub keys_of-typed : (v : Value) → HasType ty.Dynamic (keys_of v)
keys_of-typed (Dynamic d) = (refl, tt)
keys_of-typed v = (refl, tt)

-- ---- what a proper value's text is

moment-is_moment : (z : ℤ) → IsMoment z → is_moment z ≡ true
moment-is_moment z h = grind (arith, nat_tests)

-- a proper value is taken as it is
pub in_range-proper : (v : Value) → IsProper v → in_range v ≡ v
in_range-proper (Moment z) p = rw (moment-is_moment z p) refl
in_range-proper v p = refl

pub printed-proper : (v : Value) → IsProper v → printed v ≡ text_of v
printed-proper v p = ap text_of (in_range-proper v p)
