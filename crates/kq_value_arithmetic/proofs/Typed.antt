-- What the operators give has its type.
use Rattle.std.proofs.lemmas.Bool.Decides.{nat_tests}
use Rattle.std.proofs.Common.{◌≡◌, ℤ, pos, negsuc, arith, Bool, true, false, ◌&&◌, Option, Some, None, refl}
use Rattle.std.specs.Prelude.{◌||◌, neg_ℤ, unsigned_abs, option_map, if◌then◌else◌, List, [], ◌∷◌}
use Rattle.std.specs.declared.cmp.Ordering.{Ordering}
use Rattle.kq_value.specs.Computed.{Is, Overflow, Computed}
use Rattle.kq_value.specs.Typed.{type_of, is_null, IsMoment, IsProper, HasType}
use Rattle.kq_value.specs.declared.ty.Ty.{Ty}
use Rattle.kq_value.specs.declared.ty.Ty.TheVariants as ty
use Rattle.kq_value.specs.declared.value.Value.{Value}
use Rattle.kq_value.specs.declared.value.Value.TheVariants.{Null, Long, Int, Text, Bool as Truth, Moment, Span, Dynamic}
use Rattle.kq_value_formats.specs.Datetimes.{is_moment}
use Rattle.kq_value_formats.specs.Numerals.{is_int, is_long}
use Rattle.kq_value_arithmetic.specs.Numbers.{number_of, number_in, value_in, of_both, operated}
use Rattle.kq_value_arithmetic.specs.Comparing.{compared, equal, unequal, at_least, at_most}
use Rattle.kq_value_arithmetic.specs.Logic.{is_yes, is_no, conjunction, disjunction, negation, in_list, between_of}
use Rattle.kq_value_arithmetic.specs.Arithmetic.{plus, minus, times, divided, remainder, bin_of, negated, absolute, sum_type, difference_type, product_type, divided_type, quotient, modulus, floor}

-- what comes of it, if anything, is a value of the type
abbrev pub GivesType : Ty → Computed Value → Type 0
GivesType t (Is v) = HasType t v
GivesType t Overflow = Unit {0}

-- a test that is passed gives a value of the type, and one that isn't gives none
tested : (t : Ty) (v : Value) (b : Bool) → (b ≡ true → HasType t v) → GivesType t (if b then Is v else Overflow)
tested t v true h = h refl
tested t v false h = tt

moment_tested : (z : ℤ) → is_moment z ≡ true → IsMoment z
moment_tested (pos n) h = grind (arith, nat_tests)
moment_tested (negsuc n) h = absurd cc

number_in-typed : (t : Ty) (z : ℤ) → IsProper (Null t) → GivesType t (number_in t z)
number_in-typed ty.Long z h = tested ty.Long (Long z) (is_long z) (λ e. (refl, tt))
number_in-typed ty.Int z h = tested ty.Int (Int z) (is_int z) (λ e. (refl, tt))
number_in-typed ty.Moment z h = tested ty.Moment (Moment z) (is_moment z) (λ e. (refl, moment_tested z e))
number_in-typed ty.Span z h = tested ty.Span (Span z) (is_long z) (λ e. (refl, tt))
number_in-typed ty.Text z h = (refl, h)
number_in-typed ty.Bool z h = (refl, h)
number_in-typed ty.Dynamic z h = (refl, h)

pub value_in-typed : (t : Ty) (o : Option ℤ) → IsProper (Null t) → GivesType t (value_in t o)
value_in-typed t None h = (refl, h)
value_in-typed t (Some z) h = number_in-typed t z h

operated-typed : (typing : Ty → Ty → Ty) (operator : ℤ → ℤ → Option ℤ) (s t : Ty) (a b : Value) → type_of a ≡ s → type_of b ≡ t → IsProper (Null (typing s t)) → GivesType (typing s t) (operated typing operator a b)
operated-typed typing operator s t a b e f h = rw (e, f) (value_in-typed (typing s t) (of_both operator a b) h)

-- each at values of the types s and t, where the result's type is one that has a null

pub plus-typed : (s t : Ty) (a b : Value) → type_of a ≡ s → type_of b ≡ t → IsProper (Null (sum_type s t)) → GivesType (sum_type s t) (plus a b)
plus-typed s t a b e f h = operated-typed sum_type _ s t a b e f h

pub minus-typed : (s t : Ty) (a b : Value) → type_of a ≡ s → type_of b ≡ t → IsProper (Null (difference_type s t)) → GivesType (difference_type s t) (minus a b)
minus-typed s t a b e f h = operated-typed difference_type _ s t a b e f h

pub times-typed : (s t : Ty) (a b : Value) → type_of a ≡ s → type_of b ≡ t → IsProper (Null (product_type s t)) → GivesType (product_type s t) (times a b)
times-typed s t a b e f h = operated-typed product_type _ s t a b e f h

pub divided-typed : (s t : Ty) (a b : Value) → type_of a ≡ s → type_of b ≡ t → IsProper (Null s) → GivesType s (divided a b)
divided-typed s t a b e f h = operated-typed divided_type quotient s t a b e f h

pub remainder-typed : (s t : Ty) (a b : Value) → type_of a ≡ s → type_of b ≡ t → IsProper (Null s) → GivesType s (remainder a b)
remainder-typed s t a b e f h = operated-typed divided_type modulus s t a b e f h

pub bin_of-typed : (s t : Ty) (x step : Value) → type_of x ≡ s → type_of step ≡ t → IsProper (Null s) → GivesType s (bin_of x step)
bin_of-typed s t x step e f h = operated-typed divided_type floor s t x step e f h

pub negated-typed : (t : Ty) (v : Value) → type_of v ≡ t → IsProper (Null t) → GivesType t (negated v)
negated-typed t v e h = rw e (value_in-typed t (option_map neg_ℤ (number_of v)) h)

pub absolute-typed : (t : Ty) (v : Value) → type_of v ≡ t → IsProper (Null t) → GivesType t (absolute v)
absolute-typed t v e h = rw e (value_in-typed t (option_map (λ z. pos (unsigned_abs z)) (number_of v)) h)

-- truths: bools and the null of bool, at any values

null_of_bool : HasType ty.Bool (Null ty.Bool)
null_of_bool = (refl, (λ e. cc, λ e. cc))

chosen : (b : Bool) (v w : Value) → HasType ty.Bool v → HasType ty.Bool w → HasType ty.Bool (if b then v else w)
chosen true v w h k = h
chosen false v w h k = k

pub compared-typed : (test : Ordering → Bool) (a b : Value) → HasType ty.Bool (compared test a b)
compared-typed test a b = (refl, tt)

pub equal-typed : (a b : Value) → HasType ty.Bool (equal a b)
equal-typed a b = chosen (is_null a && is_null b) (Null ty.Bool) _ null_of_bool (refl, tt)

pub unequal-typed : (a b : Value) → HasType ty.Bool (unequal a b)
unequal-typed a b = chosen (is_null a && is_null b) (Null ty.Bool) _ null_of_bool (refl, tt)

pub conjunction-typed : (a b : Value) → HasType ty.Bool (conjunction a b)
conjunction-typed a b = chosen (is_no a || is_no b) (Truth false) _ (refl, tt) (chosen (is_yes a && is_yes b) (Truth true) (Null ty.Bool) (refl, tt) null_of_bool)

pub disjunction-typed : (a b : Value) → HasType ty.Bool (disjunction a b)
disjunction-typed a b = chosen (is_yes a || is_yes b) (Truth true) _ (refl, tt) (chosen (is_no a && is_no b) (Truth false) (Null ty.Bool) (refl, tt) null_of_bool)

pub negation-typed : (v : Value) → HasType ty.Bool (negation v)
negation-typed (Truth b) = (refl, tt)
negation-typed (Null t) = null_of_bool
negation-typed (Long z) = null_of_bool
negation-typed (Int z) = null_of_bool
negation-typed (Text bs) = null_of_bool
negation-typed (Moment z) = null_of_bool
negation-typed (Span z) = null_of_bool
negation-typed (Dynamic d) = null_of_bool

pub in_list-typed : (equality : Value → Value → Value) (x : Value) (vs : List Value) → HasType ty.Bool (in_list equality x vs)
in_list-typed equality x [] = (refl, tt)
in_list-typed equality x (v ∷ vs) = disjunction-typed (equality x v) (in_list equality x vs)

pub between_of-typed : (x a b : Value) → HasType ty.Bool (between_of x a b)
between_of-typed x a b = conjunction-typed (at_least x a) (at_most x b)
