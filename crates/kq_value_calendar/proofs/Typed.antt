-- The parts of datetimes have their types.
use Rattle.std.proofs.Common.{◌≡◌, ℤ, pos, negsuc, Bool, true, false, refl, subst, arith}
use Rattle.std.proofs.lemmas.Bool.Decides.{nat_tests}
use Rattle.std.specs.Prelude.{◌*◌, if◌then◌else◌}
use Rattle.kq_value.specs.Computed.{Computed, Is, Overflow}
use Rattle.kq_value.specs.Typed.{IsMoment, HasType}
use Rattle.kq_value.specs.declared.ty.Ty.{Ty}
use Rattle.kq_value.specs.declared.ty.Ty.TheVariants as ty
use Rattle.kq_value.specs.declared.value.Value.{Value}
use Rattle.kq_value.specs.declared.value.Value.TheVariants.{Null, Long, Int, Text, Bool as Truth, Moment, Span, Dynamic}
use Rattle.kq_value_time.specs.kq_value_formats.Datetimes.{is_moment, ticks_per_day}
use Rattle.kq_value_time.specs.declared.unit.Unit.{Unit}
use Rattle.kq_value_time.specs.declared.unit.Unit.TheVariants.{Week}
use Rattle.kq_value_time.specs.Units.{unit_start, unit_part}
use Rattle.kq_value_calendar.specs.Calendar.{moment_of, start, day_of_week, part}

-- what is the value has the type
given : (t : Ty) (v w : Value) → HasType t v → Is v ≡ Is w → HasType t w
given t v w h e = let same : v ≡ w = cc in subst (HasType t) same h

null_moment : HasType ty.Moment (Null ty.Moment)
null_moment = (refl, (λ e. cc, λ e. cc))

null_span : HasType ty.Span (Null ty.Span)
null_span = (refl, (λ e. cc, λ e. cc))

null_long : HasType ty.Long (Null ty.Long)
null_long = (refl, (λ e. cc, λ e. cc))

moment_tested : (z : ℤ) → is_moment z ≡ true → IsMoment z
moment_tested (pos n) h = grind (arith, nat_tests)
moment_tested (negsuc n) h = absurd cc

moment_by : (z : ℤ) (w : Value) (b : Bool) → is_moment z ≡ b → (if b then Is (Moment z) else Overflow) ≡ Is w → HasType ty.Moment w
moment_by z w true h e = given ty.Moment (Moment z) w (refl, moment_tested z h) e
moment_by z w false h e = absurd cc

start_by : (c : Computed Value) (w : Value) (b : Bool) → (c ≡ Is w → HasType ty.Moment w) → (if b then c else Is (Null ty.Moment)) ≡ Is w → HasType ty.Moment w
start_by c w true h e = h e
start_by c w false h e = given ty.Moment (Null ty.Moment) w null_moment e

-- the start of a unit is a datetime, if there is one; so are those of a day, a week, a month and a year
pub start-typed : (unit : Unit) (v w : Value) → start unit v ≡ Is w → HasType ty.Moment w
start-typed unit (Moment z) w e = let first = unit_start unit z in start_by (moment_of first) w (is_moment z) (moment_by first w (is_moment first) refl) e
start-typed unit (Null t) w e = given ty.Moment (Null ty.Moment) w null_moment e
start-typed unit (Long z) w e = given ty.Moment (Null ty.Moment) w null_moment e
start-typed unit (Int z) w e = given ty.Moment (Null ty.Moment) w null_moment e
start-typed unit (Text bs) w e = given ty.Moment (Null ty.Moment) w null_moment e
start-typed unit (Truth b) w e = given ty.Moment (Null ty.Moment) w null_moment e
start-typed unit (Span z) w e = given ty.Moment (Null ty.Moment) w null_moment e
start-typed unit (Dynamic d) w e = given ty.Moment (Null ty.Moment) w null_moment e

chosen : (t : Ty) (b : Bool) (v w : Value) → HasType t v → HasType t w → HasType t (if b then v else w)
chosen t true v w h k = h
chosen t false v w h k = k

pub day_of_week-typed : (v : Value) → HasType ty.Span (day_of_week v)
day_of_week-typed (Moment z) = chosen ty.Span (is_moment z) (Span (pos (unit_part Week z * ticks_per_day))) (Null ty.Span) (refl, tt) null_span
day_of_week-typed (Null t) = null_span
day_of_week-typed (Long z) = null_span
day_of_week-typed (Int z) = null_span
day_of_week-typed (Text bs) = null_span
day_of_week-typed (Truth b) = null_span
day_of_week-typed (Span z) = null_span
day_of_week-typed (Dynamic d) = null_span

-- a part is a long: so are the year, the month, the day of the month and the hour
pub part-typed : (unit : Unit) (v : Value) → HasType ty.Long (part unit v)
part-typed unit (Moment z) = chosen ty.Long (is_moment z) (Long (pos (unit_part unit z))) (Null ty.Long) (refl, tt) null_long
part-typed unit (Null t) = null_long
part-typed unit (Long z) = null_long
part-typed unit (Int z) = null_long
part-typed unit (Text bs) = null_long
part-typed unit (Truth b) = null_long
part-typed unit (Span z) = null_long
part-typed unit (Dynamic d) = null_long
