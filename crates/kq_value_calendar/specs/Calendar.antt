-- The parts of datetimes. A datetime out of range can't come up, and counts as null.
use Rattle.std.specs.Prelude.{◌*◌, ℤ, pos, if◌then◌else◌}
use Rattle.kq_value.specs.Computed.{Computed, Is, Overflow}
use Rattle.kq_value.specs.declared.ty.Ty.TheVariants as ty
use Rattle.kq_value.specs.declared.value.Value.{Value}
use Rattle.kq_value.specs.declared.value.Value.TheVariants.{Null, Long, Moment, Span}
use Rattle.kq_value_time.specs.kq_value_formats.Datetimes.{is_moment, ticks_per_day}
use Rattle.kq_value_time.specs.declared.unit.Unit.{Unit}
use Rattle.kq_value_time.specs.declared.unit.Unit.TheVariants.{Year, Month, Week, Day, Hour}
use Rattle.kq_value_time.specs.Units.{unit_start, unit_part}

-- the datetime, or an overflow before the year 1
abbrev pub moment_of : ℤ → Computed Value
moment_of z = if is_moment z then Is (Moment z) else Overflow

-- the start of the unit that holds a datetime; null of null
abbrev pub start : Unit → Value → Computed Value
start unit (Moment z) = if is_moment z then moment_of (unit_start unit z) else Is (Null ty.Moment)
start unit v = Is (Null ty.Moment)

-- KQL reference, startofday()
abbrev pub start_of_day : Value → Computed Value
start_of_day = start Day

-- KQL reference, startofweek(): weeks start on Sunday, and the first of them before the year 1
abbrev pub start_of_week : Value → Computed Value
start_of_week = start Week

-- KQL reference, startofmonth()
abbrev pub start_of_month : Value → Computed Value
start_of_month = start Month

-- KQL reference, startofyear()
abbrev pub start_of_year : Value → Computed Value
start_of_year = start Year

-- KQL reference, dayofweek(): a timespan of the whole days since the last Sunday
abbrev pub day_of_week : Value → Value
day_of_week (Moment z) = if is_moment z then Span (pos (unit_part Week z * ticks_per_day)) else Null ty.Span
day_of_week v = Null ty.Span

-- the place of a datetime in a unit; null of null
abbrev pub part : Unit → Value → Value
part unit (Moment z) = if is_moment z then Long (pos (unit_part unit z)) else Null ty.Long
part unit v = Null ty.Long

-- KQL reference, getyear()
abbrev pub year_of : Value → Value
year_of = part Year

-- KQL reference, monthofyear()
abbrev pub month_of : Value → Value
month_of = part Month

-- KQL reference, dayofmonth()
abbrev pub day_of_month : Value → Value
day_of_month = part Day

-- KQL reference, hourofday()
abbrev pub hour_of : Value → Value
hour_of = part Hour
