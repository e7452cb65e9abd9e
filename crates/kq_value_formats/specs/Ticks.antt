-- What the functions of datetimes give.
use Rattle.std.specs.Prelude.{ℕ, ◌-◌, ◌*◌, ◌/◌, ◌%◌, ℤ, pos, ◌-ℤ◌, unsigned_abs}
use Rattle.std.specs.Int.{int_rem_euclid}
use Rattle.kq_value_formats.specs.Civil.{Civil, days_to, days_of_year_0, date_of_day, days_since_sunday}
use Rattle.kq_value_formats.specs.Datetimes.{ticks_per_hour, ticks_per_day}

-- the greatest multiple of a step above 0 that is at or below x
abbrev pub floor_to : ℤ → ℤ → ℤ
floor_to step x = x -ℤ int_rem_euclid x step

-- the day of a datetime, from 0001-01-01, and its date
abbrev pub day_of : ℤ → ℕ
day_of z = unsigned_abs z / ticks_per_day

abbrev pub date_of : ℤ → Civil
date_of z = date_of_day (day_of z)

-- the first tick of a date
abbrev pub ticks_of_date : Civil → ℤ
ticks_of_date c = pos ((days_to c - days_of_year_0) * ticks_per_day)

abbrev pub start_of_hour : ℤ → ℤ
start_of_hour z = pos (unsigned_abs z / ticks_per_hour * ticks_per_hour)

abbrev pub start_of_day : ℤ → ℤ
start_of_day z = pos (day_of z * ticks_per_day)

-- the start of the last Sunday, below 0 where that is before 0001-01-01
abbrev pub start_of_week : ℤ → ℤ
start_of_week z = start_of_day z -ℤ pos (days_since_sunday (day_of z) * ticks_per_day)

abbrev pub start_of_month : ℤ → ℤ
start_of_month z = ticks_of_date (record { year = (date_of z).year; month = (date_of z).month; day = 1 })

abbrev pub start_of_year : ℤ → ℤ
start_of_year z = ticks_of_date (record { year = (date_of z).year; month = 1; day = 1 })

-- the hour of the day
abbrev pub hour_of : ℤ → ℕ
hour_of z = unsigned_abs z % ticks_per_day / ticks_per_hour

-- the whole days since the last Sunday
abbrev pub day_of_week : ℤ → ℕ
day_of_week z = days_since_sunday (day_of z)
