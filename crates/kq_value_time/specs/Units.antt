-- What the units of datetimes are.
use Rattle.std.specs.Prelude.{ℕ, ℤ}
use Rattle.kq_value_formats.specs.Ticks.{date_of, day_of_week, hour_of, start_of_year, start_of_month, start_of_week, start_of_day, start_of_hour}
use Rattle.kq_value_time.specs.declared.unit.Unit.{Unit}
use Rattle.kq_value_time.specs.declared.unit.Unit.TheVariants.{Year, Month, Week, Day, Hour}

-- the first tick of the unit that holds a datetime
abbrev pub unit_start : Unit → ℤ → ℤ
unit_start Year z = start_of_year z
unit_start Month z = start_of_month z
unit_start Week z = start_of_week z
unit_start Day z = start_of_day z
unit_start Hour z = start_of_hour z

-- the year, the month of the year, the days since the last Sunday, the day of the month and the hour of the day
abbrev pub unit_part : Unit → ℤ → ℕ
unit_part Year z = (date_of z).year
unit_part Month z = (date_of z).month
unit_part Week z = day_of_week z
unit_part Day z = (date_of z).day
unit_part Hour z = hour_of z
