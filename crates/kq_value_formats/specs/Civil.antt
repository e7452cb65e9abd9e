-- Days and the calendar: day 0 is 0001-01-01.
use Rattle.std.specs.Prelude.{ℕ, zero, suc, ◌+◌, ◌-◌, ◌*◌, ◌/◌, ◌%◌, ◌&&◌, min, Bool, pos, if◌then◌else◌, nat_le}
use Rattle.jiff_core.specs.Calendar.{days_in_month, days_of_months}

-- a date of the year 0 or later
pub record Civil : Type 0 where
  pub year : ℕ
  pub month : ℕ
  pub day : ℕ

-- the calendar has this date
abbrev pub is_date : Civil → Bool
is_date c = nat_le 1 c.month && nat_le c.month 12 && nat_le 1 c.day && nat_le c.day (days_in_month (pos c.year) c.month)

-- the days from 0000-01-01 to the first of the year: every fourth year has one more, but of the centuries only every fourth
abbrev pub days_before_year : ℕ → ℕ
days_before_year y = 365 * y + (y + 3) / 4 - (y + 99) / 100 + (y + 399) / 400

-- the days from 0000-01-01 to the date
unfoldable pub days_to : Civil → ℕ
days_to c = days_before_year c.year + days_of_months (pos c.year) (c.month - 1) + (c.day - 1)

-- the days of the year 0
abbrev pub days_of_year_0 : ℕ
days_of_year_0 = 366

-- the year of day n: whole cycles of 400 years, then centuries, of which the last has a day more, then four years, then years, of which the last has
-- a day more
abbrev pub year_of_day : ℕ → ℕ
year_of_day n =
    let in_cycle = n % 146097 in
    let centuries = min 3 (in_cycle / 36524) in
    let in_century = in_cycle - centuries * 36524 in
    let years = min 3 (in_century % 1461 / 365) in
    400 * (n / 146097) + 100 * centuries + 4 * (in_century / 1461) + years + 1

-- how many of the year's first n months begin on its day k, counted from 0, or before
unfoldable pub months_begun : ℕ → ℕ → ℕ → ℕ
months_begun y k zero = 0
months_begun y k (suc n) = months_begun y k n + (if nat_le (days_of_months (pos y) n) k then 1 else 0)

-- the date of the day k, from 0, of a year
abbrev pub date_in_year : ℕ → ℕ → Civil
date_in_year y k =
    let month = months_begun y k 12 in
    record { year = y; month = month; day = k - days_of_months (pos y) (month - 1) + 1 }

-- the date of day n
unfoldable pub date_of_day : ℕ → Civil
date_of_day n = let y = year_of_day n in date_in_year y (n + days_of_year_0 - days_before_year y)

-- the whole days since the last Sunday: day 0 is a Monday
abbrev pub days_since_sunday : ℕ → ℕ
days_since_sunday n = (n + 1) % 7
