-- Dates, counted by years and months from 0001-01-01.
use Rattle.std.specs.Prelude.{◌≡◌, ◌≤◌, ℕ, zero, suc, ◌+◌, ◌-◌, ◌%◌, ◌==◌, ◌&&◌, ◌||◌, not, Bool, List, [], ◌∷◌, get_or, sum, take, if◌then◌else◌}
use Rattle.kq_value_formats.specs.Civil.{Civil}

-- a year that 4 divides and 100 doesn't, or that 400 divides
abbrev pub is_leap : ℕ → Bool
is_leap y = ((y % 4 == 0) && not (y % 100 == 0)) || (y % 400 == 0)

-- how many days a year has
abbrev pub year_length : ℕ → ℕ
year_length y = if is_leap y then 366 else 365

-- how many days each of its months has, from January to December
abbrev pub month_lengths : ℕ → List ℕ
month_lengths y = 31 ∷ (if is_leap y then 29 else 28) ∷ 31 ∷ 30 ∷ 31 ∷ 30 ∷ 31 ∷ 31 ∷ 30 ∷ 31 ∷ 30 ∷ 31 ∷ []

-- the days of the first n years, the first being the year 1
abbrev pub days_of_first_years : ℕ → ℕ
days_of_first_years zero = 0
days_of_first_years (suc n) = days_of_first_years n + year_length (suc n)

-- one of the twelve months, and one of its days
pub record HasMonthAndDay (c : Civil) : Type 0 where
  pub month_from : 1 ≤ c.month
  pub month_to : c.month ≤ 12
  pub day_from : 1 ≤ c.day
  pub day_to : c.day ≤ get_or (month_lengths c.year) (c.month - 1) 0

-- the days before a date: those of the years, of the year's months and of the month that are over
abbrev pub days_before : Civil → ℕ
days_before c = days_of_first_years (c.year - 1) + sum (take (c.month - 1) (month_lengths c.year)) + (c.day - 1)

-- a date of the year 1 or later, with n days before it
pub record IsDateAfter (n : ℕ) (c : Civil) : Type 0 where
  pub year_from : 1 ≤ c.year
  pub dated : HasMonthAndDay c
  pub counted : days_before c ≡ n
