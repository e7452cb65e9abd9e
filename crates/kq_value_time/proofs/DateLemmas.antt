-- The dates of `jiff` are the dates of days, and where their months and years start.
use Rattle.std.proofs.Common.{◌≡◌, ◌≤◌, ℕ, ◌+◌, ◌-◌, ◌*◌, refl, ap, ◌∙◌, arith, ℤ, pos, ◌+ℤ◌}
use Rattle.jiff_core.specs.declared.civil.date.Date.{Date}
use Rattle.jiff_core.specs.Date.{epoch_day, ordinal}
use Rattle.jiff_core.specs.Calendar.{days_in_month, days_of_months}
use Rattle.jiff_core.proofs.SignedLemmas.{signed_arith}
use Rattle.jiff_core.proofs.CalendarLemmas.{days_of_months-zero}
use Rattle.jiff_core.proofs.DateLemmas.{epoch_day_injective}
use Rattle.kq_value_formats.specs.Civil.{Civil, date_of_day, days_to}
use Rattle.kq_value_formats.proofs.CivilLemmas.{date_of_day_is, days_from_civil-days_to, days_to-date_of_day, year_of_day_bound}
use Rattle.kq_value_formats.specs.Datetimes.{ticks_per_day}
use Rattle.kq_value_formats.specs.Ticks.{day_of}
use Rattle.kq_value_time.specs.Dates.{HasDate}
use Rattle.kq_value_time.specs.Units.{unit_start}
use Rattle.kq_value_time.specs.declared.unit.Unit.{Unit}
use Rattle.kq_value_time.specs.declared.unit.Unit.TheVariants.{Year, Month}

-- the date of a day, as `jiff` has it
jiff_date : (n : ℕ) → n ≤ 3652058 → Date
jiff_date n h =
    let c = date_of_day n in
    let d = date_of_day_is n in
    let year : c.year ≤ 9999 = rw d.year (year_of_day_bound n (omega arith)) in
    let last : c.day ≤ days_in_month (pos c.year) c.month = rw d.year d.day_to in
    record {
      year = pos c.year;
      month = c.month;
      day = c.day;
      year_in = (omega (arith, signed_arith), omega (arith, signed_arith));
      month_in = (d.month_from, d.month_to);
      day_in = (d.day_from, last);
    }

jiff_date-has : (n : ℕ) (h : n ≤ 3652058) → HasDate (jiff_date n h) (date_of_day n)
unfolding jiff_date
jiff_date-has n h = (refl, refl, refl)

epoch_day-jiff_date : (n : ℕ) (h : n ≤ 3652058) → epoch_day (jiff_date n h) +ℤ pos 719162 ≡ pos n
unfolding jiff_date
epoch_day-jiff_date n h =
    let c = date_of_day n in
    omega (arith, signed_arith, days_from_civil-days_to c (date_of_day_is n).day_from, days_to-date_of_day n)

-- the date of a day of `jiff`, which counts from -9999-01-01
pub has_date : (d : Date) (n : ℕ) → n ≤ 3652058 → epoch_day d +ℤ pos 4371587 ≡ pos (n + 3652425) → HasDate d (date_of_day n)
has_date d n h e =
    let same : epoch_day d ≡ epoch_day (jiff_date n h) = omega (arith, signed_arith, epoch_day-jiff_date n h) in
    let parts = epoch_day_injective d (jiff_date n h) same in
    let own = jiff_date-has n h in
    (parts.0 ∙ own.0, parts.1 ∙ own.1, parts.2 ∙ own.2)

days_to-first_of_month : (c : Civil) {m k : ℕ} → days_to c ≡ m → k ≡ c.day → days_to (record { year = c.year; month = c.month; day = 1 }) + (k - 1) ≡ m
unfolding days_to
days_to-first_of_month c e s = omega arith

-- how far into its month a day is
pub month_starts : (d : Date) (n : ℕ) → HasDate d (date_of_day n) → days_to (record { year = (date_of_day n).year; month = (date_of_day n).month; day = 1 }) + (d.day - 1) ≡ n + 366
month_starts d n h = days_to-first_of_month (date_of_day n) (days_to-date_of_day n) h.2

days_to-first_of_year : (c : Civil) (y : ℤ) (m k : ℕ) → 1 ≤ k → y ≡ pos c.year → m ≡ c.month → k ≡ c.day → days_to (record { year = c.year; month = 1; day = 1 }) + (days_of_months y (m - 1) + k - 1) ≡ days_to c
unfolding days_to
days_to-first_of_year c y m k l e f g = rw (e, f, g) (omega (arith, days_of_months-zero (pos c.year)))

-- and into its year
pub year_starts : (d : Date) (n : ℕ) → HasDate d (date_of_day n) → days_to (record { year = (date_of_day n).year; month = 1; day = 1 }) + (ordinal d - 1) ≡ n + 366
year_starts d n h = days_to-first_of_year (date_of_day n) d.year d.month d.day d.day_in.0 h.0 h.1 h.2 ∙ days_to-date_of_day n

-- no day lies before 0001-01-01
first_year : (c : Civil) → 1 ≤ c.year → 366 ≤ days_to c
unfolding days_to
first_year c h = omega arith

year_of_date : (n : ℕ) → 1 ≤ (date_of_day n).year
year_of_date n = rw (date_of_day_is n).year (omega arith)

pub year_starts_in : (d : Date) (n : ℕ) → HasDate d (date_of_day n) → ordinal d - 1 ≤ n
year_starts_in d n h =
    let c : Civil = record { year = (date_of_day n).year; month = 1; day = 1 } in
    omega (arith, year_starts d n h, first_year c (year_of_date n))

pub month_starts_in : (d : Date) (n : ℕ) → HasDate d (date_of_day n) → d.day - 1 ≤ n
month_starts_in d n h =
    let c : Civil = record { year = (date_of_day n).year; month = (date_of_day n).month; day = 1 } in
    omega (arith, month_starts d n h, first_year c (year_of_date n))

-- the first tick of a year and of a month, by how far into them a day is
pub year_start : (u : Unit) (z r : ℤ) (d : Date) (n k : ℕ) → u ≡ Year → n ≡ day_of z → HasDate d (date_of_day n) → k ≡ ordinal d → r ≡ pos ((n - (k - 1)) * ticks_per_day) → r ≡ unit_start u z
year_start u z r d n k e f h g own =
    let days = year_starts d n h in
    let same : n - (k - 1) ≡ days_to (record { year = (date_of_day n).year; month = 1; day = 1 }) - 366 = omega arith in
    own ∙ ap (λ m. pos (m * ticks_per_day)) same ∙ rw (e, f) refl

pub month_start : (u : Unit) (z r : ℤ) (d : Date) (n k : ℕ) → u ≡ Month → n ≡ day_of z → HasDate d (date_of_day n) → k ≡ d.day → r ≡ pos ((n - (k - 1)) * ticks_per_day) → r ≡ unit_start u z
month_start u z r d n k e f h g own =
    let days = month_starts d n h in
    let same : n - (k - 1) ≡ days_to (record { year = (date_of_day n).year; month = (date_of_day n).month; day = 1 }) - 366 = omega arith in
    own ∙ ap (λ m. pos (m * ticks_per_day)) same ∙ rw (e, f) refl
