-- Days and dates: each day has one date, each date is that of its day, and both agree with `jiff`.
use Rattle.std.proofs.Common.{◌≡◌, ◌<◌, ◌≤◌, ℕ, zero, suc, ◌+◌, ◌-◌, ◌*◌, ◌/◌, ◌%◌, min, Bool, true, false, ◌&&◌, cond, nat_le, inl, inr, refl, sym, ◌∙◌, arith, pos, ◌+ℤ◌}
use Rattle.std.proofs.lemmas.Bool.{cases_lt}
use Rattle.std.proofs.lemmas.Bool.Decides.{nat_tests}
use Rattle.jiff_core.specs.Calendar.{days_in_year, days_in_month, days_of_months, day_count, days_from_civil, IsCivilDate}
use Rattle.jiff_core.specs.March.{march_days}
use Rattle.jiff_core.proofs.SignedLemmas.{signed_arith}
use Rattle.jiff_core.proofs.MarchLemmas.{leap_day, leap_day-shift, march_days-suc, days_of_years-march_days, days_in_year-leap_day}
use Rattle.jiff_core.proofs.CalendarLemmas.{days_from_civil-day_count, days_of_months-zero, days_of_months_more, days_of_months_all, days_of_months_mono, day_count-lt_year, day_count-lt_month}
use Rattle.kq_value_formats.specs.Civil.{Civil, is_date, days_before_year, days_to, year_of_day, months_begun, date_in_year, date_of_day}

days_before_year-suc : (y : ℕ) → days_before_year (suc y) ≡ days_before_year y + 365 + leap_day (pos y)
days_before_year-suc y = grind (arith, nat_tests)

days_before_year-march_days : (y : ℕ) → days_before_year y + leap_day (pos y) ≡ march_days y + 1
days_before_year-march_days zero = refl
days_before_year-march_days (suc y) = omega (arith, days_before_year-march_days y, days_before_year-suc y, march_days-suc y)

march_days-shift : (y : ℕ) → march_days (y + 10000) ≡ march_days y + 3652425
march_days-shift y = omega arith

-- `jiff` counts from the year -10000
pub day_count-days_to : (c : Civil) → 1 ≤ c.day → day_count (pos c.year) c.month c.day ≡ days_to c + 3652425
unfolding day_count days_to
day_count-days_to c h =
    omega (arith, days_of_years-march_days (c.year + 10000), leap_day-shift (pos c.year) (c.year + 10000) refl, march_days-shift c.year, days_before_year-march_days c.year)

-- and its day numbers from 1970-01-01, which is day 719162 of the year 1
pub days_from_civil-days_to : (c : Civil) → 1 ≤ c.day → days_from_civil (pos c.year) c.month c.day +ℤ pos 719528 ≡ pos (days_to c)
days_from_civil-days_to c h = omega (arith, signed_arith, days_from_civil-day_count (pos c.year) c.month c.day, day_count-days_to c h)

-- ---- the year of a day

-- a year is whole cycles, centuries, four years and years after the year 1
year_parts : (a b c d : ℕ) → b ≤ 3 → c ≤ 24 → d ≤ 3 → days_before_year (400 * a + 100 * b + 4 * c + d + 1) ≡ 146097 * a + 36524 * b + 1461 * c + 365 * d + 366
year_parts a b c d hb hc hd = omega arith

leap_parts : (a b c : ℕ) → b ≤ 3 → c ≤ 24 → (c ≡ 24 → b ≡ 3) → leap_day (pos (400 * a + 100 * b + 4 * c + 3 + 1)) ≡ 1
leap_parts a b c hb hc h = grind (arith, nat_tests)

-- a day lies in its year
pub year_begins : (n : ℕ) → days_before_year (year_of_day n) ≤ n + 366
year_begins n =
    let r = n % 146097 in
    let b = min 3 (r / 36524) in
    let s = r - b * 36524 in
    let d = min 3 (s % 1461 / 365) in
    omega (arith, year_parts (n / 146097) b (s / 1461) d (omega arith) (omega arith) (omega arith))

-- the last day of a cycle, of a century or of four years is of their last year
day_in_year : (a b c d t n : ℕ) → b ≤ 3 → c ≤ 24 → d ≤ 3 → n ≡ 146097 * a + 36524 * b + 1461 * c + t → t < 1461 → (d < 3 → t < 365 * d + 365) → (c ≡ 24 → b < 3 → t < 1460) → n + 366 < days_before_year (suc (400 * a + 100 * b + 4 * c + d + 1))
day_in_year a b c d t n hb hc hd e ht before last =
    let own = year_parts a b c d hb hc hd in
    let next = days_before_year-suc (400 * a + 100 * b + 4 * c + d + 1) in
    grind (arith, nat_tests)

pub year_ends : (n : ℕ) → n + 366 < days_before_year (suc (year_of_day n))
year_ends n =
    let r = n % 146097 in
    let b = min 3 (r / 36524) in
    let s = r - b * 36524 in
    let d = min 3 (s % 1461 / 365) in
    day_in_year (n / 146097) b (s / 1461) d (s % 1461) n (omega arith) (omega arith) (omega arith) (omega arith) (omega arith) (λ h. omega arith) (λ h k. omega arith)

pub year_of_day_bound : (n : ℕ) → n < 3652059 → year_of_day n ≤ 9999
year_of_day_bound n h =
    let r = n % 146097 in
    let b = min 3 (r / 36524) in
    let s = r - b * 36524 in
    let d = min 3 (s % 1461 / 365) in
    omega (arith, year_begins n, year_parts (n / 146097) b (s / 1461) d (omega arith) (omega arith) (omega arith))

-- ---- the month of a day of the year

-- m of the first n months have begun on day k
record Begun (y k n m : ℕ) : Type 0 where
  within : m ≤ n
  next : m < n → k < days_of_months (pos y) m
  last : 0 < m → days_of_months (pos y) (m - 1) ≤ k

begun_more : (y k n m : ℕ) (b : Bool) → nat_le (days_of_months (pos y) n) k ≡ b → Begun y k n m → Begun y k (suc n) (m + cond b 1 0)
begun_more y k n m true e h =
    let begun : days_of_months (pos y) n ≤ k = grind (arith, nat_tests) in
    let all : n ≤ m = elim (cases_lt m n) [ inl lt ↦ absurd (omega (arith, h.next lt, days_of_months_mono (pos y) m n (omega arith))) | inr le ↦ le ] in
    let same : m + 1 - 1 ≡ n = omega (arith, h.within) in
    record {
      within = omega (arith, h.within);
      next = λ lt. absurd (omega arith);
      last = λ lt. rw same begun;
    }
begun_more y k n m false e h =
    let later : k < days_of_months (pos y) n = grind (arith, nat_tests) in
    let same : m + 0 ≡ m = omega arith in
    record {
      within = omega (arith, h.within);
      next = λ lt. rw same (elim (cases_lt m n) [ inl less ↦ h.next less | inr le ↦ let here : m ≡ n = omega (arith, h.within) in rw here later ]);
      last = λ lt. rw same (h.last (omega arith));
    }

begun_of : (y k n : ℕ) → Begun y k n (months_begun y k n)
unfolding months_begun
begun_of y k zero = record { within = omega arith; next = λ lt. absurd (omega arith); last = λ lt. absurd (omega arith) }
begun_of y k (suc n) = begun_more y k n (months_begun y k n) (nat_le (days_of_months (pos y) n) k) refl (begun_of y k n)

-- the date in the year that day k has
pub record IsDayInYear (y k : ℕ) (c : Civil) : Type 0 where
  pub year : c.year ≡ y
  pub month_from : 1 ≤ c.month
  pub month_to : c.month ≤ 12
  pub day_from : 1 ≤ c.day
  pub day_to : c.day ≤ days_in_month (pos y) c.month
  pub place : days_of_months (pos y) (c.month - 1) + (c.day - 1) ≡ k

in_year : (y k m : ℕ) → k < days_in_year (pos y) → Begun y k 12 m → IsDayInYear y k (record { year = y; month = m; day = k - days_of_months (pos y) (m - 1) + 1 })
in_year y k m h begun =
    let some : 0 < m = elim (cases_lt 0 m) [ inl lt ↦ lt | inr le ↦ let none : m ≡ 0 = omega arith in absurd (omega (arith, days_of_months-zero (pos y), rw none at (begun.next (omega arith)))) ] in
    let past : k < days_of_months (pos y) m = elim (cases_lt m 12) [ inl lt ↦ begun.next lt | inr le ↦ let all : m ≡ 12 = omega (arith, begun.within) in rw all (omega (arith, days_of_months_all (pos y))) ] in
    let from = begun.last some in
    record {
      year = refl;
      month_from = some;
      month_to = begun.within;
      day_from = omega arith;
      day_to = omega (arith, days_of_months_more (pos y) m some);
      place = omega arith;
    }

pub date_in_year_is : (y k : ℕ) → k < days_in_year (pos y) → IsDayInYear y k (date_in_year y k)
date_in_year_is y k h = in_year y k (months_begun y k 12) h (begun_of y k 12)

-- ---- the date of a day

all_pass : (m d last : ℕ) → 1 ≤ m → m ≤ 12 → 1 ≤ d → d ≤ last → (nat_le 1 m && nat_le m 12 && nat_le 1 d && nat_le d last) ≡ true
all_pass m d last a b c e = grind (arith, nat_tests)

days_in_its_year : (n : ℕ) → n + 366 - days_before_year (year_of_day n) < days_in_year (pos (year_of_day n))
days_in_its_year n = omega (arith, year_begins n, year_ends n, days_before_year-suc (year_of_day n), days_in_year-leap_day (pos (year_of_day n)))

pub date_of_day_is : (n : ℕ) → IsDayInYear (year_of_day n) (n + 366 - days_before_year (year_of_day n)) (date_of_day n)
unfolding date_of_day
date_of_day_is n = date_in_year_is (year_of_day n) (n + 366 - days_before_year (year_of_day n)) (days_in_its_year n)

-- the calendar has the date of a day
pub is_date-date_of_day : (n : ℕ) → is_date (date_of_day n) ≡ true
is_date-date_of_day n =
    let d = date_of_day_is n in
    let c = date_of_day n in
    let last : c.day ≤ days_in_month (pos c.year) c.month = rw d.year d.day_to in
    all_pass c.month c.day (days_in_month (pos c.year) c.month) d.month_from d.month_to d.day_from last

-- which has that day
pub days_to-date_of_day : (n : ℕ) → days_to (date_of_day n) ≡ n + 366
unfolding days_to
days_to-date_of_day n =
    let d = date_of_day_is n in
    rw d.year (omega (arith, d.place, year_begins n))

-- ---- the day of a date

abbrev pub IsDate : Civil → Type 0
IsDate c = (1 ≤ c.month) × (c.month ≤ 12) × (1 ≤ c.day) × (c.day ≤ days_in_month (pos c.year) c.month)

tests_pass : (m d last : ℕ) → (nat_le 1 m && nat_le m 12 && nat_le 1 d && nat_le d last) ≡ true → (1 ≤ m) × (m ≤ 12) × (1 ≤ d) × (d ≤ last)
tests_pass m d last h = grind (arith, nat_tests)

pub IsDate-from_test : (c : Civil) → is_date c ≡ true → IsDate c
IsDate-from_test c h = tests_pass c.month c.day (days_in_month (pos c.year) c.month) h

pub is_date-from_IsDate : (c : Civil) → IsDate c → is_date c ≡ true
is_date-from_IsDate c h = all_pass c.month c.day (days_in_month (pos c.year) c.month) h.0 h.1 h.2 h.3

civil : (c : Civil) → IsDate c → c.year ≤ 9999 → IsCivilDate (pos c.year) c.month c.day
civil c h y = ((omega (arith, signed_arith), omega (arith, signed_arith)), (h.0, h.1), (h.2, h.3))

days_to-lt_year : (a b : Civil) → IsDate a → IsDate b → a.year ≤ 9999 → a.year < b.year → days_to a < days_to b
days_to-lt_year a b h k y lt =
    omega (arith, day_count-lt_year (pos a.year) a.month a.day (pos b.year) b.month b.day (civil a h y) k.2 (omega (arith, signed_arith)), day_count-days_to a h.2, day_count-days_to b k.2)

days_to-lt_month : (a b : Civil) → IsDate a → IsDate b → a.year ≤ 9999 → a.year ≡ b.year → a.month < b.month → days_to a < days_to b
days_to-lt_month a b h k y same lt =
    let before : day_count (pos a.year) a.month a.day < day_count (pos b.year) b.month b.day = rw (← same) (day_count-lt_month (pos a.year) a.month a.day b.month b.day (civil a h y) k.2 lt) in
    omega (arith, day_count-days_to a h.2, day_count-days_to b k.2)

days_to-day : (a b : Civil) → IsDate a → IsDate b → a.year ≡ b.year → a.month ≡ b.month → days_to a ≡ days_to b → a.day ≡ b.day
unfolding days_to
days_to-day a b h k same_year same_month e =
    let from : days_before_year a.year + days_of_months (pos a.year) (a.month - 1) + (a.day - 1) ≡ days_before_year a.year + days_of_months (pos a.year) (a.month - 1) + (b.day - 1) = e ∙ rw (← same_year, ← same_month) refl in
    omega (arith, h.2, k.2)

apart : (a b : ℕ) → (a < b → ⊥) → (b < a → ⊥) → a ≡ b
apart a b p q = elim (cases_lt a b) [ inl lt ↦ absurd (p lt) | inr le ↦ elim (cases_lt b a) [ inl lt ↦ absurd (q lt) | inr ge ↦ omega arith ] ]

-- two dates of one day are one date
pub days_to-injective : (a b : Civil) → IsDate a → IsDate b → a.year ≤ 9999 → b.year ≤ 9999 → days_to a ≡ days_to b → a ≡ b
days_to-injective a b h k y z e =
    let same_year : a.year ≡ b.year = apart a.year b.year (λ lt. let less = days_to-lt_year a b h k y lt in omega arith) (λ lt. let less = days_to-lt_year b a k h z lt in omega arith) in
    let same_month : a.month ≡ b.month = apart a.month b.month (λ lt. let less = days_to-lt_month a b h k y same_year lt in omega arith) (λ lt. let less = days_to-lt_month b a k h z (sym same_year) lt in omega arith) in
    let same_day = days_to-day a b h k same_year same_month e in
    λ i. record { year = same_year i; month = same_month i; day = same_day i }

first_day : (c : Civil) → 1 ≤ c.year → 366 ≤ days_to c
unfolding days_to
first_day c h = omega arith

year_10000 : Civil
year_10000 = record { year = 10000; month = 1; day = 1 }

days_to-year_10000 : days_to year_10000 ≡ 3652425
unfolding days_to year_10000
days_to-year_10000 = omega (arith, days_of_months-zero (pos 10000))

IsDate-year_10000 : IsDate year_10000
unfolding year_10000
IsDate-year_10000 = (omega arith, omega arith, omega arith, omega arith)

before_year_10000 : (c : Civil) → c.year ≤ 9999 → c.year < year_10000.year
unfolding year_10000
before_year_10000 c h = omega arith

last_day : (c : Civil) → IsDate c → c.year ≤ 9999 → days_to c < 3652059 + 366
last_day c h y = omega (arith, days_to-lt_year c year_10000 h IsDate-year_10000 y (before_year_10000 c y), days_to-year_10000)

-- each date from 0001-01-01 to 9999-12-31 is the date of its day
pub date_of_day-days_to : (c : Civil) → IsDate c → 1 ≤ c.year → c.year ≤ 9999 → date_of_day (days_to c - 366) ≡ c
date_of_day-days_to c h low high =
    let n = days_to c - 366 in
    let day : days_to (date_of_day n) ≡ days_to c = omega (arith, days_to-date_of_day n, first_day c low) in
    let year : (date_of_day n).year ≤ 9999 = rw (date_of_day_is n).year (year_of_day_bound n (omega (arith, last_day c h high, first_day c low))) in
    days_to-injective (date_of_day n) c (IsDate-from_test (date_of_day n) (is_date-date_of_day n)) h year high day
