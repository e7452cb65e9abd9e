-- Printed datetimes are read back.
use Rattle.std.proofs.Common.{◌≡◌, ◌<◌, ◌≤◌, ℕ, ◌+◌, ◌*◌, ◌/◌, ◌%◌, Bool, true, false, ◌&&◌, List, ◌∷◌, ◌++◌, length, take, drop, Some, None, refl, sym, ap, ◌∙◌, subst, arith, ℤ, pos, ◌+ℤ◌, ◌-ℤ◌}
use Rattle.std.specs.Prelude.{codes, if◌then◌else◌}
use Rattle.std.specs.Char.{is_ascii_digit, digit_value}
use Rattle.std.specs.List.{take_while}
use Rattle.std.specs.Str.Parse.{digits_value}
use Rattle.std.proofs.lemmas.Bool.Decides.{nat_tests}
use Rattle.std.proofs.lemmas.Int.{ints}
use Rattle.jiff_core.proofs.CalendarLemmas.{days_in_month_bounds}
use Rattle.kq_value_formats.specs.Numerals.{last_digit, padded}
use Rattle.kq_value_formats.specs.Civil.{Civil, is_date, days_to, date_of_day, year_of_day}
use Rattle.kq_value_formats.specs.Datetimes.{datetime_of, datetime_text, date_text, date_days, clock_text, clock_ticks, time_ticks, zone_ticks, after_date, is_time_byte, is_clock, is_fraction, is_moment, fits, number_at, ticks_per_day, ticks_per_hour, ticks_per_minute, ticks_per_second}
use Rattle.kq_value_formats.proofs.CivilLemmas.{days_to-date_of_day, is_date-date_of_day, date_of_day_is, year_of_day_bound}

pub is_ascii_digit-last_digit : (n : ℕ) → is_ascii_digit (last_digit n) ≡ true
unfolding last_digit
is_ascii_digit-last_digit n = grind (arith, nat_tests)

digit_value-last_digit : (n : ℕ) → digit_value (last_digit n) ≡ n % 10
unfolding last_digit
digit_value-last_digit n = grind (arith, nat_tests)

is_time_byte-last_digit : (n : ℕ) → is_time_byte (last_digit n) ≡ true
is_time_byte-last_digit n = rw is_ascii_digit-last_digit refl

-- the digits of a number give it back
pub value_2 : (n : ℕ) → n < 100 → digits_value 10 (padded 2 n) ≡ n
value_2 n h = omega (arith, digit_value-last_digit n, digit_value-last_digit (n / 10))

value_4 : (n : ℕ) → n < 10000 → digits_value 10 (padded 4 n) ≡ n
value_4 n h = omega (arith, digit_value-last_digit n, digit_value-last_digit (n / 10), digit_value-last_digit (n / 10 / 10), digit_value-last_digit (n / 10 / 10 / 10))

pub value_7 : (n : ℕ) → n < 10000000 → digits_value 10 (padded 7 n) ≡ n
value_7 n h =
    omega (arith, digit_value-last_digit n, digit_value-last_digit (n / 10), digit_value-last_digit (n / 10 / 10), digit_value-last_digit (n / 10 / 10 / 10), digit_value-last_digit (n / 10 / 10 / 10 / 10), digit_value-last_digit (n / 10 / 10 / 10 / 10 / 10), digit_value-last_digit (n / 10 / 10 / 10 / 10 / 10 / 10))

-- ---- a date

fits_date : (c : Civil) → fits (codes "0000-00-00") (date_text c) ≡ true
fits_date c = simp is_ascii_digit-last_digit

date_by : (c d : Civil) (f : Bool) → d ≡ c → f ≡ true → is_date c ≡ true → (if f && is_date d then Some (days_to d) else None) ≡ Some (days_to c)
date_by c d f e g h = subst (λ (x : Civil). (if f && is_date x then Some (days_to x) else None) ≡ Some (days_to c)) (sym e) (rw (g, h) refl)

date_days-date_text : (c : Civil) → is_date c ≡ true → c.year < 10000 → c.month < 100 → c.day < 100 → date_days (date_text c) ≡ Some (days_to c)
date_days-date_text c h y m d =
    let year : number_at (date_text c) 0 4 ≡ c.year = value_4 c.year y in
    let month : number_at (date_text c) 5 2 ≡ c.month = value_2 c.month m in
    let day : number_at (date_text c) 8 2 ≡ c.day = value_2 c.day d in
    let read : Civil = record { year = number_at (date_text c) 0 4; month = number_at (date_text c) 5 2; day = number_at (date_text c) 8 2 } in
    date_by c read (fits (codes "0000-00-00") (date_text c)) (λ i. record { year = year i; month = month i; day = day i }) (fits_date c) h

-- ---- a time of day

abbrev time_text : ℕ → ℕ → List ℕ
time_text t f = clock_text t ++ codes "." ++ padded 7 f

longer : (t f : ℕ) → fits (codes "00:00") (time_text t f) ≡ false
longer t f = simp is_ascii_digit-last_digit

fits_clock : (t f : ℕ) → fits (codes "00:00:00") (take 8 (time_text t f)) ≡ true
fits_clock t f = simp is_ascii_digit-last_digit

fraction_follows : (t f : ℕ) → is_fraction (drop 8 (time_text t f)) ≡ true
fraction_follows t f = simp is_ascii_digit-last_digit

clock_of : (t : ℕ) → t < 864000000000 → is_clock (t / ticks_per_hour) (t / ticks_per_minute % 60) (t / ticks_per_second % 60) ≡ true
clock_of t h = grind (arith, nat_tests)

time_by : (short full part : Bool) (h m s f hour minute second fraction : ℕ) → short ≡ false → full ≡ true → part ≡ true → h ≡ hour → m ≡ minute → s ≡ second → f ≡ fraction → is_clock hour minute second ≡ true → (if short && is_clock h m 0 then Some (clock_ticks h m 0) else (if full && part && is_clock h m s then Some (clock_ticks h m s + f) else None)) ≡ Some (clock_ticks hour minute second + fraction)
time_by short full part h m s f hour minute second fraction a b c d e g i j = rw (a, b, c, d, e, g, i, j) refl

time_ticks-time_text : (t f : ℕ) → t < 864000000000 → f < 10000000 → time_ticks (time_text t f) ≡ Some (clock_ticks (t / ticks_per_hour) (t / ticks_per_minute % 60) (t / ticks_per_second % 60) + f)
time_ticks-time_text t f h k =
    time_by _ _ _ _ _ _ _ _ _ _ _ (longer t f) (fits_clock t f) (fraction_follows t f) (value_2 (t / ticks_per_hour) (omega arith)) (value_2 (t / ticks_per_minute % 60) (omega arith)) (value_2 (t / ticks_per_second % 60) (omega arith)) (value_7 f k) (clock_of t h)

-- the units of a time make it up
clock_ticks-units : (t : ℕ) → clock_ticks (t / ticks_per_hour) (t / ticks_per_minute % 60) (t / ticks_per_second % 60) + t % ticks_per_second ≡ t
clock_ticks-units t = omega arith

taken : (t f : ℕ) → take_while is_time_byte (time_text t f ++ codes "Z") ≡ time_text t f
taken t f = simp is_time_byte-last_digit

minus_zero : (n : ℕ) → pos n -ℤ pos 0 ≡ pos n
minus_zero n = omega (arith, ints)

after_by : (text time zone : List ℕ) (n : ℕ) → take_while is_time_byte text ≡ time → drop (length time) text ≡ zone → time_ticks time ≡ Some n → zone_ticks zone ≡ Some (pos 0) → after_date (84 ∷ text) ≡ Some (pos n)
after_by text time zone n a b c d = rw a (rw b (rw c (rw d (ap Some (minus_zero n)))))

after_date-time_text : (t f : ℕ) → t < 864000000000 → f ≡ t % ticks_per_second → after_date (84 ∷ (time_text t f ++ codes "Z")) ≡ Some (pos t)
after_date-time_text t f h e =
    let fraction : f < 10000000 = omega arith in
    let whole : clock_ticks (t / ticks_per_hour) (t / ticks_per_minute % 60) (t / ticks_per_second % 60) + f ≡ t = rw e (clock_ticks-units t) in
    after_by (time_text t f ++ codes "Z") (time_text t f) (codes "Z") t (taken t f) refl (time_ticks-time_text t f h fraction ∙ ap Some whole) refl

-- ---- a datetime

moment_by : (z w : ℤ) → z ≡ w → is_moment w ≡ true → (if is_moment z then Some z else None) ≡ Some w
moment_by z w e h = subst (λ (x : ℤ). (if is_moment x then Some x else None) ≡ Some w) (sym e) (rw h refl)

datetime_by : (text : List ℕ) (days n : ℕ) (t w : ℤ) → date_days (take 10 text) ≡ Some days → after_date (drop 10 text) ≡ Some t → (pos (days * ticks_per_day) -ℤ pos (366 * ticks_per_day)) +ℤ t ≡ w → is_moment w ≡ true → datetime_of text ≡ Some w
unfolding datetime_of
datetime_by text days n t w a b e h = rw a (rw b (moment_by _ w e h))

in_range : (n : ℕ) → is_moment (pos n) ≡ true → n ≤ 3155378975999999999
in_range n h = grind (arith, nat_tests)

moment_ticks : (n days : ℕ) → days ≡ n / ticks_per_day + 366 → (pos (days * ticks_per_day) -ℤ pos (366 * ticks_per_day)) +ℤ pos (n % ticks_per_day) ≡ pos n
moment_ticks n days e = omega (arith, ints)

-- each datetime is read from its printed form
pub datetime_of-datetime_text : (n : ℕ) → is_moment (pos n) ≡ true → datetime_of (datetime_text (pos n)) ≡ Some (pos n)
unfolding datetime_text
datetime_of-datetime_text n h =
    let day = n / ticks_per_day in
    let c = date_of_day day in
    let d = date_of_day_is day in
    let year : c.year < 10000 = rw d.year (omega (arith, year_of_day_bound day (omega (arith, in_range n h)))) in
    let month : c.month < 100 = omega (arith, d.month_to) in
    let days : c.day < 100 = omega (arith, d.day_to, (days_in_month_bounds (pos (year_of_day day)) c.month).0) in
    datetime_by _ (days_to c) n (pos (n % ticks_per_day)) (pos n)
    (date_days-date_text c (is_date-date_of_day day) year month days)
    (after_date-time_text (n % ticks_per_day) (n % ticks_per_second) (omega arith) (omega arith))
    (moment_ticks n (days_to c) (days_to-date_of_day day)) h
