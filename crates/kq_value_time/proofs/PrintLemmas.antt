-- What is put piece by piece is the printed form.
use Rattle.std.proofs.Common.{Bool, ◌≡◌, ◌<◌, ◌≤◌, ℕ, ◌+◌, ◌-◌, ◌*◌, ◌/◌, ◌%◌, ◌^◌, List, [], ◌∷◌, ◌++◌, length, take, length-append, append_assoc, refl, sym, ap, ◌∙◌, arith, ℤ, pos, unsigned_abs}
use Rattle.std.specs.Prelude.{codes, decimal, if◌then◌else◌, ◌==◌, int_lt}
use Rattle.std.proofs.lemmas.Fmt.{decimal_digit, decimal_step, length-decimal-le}
use Rattle.jiff_core.specs.declared.civil.date.Date.{Date}
use Rattle.kq_value_formats.specs.Numerals.{last_digit, padded}
use Rattle.kq_value_formats.specs.Civil.{Civil, date_of_day}
use Rattle.kq_value_formats.specs.Ticks.{day_of}
use Rattle.kq_value_formats.specs.Datetimes.{clock_text, date_text, datetime_text, ticks_per_day, ticks_per_second}
use Rattle.kq_value_formats.specs.Timespans.{timespan_text}
use Rattle.kq_value_time.specs.Dates.{HasDate, civil_of}

-- ---- decimal

pub decimal_one : (n : ℕ) → n < 10 → decimal n ≡ last_digit n ∷ []
unfolding last_digit
decimal_one n h = let same : 48 + n ≡ 48 + n % 10 = omega arith in rw (decimal_digit n h) (ap (λ d. d ∷ []) same)

pub decimal_more : (n : ℕ) → 10 ≤ n → n < 2 ^ 64 → decimal n ≡ decimal (n / 10) ++ last_digit n ∷ []
unfolding last_digit
decimal_more n h k = decimal_step n h k

pub length-decimal_one : (n : ℕ) → n < 10 → length (decimal n) ≡ 1
length-decimal_one n h = ap length (decimal_one n h)

pub length-decimal_more : (n : ℕ) → 10 ≤ n → n < 2 ^ 64 → length (decimal n) ≡ length (decimal (n / 10)) + 1
length-decimal_more n h k = ap length (decimal_more n h k) ∙ length-append (decimal (n / 10)) (last_digit n ∷ [])

pub length-decimal-le_8 : (n : ℕ) → n < 100000000 → length (decimal n) ≤ 8
length-decimal-le_8 n h = length-decimal-le 8 n (omega arith) h (omega arith)

pub ruleset decimal_steps = (decimal_one, decimal_more, length-decimal_one, length-decimal_more, length-decimal-le_8, append_assoc)

-- ---- a datetime

civil_of-date : (d : Date) (c : Civil) → HasDate d c → civil_of d ≡ c
civil_of-date d c h = λ i. record { year = unsigned_abs (h.0 i); month = h.1 i; day = h.2 i }

pub printed_datetime : (z : ℤ) (d : Date) (n t : ℕ) (out : List ℕ) → n ≡ day_of z → t ≡ unsigned_abs z → HasDate d (date_of_day n) → out ≡ date_text (civil_of d) ++ codes "T" ++ clock_text (t % ticks_per_day) ++ codes "." ++ padded 7 (t % ticks_per_second) ++ codes "Z" → out ≡ datetime_text z
unfolding datetime_text
printed_datetime z d n t out e f h own =
    let date : civil_of d ≡ date_of_day (day_of z) = civil_of-date d (date_of_day n) h ∙ ap date_of_day e in
    own ∙ ap (λ c. date_text c ++ codes "T" ++ clock_text (t % ticks_per_day) ++ codes "." ++ padded 7 (t % ticks_per_second) ++ codes "Z") date ∙ ap (λ n. date_text (date_of_day (day_of z)) ++ codes "T" ++ clock_text (n % ticks_per_day) ++ codes "." ++ padded 7 (n % ticks_per_second) ++ codes "Z") f

-- pieces that were put one after another
pub six_pieces : (t1 t2 t3 t4 t5 out a b c d e f : List ℕ) → t1 ≡ a → t2 ≡ t1 ++ b → t3 ≡ t2 ++ c → t4 ≡ t3 ++ d → t5 ≡ t4 ++ e → out ≡ t5 ++ f → out ≡ a ++ b ++ c ++ d ++ e ++ f
six_pieces t1 t2 t3 t4 t5 out a b c d e f h1 h2 h3 h4 h5 h6 = cc

-- ---- a timespan

pub printed_timespan : (z : ℤ) (negative : Bool) (t : ℕ) (t1 t2 t3 out : List ℕ) → negative ≡ int_lt z (pos 0) → t ≡ unsigned_abs z → t1 ≡ (if negative then codes "-" else []) → t2 ≡ t1 ++ (if t / ticks_per_day == 0 then [] else decimal (t / ticks_per_day) ++ codes ".") → t3 ≡ t2 ++ clock_text (t % ticks_per_day) → out ≡ t3 ++ (if t % ticks_per_second == 0 then [] else codes "." ++ padded 7 (t % ticks_per_second)) → out ≡ timespan_text z
unfolding timespan_text
printed_timespan z negative t t1 t2 t3 out e f h1 h2 h3 h4 = h4 ∙ rw (h3, h2, h1, e, f) refl
