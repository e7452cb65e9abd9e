-- Dates counted by years and months are those that are counted by cycles.
use Rattle.std.proofs.Common.{◌≡◌, ◌<◌, ◌≤◌, ℕ, zero, suc, ◌+◌, ◌-◌, ◌%◌, Bool, true, false, ◌&&◌, ◌||◌, ◌==◌, not, cond, List, length, take, get_or, sum, ◌⊎◌, inl, inr, refl, sym, ap, subst, ◌∙◌, arith, pos}
use Rattle.std.specs.Prelude.{◌↔◌}
use Rattle.std.proofs.lemmas.Bool.{cases_lt}
use Rattle.std.proofs.lemmas.Bool.Decides.{nat_tests}
use Rattle.std.proofs.lemmas.List.Sums.{sum_by_more}
use Rattle.jiff_core.specs.Calendar.{is_leap_year, days_in_year, days_in_month, days_of_months}
use Rattle.jiff_core.proofs.CalendarLemmas.{days_of_months-zero, days_of_months_more, days_of_months_all, days_of_months_mono}
use Rattle.kq_value_formats.specs.Civil.{Civil, is_date, days_before_year, days_to, days_of_year_0, date_of_day}
use Rattle.kq_value_formats.proofs.CivilLemmas.{IsDate, IsDate-from_test, is_date-from_IsDate, date_of_day_is, is_date-date_of_day, days_to-date_of_day, year_ends}
use Rattle.kq_run_laws.specs.Dates.{is_leap, year_length, month_lengths, days_of_first_years, HasMonthAndDay, days_before, IsDateAfter}

-- ---- lengths

either : (a b c : Bool) → ((a && not b) || c) ≡ (a && (not b || c)) ⊎ (c ≡ true) × (a ≡ false)
either true b c = inl refl
either false b true = inr (refl, refl)
either false b false = inl refl

leap_is : (y : ℕ) → is_leap y ≡ is_leap_year (pos y)
leap_is y = elim (either (y % 4 == 0) (y % 100 == 0) (y % 400 == 0)) [ inl e ↦ e | inr h ↦ absurd (grind (arith, nat_tests)) ]

year_is : (y : ℕ) → year_length y ≡ days_in_year (pos y)
year_is y = rw leap_is refl

february : (y : ℕ) → get_or (month_lengths y) 1 0 ≡ days_in_month (pos y) 2
february y = ap (λ b. cond b 29 28) (leap_is y)

month_is : (y n : ℕ) → n < 12 → get_or (month_lengths y) n 0 ≡ days_in_month (pos y) (suc n)
month_is y zero h = refl
month_is y (suc zero) h = february y
month_is y (suc (suc zero)) h = refl
month_is y (suc (suc (suc zero))) h = refl
month_is y (suc (suc (suc (suc zero)))) h = refl
month_is y (suc (suc (suc (suc (suc zero))))) h = refl
month_is y (suc (suc (suc (suc (suc (suc zero)))))) h = refl
month_is y (suc (suc (suc (suc (suc (suc (suc zero))))))) h = refl
month_is y (suc (suc (suc (suc (suc (suc (suc (suc zero)))))))) h = refl
month_is y (suc (suc (suc (suc (suc (suc (suc (suc (suc zero))))))))) h = refl
month_is y (suc (suc (suc (suc (suc (suc (suc (suc (suc (suc zero)))))))))) h = refl
month_is y (suc (suc (suc (suc (suc (suc (suc (suc (suc (suc (suc zero))))))))))) h = refl
month_is y (suc (suc (suc (suc (suc (suc (suc (suc (suc (suc (suc (suc n)))))))))))) h = absurd (omega arith)

month_at : (y m : ℕ) → 1 ≤ m → m ≤ 12 → get_or (month_lengths y) (m - 1) 0 ≡ days_in_month (pos y) m
month_at y zero low high = absurd (omega arith)
month_at y (suc m) low high = let e : suc m - 1 ≡ m = omega arith in rw e (month_is y m (omega arith))

one_more : (xs : List ℕ) (n : ℕ) → n < length xs → sum (take (suc n) xs) ≡ sum (take n xs) + get_or xs n 0
one_more xs n h = let e : n + 1 ≡ suc n = omega arith in subst (λ (k : ℕ). sum (take k xs) ≡ sum (take n xs) + get_or xs n 0) e (sum_by_more (λ x. x) xs n 0 h)

months_are : (y n : ℕ) → n ≤ 12 → sum (take n (month_lengths y)) ≡ days_of_months (pos y) n
months_are y zero h = sym (days_of_months-zero (pos y))
months_are y (suc n) h =
    let e : suc n - 1 ≡ n = omega arith in
    let more : days_of_months (pos y) (suc n) ≡ days_of_months (pos y) n + days_in_month (pos y) (suc n) = rw e at (days_of_months_more (pos y) (suc n) (omega arith)) in
    omega (arith, more, one_more (month_lengths y) n (omega arith), months_are y n (omega arith), month_is y n (omega arith))

next_year : (n : ℕ) → days_before_year (suc (suc n)) ≡ days_before_year (suc n) + year_length (suc n)
next_year n = grind (arith, nat_tests)

years_are : (n : ℕ) → days_of_first_years n + 366 ≡ days_before_year (suc n)
years_are zero = refl
years_are (suc n) = omega (arith, years_are n, next_year n)

-- ---- dates

dated_from : (c : Civil) → IsDate c → HasMonthAndDay c
dated_from c h = record {
  month_from = h.0;
  month_to = h.1;
  day_from = h.2;
  day_to = omega (arith, h.3, month_at c.year c.month h.0 h.1);
}

dated_to : (c : Civil) → HasMonthAndDay c → IsDate c
dated_to c h = (h.month_from, h.month_to, h.day_from, omega (arith, h.day_to, month_at c.year c.month h.month_from h.month_to))

pub valid : (c : Civil) → (is_date c ≡ true) ↔ HasMonthAndDay c
valid c = (λ e. dated_from c (IsDate-from_test c e), λ h. is_date-from_IsDate c (dated_to c h))

pub days : (c : Civil) → 1 ≤ c.year → HasMonthAndDay c → days_to c ≡ days_of_year_0 + days_before c
unfolding days_to
days c low h =
    let e : suc (c.year - 1) ≡ c.year = omega arith in
    let years : days_of_first_years (c.year - 1) + 366 ≡ days_before_year c.year = years_are (c.year - 1) ∙ ap days_before_year e in
    omega (arith, years, months_are c.year (c.month - 1) (omega (arith, h.month_to)))

-- ---- one date alone has so many days before it

in_year : (c : Civil) → HasMonthAndDay c → sum (take (c.month - 1) (month_lengths c.year)) + (c.day - 1) < year_length c.year
in_year c h =
    let k = dated_to c h in
    omega (arith, k.2, k.3, months_are c.year (c.month - 1) (omega (arith, h.month_to)), days_of_months_more (pos c.year) c.month k.0, days_of_months_mono (pos c.year) c.month 12 k.1, days_of_months_all (pos c.year), year_is c.year)

years_rise : (m n : ℕ) → m ≤ n → days_of_first_years m ≤ days_of_first_years n
years_rise m zero h = let e : m ≡ zero = omega arith in rw e (omega arith)
years_rise m (suc n) h = elim (cases_lt n m) [ inl lt ↦ (let e : m ≡ suc n = omega arith in rw e (omega arith)) | inr le ↦ omega (arith, years_rise m n le) ]

year_over : (y : ℕ) → 1 ≤ y → days_of_first_years (y - 1) + year_length y ≡ days_of_first_years y
year_over zero h = absurd (omega arith)
year_over (suc y) h = let e : suc y - 1 ≡ y = omega arith in rw e refl

earlier_year : (c d : Civil) → 1 ≤ c.year → HasMonthAndDay c → c.year < d.year → days_before c < days_before d
earlier_year c d low h lt = omega (arith, in_year c h, year_over c.year low, years_rise c.year (d.year - 1) (omega arith))

month_over : (c : Civil) (later : ℕ) → HasMonthAndDay c → c.month < later → later ≤ 12 → sum (take (c.month - 1) (month_lengths c.year)) + (c.day - 1) < sum (take (later - 1) (month_lengths c.year))
month_over c later h lt high =
    let k = dated_to c h in
    omega (arith, k.2, k.3, months_are c.year (c.month - 1) (omega (arith, h.month_to)), months_are c.year (later - 1) (omega arith), days_of_months_more (pos c.year) c.month k.0, days_of_months_mono (pos c.year) c.month (later - 1) (omega arith))

earlier_month : (c d : Civil) → HasMonthAndDay c → HasMonthAndDay d → c.year ≡ d.year → c.month < d.month → days_before c < days_before d
earlier_month c d h k same lt =
    let months = rw same at (month_over c d.month h lt k.month_to) in
    let years : days_of_first_years (c.year - 1) ≡ days_of_first_years (d.year - 1) = rw same refl in
    let own : sum (take (c.month - 1) (month_lengths c.year)) ≡ sum (take (c.month - 1) (month_lengths d.year)) = rw same refl in
    omega (arith, months, years, own)

same_day : (c d : Civil) → HasMonthAndDay c → HasMonthAndDay d → c.year ≡ d.year → c.month ≡ d.month → days_before c ≡ days_before d → c.day ≡ d.day
same_day c d h k y m e =
    let years : days_of_first_years (c.year - 1) ≡ days_of_first_years (d.year - 1) = rw y refl in
    let months : sum (take (c.month - 1) (month_lengths c.year)) ≡ sum (take (d.month - 1) (month_lengths d.year)) = rw (y, m) refl in
    omega (arith, e, years, months, h.day_from, k.day_from)

apart : (a b : ℕ) → (a < b → ⊥) → (b < a → ⊥) → a ≡ b
apart a b p q = elim (cases_lt a b) [ inl lt ↦ absurd (p lt) | inr le ↦ elim (cases_lt b a) [ inl lt ↦ absurd (q lt) | inr ge ↦ omega arith ] ]

one_alone : (n : ℕ) (c d : Civil) → IsDateAfter n c → IsDateAfter n d → c ≡ d
one_alone n c d h k =
    let e : days_before c ≡ days_before d = h.counted ∙ sym k.counted in
    let year : c.year ≡ d.year = apart c.year d.year (λ lt. let less = earlier_year c d h.year_from h.dated lt in omega arith) (λ lt. let less = earlier_year d c k.year_from k.dated lt in omega arith) in
    let month : c.month ≡ d.month = apart c.month d.month (λ lt. let less = earlier_month c d h.dated k.dated year lt in omega arith) (λ lt. let less = earlier_month d c k.dated h.dated (sym year) lt in omega arith) in
    let day = same_day c d h.dated k.dated year month e in
    λ i. record { year = year i; month = month i; day = day i }

year_1_on : (n y : ℕ) → n + 366 < days_before_year (suc y) → 1 ≤ y
year_1_on n zero h = absurd (omega arith)
year_1_on n (suc y) h = omega arith

its_date : (n : ℕ) → IsDateAfter n (date_of_day n)
its_date n =
    let c = date_of_day n in
    let low : 1 ≤ c.year = rw (date_of_day_is n).year (year_1_on n _ (year_ends n)) in
    let dated : HasMonthAndDay c = dated_from c (IsDate-from_test c (is_date-date_of_day n)) in
    record {
      year_from = low;
      dated = dated;
      counted = omega (arith, days c low dated, days_to-date_of_day n);
    }

pub date : (n : ℕ) (c : Civil) → (c ≡ date_of_day n) ↔ IsDateAfter n c
date n c = (λ e. subst (IsDateAfter n) (sym e) (its_date n), λ h. one_alone n c (date_of_day n) h (its_date n))
