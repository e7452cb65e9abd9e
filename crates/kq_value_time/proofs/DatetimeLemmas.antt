-- Texts that fit forms, and what they say.
use Rattle.std.proofs.Common.{◌≡◌, ◌≢◌, ◌<◌, ◌≤◌, ℕ, zero, suc, ◌+◌, ◌-◌, ◌*◌, ◌^◌, min, Bool, true, false, ◌&&◌, List, [], ◌∷◌, length, get_or, take, drop, length-take, Option, Some, None, refl, sym, subst, ap, ◌∙◌, arith, ℤ, pos, ◌+ℤ◌, ◌-ℤ◌}
use Rattle.std.specs.Prelude.{codes, option_map, option_and_then, ◌==◌, ◌||◌, nat_le, if◌then◌else◌}
use Rattle.std.specs.Char.{is_ascii_digit}
use Rattle.std.specs.List.{list_all, prefix_len, take_while}
use Rattle.std.specs.Str.{all_ascii_digits}
use Rattle.std.specs.Str.Parse.{digits_value}
use Rattle.std.proofs.lemmas.Bool.Decides.{nat_tests}
use Rattle.std.proofs.lemmas.List.{drop_all, drop_more, take_all}
use Rattle.std.proofs.lemmas.List.Folds.{length-prefix_len}
use Rattle.std.proofs.lemmas.Str.Parse.{IsNumeralModel, digits_value_short, numerals_by_value, tells_all_ascii_digits}
use Rattle.jiff_core.specs.declared.civil.date.Date.{Date}
use Rattle.jiff_core.specs.Date.{epoch_day}
use Rattle.jiff_core.specs.Calendar.{IsDate, days_from_civil, days_in_month}
use Rattle.jiff_core.proofs.SignedLemmas.{signed_arith}
use Rattle.kq_value_formats.specs.Civil.{Civil, days_to, is_date}
use Rattle.kq_value_formats.specs.Datetimes.{after_date, clock_ticks, date_days, datetime_of, fits, fraction_ticks, is_clock, is_fraction, is_moment, is_time_byte, number_at, ticks_per_day, time_ticks, zone_ticks}
use Rattle.kq_value_formats.proofs.CivilLemmas.{IsDate as IsCivil, IsDate-from_test, days_from_civil-days_to, is_date-from_IsDate}
use Rattle.kq_value_time.specs.Dates.{HasDate}
use Rattle.kq_value_time.specs.Parts.{capped}

-- ---- forms

abbrev pub fits_one : ℕ → ℕ → Bool
fits_one f b = if f == 48 then is_ascii_digit b else f == b

pub fits-other_length : (form text : List ℕ) → length form ≢ length text → fits form text ≡ false
fits-other_length [] [] h = absurd (h refl)
fits-other_length [] (y ∷ ys) h = refl
fits-other_length (x ∷ xs) [] h = refl
fits-other_length (x ∷ xs) (y ∷ ys) h = rw (fits-other_length xs ys (λ e. h (ap suc e))) (none (fits_one x y))
  where
    none : (b : Bool) → (b && false) ≡ false
    none true = refl
    none false = refl

pub fits-more : (form text : List ℕ) (place : ℕ) → place < length form → place < length text → fits_one (get_or form place 0) (get_or text place 0) ≡ true → fits (drop place form) (drop place text) ≡ fits (drop (place + 1) form) (drop (place + 1) text)
fits-more form text place h k e = rw (drop_more form place 0 h, drop_more text place 0 k, e) refl

pub fits-not : (form text : List ℕ) (place : ℕ) → place < length form → place < length text → fits_one (get_or form place 0) (get_or text place 0) ≡ false → fits (drop place form) (drop place text) ≡ false
fits-not form text place h k e = rw (drop_more form place 0 h, drop_more text place 0 k, e) refl

pub fits-end : (form text : List ℕ) (place : ℕ) → length form ≤ place → length text ≤ place → fits (drop place form) (drop place text) ≡ true
fits-end form text place h k = rw (drop_all place form h, drop_all place text k) refl

pub ruleset fits_lemmas = (fits-other_length, fits-more, fits-not, fits-end)

both_true : (a b : Bool) → (a && b) ≡ true → (a ≡ true) × (b ≡ true)
both_true true b h = (refl, h)
both_true false b h = absurd cc

pub fits-length : (form text : List ℕ) → fits form text ≡ true → length text ≡ length form
fits-length [] [] h = refl
fits-length [] (y ∷ ys) h = absurd cc
fits-length (x ∷ xs) [] h = absurd cc
fits-length (x ∷ xs) (y ∷ ys) h = ap suc (fits-length xs ys (both_true (fits_one x y) (fits xs ys) h).1)

abbrev pub all_zeros : List ℕ → Bool
all_zeros form = list_all (λ f. f == 48) form

first_digits : (n : ℕ) (form text : List ℕ) → fits form text ≡ true → all_zeros (take n form) ≡ true → all_ascii_digits (take n text) ≡ true
first_digits zero form text h k = refl
first_digits (suc n) [] [] h k = refl
first_digits (suc n) [] (y ∷ ys) h k = absurd cc
first_digits (suc n) (x ∷ xs) [] h k = absurd cc
first_digits (suc n) (x ∷ xs) (y ∷ ys) h k =
    let p = both_true (fits_one x y) (fits xs ys) h in
    let q = both_true (x == 48) (all_zeros (take n xs)) k in
    let digit : is_ascii_digit y ≡ true = rw q.0 at p.0 in
    rw (digit, first_digits n xs ys p.1 q.1) refl

-- digits stand where the form has zeros
pub form_digits : (from n : ℕ) (form text : List ℕ) → fits form text ≡ true → all_zeros (take n (drop from form)) ≡ true → all_ascii_digits (take n (drop from text)) ≡ true
form_digits zero n form text h k = first_digits n form text h k
form_digits (suc from) n [] [] h k = first_digits n [] [] refl k
form_digits (suc from) n [] (y ∷ ys) h k = absurd cc
form_digits (suc from) n (x ∷ xs) [] h k = absurd cc
form_digits (suc from) n (x ∷ xs) (y ∷ ys) h k = form_digits from n xs ys (both_true (fits_one x y) (fits xs ys) h).1 k

-- ---- numbers

model : IsNumeralModel (λ ds. all_ascii_digits ds ≡ true) (digits_value 10)
model = numerals_by_value (λ ds. all_ascii_digits ds ≡ true) tells_all_ascii_digits

pub number_at-lt : (text : List ℕ) (from count : ℕ) → all_ascii_digits (take count (drop from text)) ≡ true → number_at text from count < 10 ^ count
number_at-lt text from count h = digits_value_short model (take count (drop from text)) count h (omega (arith, length-take {A = ℕ}))

power_of_four : (n : ℕ) → n ≤ 4 → 10 ^ n ≤ 10000
power_of_four zero h = omega arith
power_of_four (suc zero) h = omega arith
power_of_four (suc (suc zero)) h = omega arith
power_of_four (suc (suc (suc zero))) h = omega arith
power_of_four (suc (suc (suc (suc zero)))) h = omega arith
power_of_four (suc (suc (suc (suc (suc n))))) h = absurd (omega arith)

pub number_at-capped : (text : List ℕ) (from count n : ℕ) → count ≤ 4 → all_ascii_digits (take count (drop from text)) ≡ true → n ≡ capped (digits_value 10 (take count (drop from text))) → n ≡ number_at text from count
number_at-capped text from count n few h e = e ∙ omega (arith, number_at-lt text from count h, power_of_four count few)

pub ruleset number_lemmas = (number_at-lt, number_at-capped)

-- ---- dates

date_days-by : (c : Civil) (f : Bool) → f ≡ true → is_date c ≡ true → (if f && is_date c then Some (days_to c) else None) ≡ Some (days_to c)
date_days-by c f e h = rw (e, h) refl

abbrev civil_at : List ℕ → Civil
civil_at text = record { year = number_at text 0 4; month = number_at text 5 2; day = number_at text 8 2 }

epoch_day-civil : (d : Date) (c : Civil) → HasDate d c → epoch_day d ≡ days_from_civil (pos c.year) c.month c.day
epoch_day-civil d c h = ap (λ y. days_from_civil y d.month d.day) h.0 ∙ ap (λ m. days_from_civil (pos c.year) m d.day) h.1 ∙ ap (λ k. days_from_civil (pos c.year) c.month k) h.2

is_date-date : (d : Date) (c : Civil) → HasDate d c → is_date c ≡ true
is_date-date d c h =
    let same : days_in_month d.year d.month ≡ days_in_month (pos c.year) c.month = ap (λ y. days_in_month y d.month) h.0 ∙ ap (λ m. days_in_month (pos c.year) m) h.1 in
    let last : c.day ≤ days_in_month (pos c.year) c.month = subst (λ n. c.day ≤ n) same (subst (λ k. k ≤ days_in_month d.year d.month) h.2 d.day_in.1) in
    is_date-from_IsDate c (rw (← h.1) d.month_in.0, rw (← h.1) d.month_in.1, rw (← h.2) d.day_in.0, last)

pub date_read : (text : List ℕ) (d : Date) (r : ℕ) → fits (codes "0000-00-00") text ≡ true → d.year ≡ pos (number_at text 0 4) → d.month ≡ number_at text 5 2 → d.day ≡ number_at text 8 2 → epoch_day d +ℤ pos 4371587 ≡ pos r → (3652059 ≤ r) × (Some (r - 3652059) ≡ date_days text)
date_read text d r h year month day e =
    let c = civil_at text in
    let has : HasDate d c = (year, month, day) in
    let from : 1 ≤ c.day = rw (← day) d.day_in.0 in
    let value : r ≡ days_to c + 3652059 = omega (arith, signed_arith, epoch_day-civil d c has, days_from_civil-days_to c from, e) in
    let rest : r - 3652059 ≡ days_to c = omega arith in
    (omega arith, ap Some rest ∙ sym (date_days-by c (fits (codes "0000-00-00") text) h (is_date-date d c has)))

no_date : (c : Civil) (f b : Bool) → is_date c ≡ b → (IsCivil c → ⊥) → None ≡ (if f && is_date c then Some (days_to c) else None)
no_date c f true e h = absurd (h (IsDate-from_test c e))
no_date c true false e h = rw e refl
no_date c false false e h = refl

pub date_unread : (text : List ℕ) (y m d : ℤ) → fits (codes "0000-00-00") text ≡ true → y ≡ pos (number_at text 0 4) → m ≡ pos (number_at text 5 2) → d ≡ pos (number_at text 8 2) → (IsDate y m d → ⊥) → None ≡ date_days text
date_unread text y m d h e f g never =
    let c = civil_at text in
    let year : c.year < 10000 = number_at-lt text 0 4 (form_digits 0 4 (codes "0000-00-00") text h refl) in
    let own : IsCivil c → IsDate (pos c.year) (pos c.month) (pos c.day) = λ k. ((omega (arith, signed_arith), omega (arith, signed_arith)), (omega (arith, signed_arith, k.0), omega (arith, signed_arith, k.1)), (omega (arith, signed_arith, k.2), omega (arith, signed_arith, k.3))) in
    let from : IsCivil c → IsDate y m d = λ k. subst (λ x. IsDate x m d) (sym e) (subst (λ x. IsDate (pos c.year) x d) (sym f) (subst (λ x. IsDate (pos c.year) (pos c.month) x) (sym g) (own k))) in
    no_date c (fits (codes "0000-00-00") text) (is_date c) refl (λ k. never (from k))

-- ---- times

pub take_to : (n k : ℕ) (xs : List ℕ) → k ≡ min (length xs) n → take k xs ≡ take n xs
take_to n k xs e = by_length n k xs (nat_le n (length xs)) refl e
  where
    by_length : (n k : ℕ) (xs : List ℕ) (b : Bool) → nat_le n (length xs) ≡ b → k ≡ min (length xs) n → take k xs ≡ take n xs
    by_length n k xs true h e = let same : k ≡ n = grind (arith, nat_tests) in rw same refl
    by_length n k xs false h e =
        let whole : length xs ≤ k = grind (arith, nat_tests) in
        let less : length xs ≤ n = grind (arith, nat_tests) in
        take_all k xs whole ∙ sym (take_all n xs less)

pub drop_to : (n k : ℕ) (xs : List ℕ) → k ≡ min (length xs) n → drop k xs ≡ drop n xs
drop_to n k xs e = by_length n k xs (nat_le n (length xs)) refl e
  where
    by_length : (n k : ℕ) (xs : List ℕ) (b : Bool) → nat_le n (length xs) ≡ b → k ≡ min (length xs) n → drop k xs ≡ drop n xs
    by_length n k xs true h e = let same : k ≡ n = grind (arith, nat_tests) in rw same refl
    by_length n k xs false h e =
        let whole : length xs ≤ k = grind (arith, nat_tests) in
        let less : length xs ≤ n = grind (arith, nat_tests) in
        drop_all k xs whole ∙ sym (drop_all n xs less)

drop-one : (k : ℕ) (xs : List ℕ) → drop 1 (drop k xs) ≡ drop (suc k) xs
drop-one zero xs = refl
drop-one (suc k) [] = refl
drop-one (suc k) (x ∷ xs) = drop-one k xs

-- what stands within the first k bytes
front_same : (from n k : ℕ) (xs : List ℕ) → from + n ≤ k → take n (drop from (take k xs)) ≡ take n (drop from xs)
front_same zero n k xs h = first_same n k xs (omega arith)
  where
    first_same : (n k : ℕ) (xs : List ℕ) → n ≤ k → take n (take k xs) ≡ take n xs
    first_same zero k xs h = refl
    first_same (suc n) zero xs h = absurd (omega arith)
    first_same (suc n) (suc k) [] h = refl
    first_same (suc n) (suc k) (x ∷ xs) h = ap (λ ys. x ∷ ys) (first_same n k xs (omega arith))
front_same (suc from) n zero xs h = absurd (omega arith)
front_same (suc from) n (suc k) [] h = refl
front_same (suc from) n (suc k) (x ∷ xs) h = front_same from n k xs (omega arith)

-- ---- the whole text

time_by : (short full part own : Bool) (h m s f hour minute second fraction : ℕ) → short ≡ false → full ≡ true → part ≡ own → h ≡ hour → m ≡ minute → s ≡ second → f ≡ fraction → (if short && is_clock h m 0 then Some (clock_ticks h m 0) else (if full && part && is_clock h m s then Some (clock_ticks h m s + f) else None)) ≡ (if own && is_clock hour minute second then Some (clock_ticks hour minute second + fraction) else None)
time_by short full part own h m s f hour minute second fraction a b c d e g i = rw (a, b, c, d, e, g, i) refl

pub time_long : (text clock rest : List ℕ) (hour minute second : ℕ) → fits (codes "00:00") text ≡ false → clock ≡ take 8 text → rest ≡ drop 8 text → fits (codes "00:00:00") clock ≡ true → hour ≡ number_at clock 0 2 → minute ≡ number_at clock 3 2 → second ≡ number_at clock 6 2 → time_ticks text ≡ (if is_fraction rest && is_clock hour minute second then Some (clock_ticks hour minute second + fraction_ticks (drop 1 rest)) else None)
time_long text clock rest hour minute second h e f k a b c =
    let same : (from : ℕ) → from + 2 ≤ 8 → number_at text from 2 ≡ number_at clock from 2 = λ from le. ap (digits_value 10) (sym (front_same from 2 8 text le)) ∙ ap (λ c. number_at c from 2) (sym e) in
    time_by (fits (codes "00:00") text) (fits (codes "00:00:00") (take 8 text)) (is_fraction (drop 8 text)) (is_fraction rest) (number_at text 0 2) (number_at text 3 2) (number_at text 6 2) (fraction_ticks (drop 9 text)) hour minute second (fraction_ticks (drop 1 rest))
    h (ap (fits (codes "00:00:00")) (sym e) ∙ k) (ap is_fraction (sym f)) (same 0 (omega arith) ∙ sym a) (same 3 (omega arith) ∙ sym b) (same 6 (omega arith) ∙ sym c) (ap fraction_ticks (sym (drop-one 8 text) ∙ ap (drop 1) (sym f)))

pub time_unlike : (text clock : List ℕ) → fits (codes "00:00") text ≡ false → clock ≡ take 8 text → fits (codes "00:00:00") clock ≡ false → None ≡ time_ticks text
time_unlike text clock h e k = let own : fits (codes "00:00:00") (take 8 text) ≡ false = rw (← e) k in rw (h, own) refl

pub part_missing : (part clock : Bool) (b c : ℕ) → None ≡ (if part then Some b else None) → None ≡ (if part && clock then Some c else None)
part_missing true clock b c e = absurd cc
part_missing false clock b c e = refl

pub clock_missing : (part clock : Bool) (a c : ℕ) → None ≡ (if clock then Some a else None) → None ≡ (if part && clock then Some c else None)
clock_missing true true a c e = absurd cc
clock_missing true false a c e = refl
clock_missing false clock a c e = refl

pub parts_found : (part clock : Bool) (a b n m : ℕ) → Some n ≡ (if clock then Some a else None) → Some m ≡ (if part then Some b else None) → Some (n + m) ≡ (if part && clock then Some (a + b) else None)
parts_found true true a b n m e f = cc
parts_found false clock a b n m e f = absurd cc
parts_found true false a b n m e f = absurd cc

after_by : (sep : ℕ) (rest : List ℕ) (b : Bool) (time : Option ℕ) (offset : Option ℤ) → (sep == 84 || sep == 32) ≡ b → time ≡ time_ticks (take_while is_time_byte rest) → offset ≡ zone_ticks (drop (length (take_while is_time_byte rest)) rest) → after_date (sep ∷ rest) ≡ (if b then option_and_then (λ ticks. option_map (λ ahead. pos ticks -ℤ ahead) offset) time else None)
after_by sep rest b time offset e f g = rw (e, f, g) refl

pub after_found : (text rest : List ℕ) (sep ticks : ℕ) (ahead z : ℤ) → text ≡ sep ∷ rest → (sep == 84 || sep == 32) ≡ true → Some ticks ≡ time_ticks (take (prefix_len is_time_byte rest) rest) → Some ahead ≡ zone_ticks (drop (prefix_len is_time_byte rest) rest) → z ≡ pos ticks -ℤ ahead → Some z ≡ after_date text
after_found text rest sep ticks ahead z e b f g h =
    let zone : Some ahead ≡ zone_ticks (drop (length (take_while is_time_byte rest)) rest) = rw (length-prefix_len is_time_byte rest) g in
    ap Some h ∙ sym (ap after_date e ∙ after_by sep rest true (Some ticks) (Some ahead) b f zone)

moment_by : (text : List ℕ) (days : Option ℕ) (after : Option ℤ) → days ≡ date_days (take 10 text) → after ≡ after_date (drop 10 text) → datetime_of text ≡ option_and_then (λ days. option_and_then (λ ticks. let z = (pos (days * ticks_per_day) -ℤ pos (366 * ticks_per_day)) +ℤ ticks in if is_moment z then Some z else None) after) days
unfolding datetime_of
moment_by text days after e f = rw (e, f) refl

pub no_date_read : (text : List ℕ) → None ≡ date_days (take 10 text) → None ≡ datetime_of text
no_date_read text e = sym (moment_by text None (after_date (drop 10 text)) e refl)

pub no_time_read : (text : List ℕ) (days : ℕ) → Some days ≡ date_days (take 10 text) → None ≡ after_date (drop 10 text) → None ≡ datetime_of text
no_time_read text days e f = sym (moment_by text (Some days) None e f)

pub moment_read : (text : List ℕ) (days : ℕ) (ticks z : ℤ) → Some days ≡ date_days (take 10 text) → Some ticks ≡ after_date (drop 10 text) → z ≡ (pos (days * ticks_per_day) -ℤ pos (366 * ticks_per_day)) +ℤ ticks → (if is_moment z then Some z else None) ≡ datetime_of text
moment_read text days ticks z e f h = subst (λ x. (if is_moment x then Some x else None) ≡ datetime_of text) (sym h) (sym (moment_by text (Some days) (Some ticks) e f))
