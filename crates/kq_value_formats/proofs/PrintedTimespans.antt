-- Printed longs and timespans are read back.
use Rattle.std.proofs.Common.{◌≡◌, ◌<◌, ◌≤◌, ℕ, suc, ◌+◌, ◌*◌, ◌/◌, ◌%◌, ◌^◌, Bool, true, false, not, ◌&&◌, nat_le, List, [], ◌∷◌, ◌++◌, length, append-nil, append_assoc, Option, Some, None, refl, sym, ap, ◌∙◌, subst, arith, ℤ, pos, negsuc}
use Rattle.std.specs.Prelude.{codes, decimal, if◌then◌else◌, ◌==◌, int_lt}
use Rattle.std.specs.Char.{is_ascii_digit}
use Rattle.std.specs.Fmt.{signed_decimal}
use Rattle.std.specs.List.{list_all}
use Rattle.std.specs.Option.{option_or}
use Rattle.std.specs.Str.{all_ascii_digits}
use Rattle.std.specs.Str.Parse.{digits_value}
use Rattle.std.proofs.lemmas.Bool.Decides.{nat_tests}
use Rattle.std.proofs.lemmas.Fmt.{decimal_is_IsNumeral, digits_decimal}
use Rattle.std.proofs.lemmas.Str.Parse.{IsNumeralModel, numerals_by_value, tells_all_ascii_digits}
use Rattle.kq_value_formats.specs.Numerals.{begins_with_minus, if_passes, is_long, is_numeral, long_of, numeral_of, padded}
use Rattle.kq_value_formats.specs.Datetimes.{clock_text, ticks_per_day, ticks_per_hour, ticks_per_minute, ticks_per_second}
use Rattle.kq_value_formats.specs.Timespans.{token_ticks, clock_parts_ticks, decimals_ticks, hours_ticks, magnitude_ticks, pieces, seconds_ticks, short_numeral, timespan_of, timespan_text}
use Rattle.kq_value_formats.proofs.PrintedDatetimes.{is_ascii_digit-last_digit, value_2, value_7}

-- ---- a number in decimal

model : IsNumeralModel (λ ds. all_ascii_digits ds ≡ true) (digits_value 10)
model = numerals_by_value (λ ds. all_ascii_digits ds ≡ true) tells_all_ascii_digits

decimal_digits : (n : ℕ) → n < 2 ^ 64 → all_ascii_digits (decimal n) ≡ true
decimal_digits n h = digits_decimal model n h

some_digits : (n : ℕ) → n < 2 ^ 64 → 0 < length (decimal n)
some_digits n h = (decimal_is_IsNumeral n h).0.0

numeral_by : (text : List ℕ) (n : ℕ) → 0 < length text → all_ascii_digits text ≡ true → digits_value 10 text ≡ n → numeral_of text ≡ Some n
numeral_by text n some digits e = let h : is_numeral text ≡ true = grind (arith, nat_tests) in rw (h, e) refl

numeral_of-decimal : (n : ℕ) → n < 2 ^ 64 → numeral_of (decimal n) ≡ Some n
numeral_of-decimal n h = numeral_by (decimal n) n (some_digits n h) (decimal_digits n h) (decimal_is_IsNumeral n h).1

no_minus : (ds rest : List ℕ) → 0 < length ds → all_ascii_digits ds ≡ true → begins_with_minus (ds ++ rest) ≡ false
no_minus [] rest h e = absurd (omega arith)
no_minus (d ∷ ds) rest h e = first_digit d (all_ascii_digits ds) e
  where
    first_digit : (d : ℕ) (others : Bool) → (is_ascii_digit d && others) ≡ true → (d == 45) ≡ false
    first_digit d others e = grind (arith, nat_tests)

passes : (z w : ℤ) → z ≡ w → is_long w ≡ true → if_passes is_long z ≡ Some w
passes z w e h = subst (λ (x : ℤ). if_passes is_long x ≡ Some w) (sym e) (rw h refl)

long_by : (text : List ℕ) (n : ℕ) (w : ℤ) → begins_with_minus text ≡ false → numeral_of text ≡ Some n → pos n ≡ w → is_long w ≡ true → long_of text ≡ Some w
unfolding long_of
long_by text n w a b c d = rw a (rw b (passes (pos n) w c d))

within : (n : ℕ) → is_long (pos n) ≡ true → n < 2 ^ 64
within n h = grind (arith, nat_tests)

within_negative : (n : ℕ) → is_long (negsuc n) ≡ true → suc n < 2 ^ 64
within_negative n h = grind (arith, nat_tests)

-- each long is read from its printed form
pub long_of-signed_decimal : (z : ℤ) → is_long z ≡ true → long_of (signed_decimal z) ≡ Some z
unfolding long_of
long_of-signed_decimal (pos n) h =
    let small = within n h in
    let plain : begins_with_minus (decimal n) ≡ false = rw append-nil at (no_minus (decimal n) [] (some_digits n small) (decimal_digits n small)) in
    rw plain (rw (numeral_of-decimal n small) (passes (pos n) (pos n) refl h))
long_of-signed_decimal (negsuc n) h = rw (numeral_of-decimal (suc n) (within_negative n h)) (passes (negsuc n) (negsuc n) refl h)

-- ---- texts between separators

abbrev lacks : ℕ → List ℕ → Bool
lacks separator text = list_all (λ b. not (b == separator)) text

one_lacks : (b c : Bool) → (not b && c) ≡ true → (b ≡ false) × (c ≡ true)
one_lacks false c h = (refl, h)
one_lacks true c h = absurd (cc)

-- the pieces of a text that ends at a separator, and of one that has none
pieces-at : (separator : ℕ) (xs ys : List ℕ) → lacks separator xs ≡ true → pieces separator (xs ++ separator ∷ ys) ≡ xs ∷ pieces separator ys
pieces-at separator [] ys h = let here : (separator == separator) ≡ true = grind (arith, nat_tests) in rw here refl
pieces-at separator (x ∷ xs) ys h =
    let p = one_lacks (x == separator) (lacks separator xs) h in
    rw (p.0, pieces-at separator xs ys p.1) refl

pieces-none : (separator : ℕ) (xs : List ℕ) → lacks separator xs ≡ true → pieces separator xs ≡ xs ∷ []
pieces-none separator [] h = refl
pieces-none separator (x ∷ xs) h =
    let p = one_lacks (x == separator) (lacks separator xs) h in
    rw (p.0, pieces-none separator xs p.1) refl

lacks-append : (separator : ℕ) (xs ys : List ℕ) → lacks separator xs ≡ true → lacks separator ys ≡ true → lacks separator (xs ++ ys) ≡ true
lacks-append separator [] ys h k = k
lacks-append separator (x ∷ xs) ys h k =
    let p = one_lacks (x == separator) (lacks separator xs) h in
    rw (p.0, lacks-append separator xs ys p.1 k) refl

-- digits are neither a point nor a colon
digits_lack : (separator : ℕ) (xs : List ℕ) → is_ascii_digit separator ≡ false → all_ascii_digits xs ≡ true → lacks separator xs ≡ true
digits_lack separator [] h k = refl
digits_lack separator (x ∷ xs) h k =
    let p = digit_first (is_ascii_digit x) (all_ascii_digits xs) k in
    let other : (x == separator) ≡ false = apart x separator p.0 h in
    rw (other, digits_lack separator xs h p.1) refl
  where
    digit_first : (b c : Bool) → (b && c) ≡ true → (b ≡ true) × (c ≡ true)
    digit_first true c h = (refl, h)
    digit_first false c h = absurd (cc)

    apart : (x y : ℕ) → is_ascii_digit x ≡ true → is_ascii_digit y ≡ false → (x == y) ≡ false
    apart x y h k = grind (arith, nat_tests)

not_numeral : (xs ys : List ℕ) → all_ascii_digits (xs ++ 58 ∷ ys) ≡ false
not_numeral [] ys = refl
not_numeral (x ∷ xs) ys = rw (not_numeral xs ys) (no_more (is_ascii_digit x))
  where
    no_more : (b : Bool) → (b && false) ≡ false
    no_more true = refl
    no_more false = refl

-- ---- the parts of a timespan

abbrev two_digits : ℕ → List ℕ
two_digits n = padded 2 n

two_digits_pass : (n : ℕ) → all_ascii_digits (two_digits n) ≡ true
two_digits_pass n = simp is_ascii_digit-last_digit

seven_digits_pass : (n : ℕ) → all_ascii_digits (padded 7 n) ≡ true
seven_digits_pass n = simp is_ascii_digit-last_digit

bounded : (n most : ℕ) → n ≤ most → nat_le n most ≡ true
bounded n most h = grind (arith, nat_tests)

short_by : (text : List ℕ) (most n : ℕ) → numeral_of text ≡ Some n → nat_le (length text) 2 ≡ true → nat_le n most ≡ true → short_numeral most text ≡ Some n
short_by text most n a b c = rw a (rw (b, c) refl)

short_numeral-two_digits : (most n : ℕ) → n ≤ most → n < 100 → short_numeral most (two_digits n) ≡ Some n
short_numeral-two_digits most n h k = short_by (two_digits n) most n (numeral_by (two_digits n) n (omega arith) (two_digits_pass n) (value_2 n k)) refl (bounded n most h)

abbrev days_part : ℕ → List ℕ
days_part d = if d == 0 then [] else decimal d ++ codes "."

abbrev fraction_part : ℕ → List ℕ
fraction_part f = if f == 0 then [] else codes "." ++ padded 7 f

decimals_by : (f : ℕ) → f < 10000000 → decimals_ticks (padded 7 f) ≡ Some f
decimals_by f h = rw (seven_digits_pass f) (ap Some (value_7 f h))

seconds_by : (s f : ℕ) (none : Bool) → s < 60 → f < 10000000 → (f == 0) ≡ none → seconds_ticks (pieces 46 (two_digits s ++ (if none then [] else codes "." ++ padded 7 f))) ≡ Some (s * ticks_per_second + f)
seconds_by s f true h k e =
    let zero_f : f ≡ 0 = grind (arith, nat_tests) in
    let alone : pieces 46 (two_digits s) ≡ two_digits s ∷ [] = pieces-none 46 (two_digits s) (digits_lack 46 (two_digits s) refl (two_digits_pass s)) in
    rw alone (rw (short_numeral-two_digits 59 s (omega arith) (omega arith)) (ap Some (omega arith)))
seconds_by s f false h k e =
    let parts : pieces 46 (two_digits s ++ 46 ∷ padded 7 f) ≡ two_digits s ∷ pieces 46 (padded 7 f) = pieces-at 46 (two_digits s) (padded 7 f) (digits_lack 46 (two_digits s) refl (two_digits_pass s)) in
    let last : pieces 46 (padded 7 f) ≡ padded 7 f ∷ [] = pieces-none 46 (padded 7 f) (digits_lack 46 (padded 7 f) refl (seven_digits_pass f)) in
    rw parts (rw last (rw (short_numeral-two_digits 59 s (omega arith) (omega arith)) (rw (decimals_by f k) (ap Some (omega arith)))))

-- what stands before the colons, and what follows the last of them
record IsHours (days hours : List ℕ) (ticks : ℕ) : Type 0 where
  no_colon : lacks 58 days ≡ true
  ticks_are : hours_ticks (pieces 46 (days ++ hours)) ≡ Some ticks
  no_sign : (rest : List ℕ) → begins_with_minus (days ++ (hours ++ rest)) ≡ false

hours_by : (d h : ℕ) (none : Bool) → d < 2 ^ 64 → h < 24 → (d == 0) ≡ none → IsHours (if none then [] else decimal d ++ codes ".") (two_digits h) (d * ticks_per_day + h * ticks_per_hour)
hours_by d h true k l e =
    let zero_d : d ≡ 0 = grind (arith, nat_tests) in
    let alone : pieces 46 (two_digits h) ≡ two_digits h ∷ [] = pieces-none 46 (two_digits h) (digits_lack 46 (two_digits h) refl (two_digits_pass h)) in
    record {
      no_colon = refl;
      ticks_are = rw alone (rw (short_numeral-two_digits 23 h (omega arith) (omega arith)) (ap Some (omega arith)));
      no_sign = λ rest. no_minus (two_digits h) rest (omega arith) (two_digits_pass h);
    }
hours_by d h false k l e =
    let digits = decimal_digits d k in
    let parts : pieces 46 (decimal d ++ 46 ∷ two_digits h) ≡ decimal d ∷ pieces 46 (two_digits h) = pieces-at 46 (decimal d) (two_digits h) (digits_lack 46 (decimal d) refl digits) in
    let last : pieces 46 (two_digits h) ≡ two_digits h ∷ [] = pieces-none 46 (two_digits h) (digits_lack 46 (two_digits h) refl (two_digits_pass h)) in
    record {
      no_colon = lacks-append 58 (decimal d) (codes ".") (digits_lack 58 (decimal d) refl digits) refl;
      ticks_are = rw append_assoc (rw parts (rw last (rw (numeral_of-decimal d k) (rw (short_numeral-two_digits 23 h (omega arith) (omega arith)) refl))));
      no_sign = λ rest. rw append_assoc (no_minus (decimal d) (46 ∷ (two_digits h ++ rest)) (some_digits d k) digits);
    }

abbrev span_text : List ℕ → ℕ → ℕ → ℕ → List ℕ → List ℕ
span_text days h m s fraction = days ++ (two_digits h ++ 58 ∷ (two_digits m ++ 58 ∷ (two_digits s ++ fraction)))

parts_by : (days fraction : List ℕ) (h m s ticks seconds : ℕ) → IsHours days (two_digits h) ticks → m < 60 → lacks 58 fraction ≡ true → seconds_ticks (pieces 46 (two_digits s ++ fraction)) ≡ Some seconds → clock_parts_ticks (pieces 58 (span_text days h m s fraction)) ≡ Some ((ticks * 1 + m * ticks_per_minute) * 1 + seconds * 1)
parts_by days fraction h m s ticks seconds hours k l e =
    let after : List ℕ = two_digits s ++ fraction in
    let later : List ℕ = two_digits m ++ 58 ∷ after in
    let lacks_hours : lacks 58 (days ++ two_digits h) ≡ true = lacks-append 58 days (two_digits h) hours.no_colon (digits_lack 58 (two_digits h) refl (two_digits_pass h)) in
    let lacks_seconds : lacks 58 after ≡ true = lacks-append 58 (two_digits s) fraction (digits_lack 58 (two_digits s) refl (two_digits_pass s)) l in
    let first : pieces 58 ((days ++ two_digits h) ++ 58 ∷ later) ≡ (days ++ two_digits h) ∷ pieces 58 later = pieces-at 58 (days ++ two_digits h) later lacks_hours in
    let second : pieces 58 later ≡ two_digits m ∷ pieces 58 after = pieces-at 58 (two_digits m) after (digits_lack 58 (two_digits m) refl (two_digits_pass m)) in
    let third : pieces 58 after ≡ after ∷ [] = pieces-none 58 after lacks_seconds in
    let whole : pieces 58 (span_text days h m s fraction) ≡ (days ++ two_digits h) ∷ two_digits m ∷ after ∷ [] = ap (pieces 58) (sym (append_assoc days (two_digits h) (58 ∷ later))) ∙ first ∙ ap (λ ps. (days ++ two_digits h) ∷ ps) (second ∙ ap (λ ps. two_digits m ∷ ps) third) in
    rw whole (rw hours.ticks_are (rw (short_numeral-two_digits 59 m (omega arith) (omega arith)) (rw e refl)))

-- ---- a timespan

fraction_lacks : (f : ℕ) (none : Bool) → lacks 58 (if none then [] else codes "." ++ padded 7 f) ≡ true
fraction_lacks f true = refl
fraction_lacks f false = digits_lack 58 (padded 7 f) refl (seven_digits_pass f)

abbrev hours_in : ℕ → ℕ
hours_in n = n % ticks_per_day / ticks_per_hour

abbrev minutes_in : ℕ → ℕ
minutes_in n = n % ticks_per_day / ticks_per_minute % 60

abbrev seconds_in : ℕ → ℕ
seconds_in n = n % ticks_per_day / ticks_per_second % 60

abbrev whole_text : ℕ → List ℕ
whole_text n = span_text (days_part (n / ticks_per_day)) (hours_in n) (minutes_in n) (seconds_in n) (fraction_part (n % ticks_per_second))

units : (n : ℕ) → ((n / ticks_per_day * ticks_per_day + hours_in n * ticks_per_hour) * 1 + minutes_in n * ticks_per_minute) * 1 + (seconds_in n * ticks_per_second + n % ticks_per_second) * 1 ≡ n
units n = omega arith

first_of : (o p : Option ℕ) (n m : ℕ) → o ≡ Some m → m ≡ n → option_or o p ≡ Some n
first_of o p n m e h = rw e (ap Some h)

magnitude_ticks-whole_text : (n : ℕ) → n < 2 ^ 64 → magnitude_ticks (whole_text n) ≡ Some n
magnitude_ticks-whole_text n h =
    let d = n / ticks_per_day in
    let f = n % ticks_per_second in
    first_of (clock_parts_ticks (pieces 58 (whole_text n))) (token_ticks (whole_text n)) n _
    (parts_by (days_part d) (fraction_part f) (hours_in n) (minutes_in n) (seconds_in n) (d * ticks_per_day + hours_in n * ticks_per_hour) (seconds_in n * ticks_per_second + f)
    (hours_by d (hours_in n) (d == 0) (omega arith) (omega arith) refl) (omega arith) (fraction_lacks f (f == 0)) (seconds_by (seconds_in n) f (f == 0) (omega arith) (omega arith) refl))
    (units n)

none_by : (text : List ℕ) → all_ascii_digits text ≡ false → numeral_of text ≡ None
none_by text h = let none : is_numeral text ≡ false = grind (arith, nat_tests) in rw none refl

numeral_of-whole_text : (n : ℕ) → numeral_of (whole_text n) ≡ None
numeral_of-whole_text n =
    let days = days_part (n / ticks_per_day) in
    let hours = two_digits (hours_in n) in
    let later : List ℕ = two_digits (minutes_in n) ++ 58 ∷ (two_digits (seconds_in n) ++ fraction_part (n % ticks_per_second)) in
    none_by (whole_text n) (ap all_ascii_digits (sym (append_assoc days hours (58 ∷ later))) ∙ not_numeral (days ++ hours) later)

positive : (text : List ℕ) (n : ℕ) → begins_with_minus text ≡ false → numeral_of text ≡ None → magnitude_ticks text ≡ Some n → is_long (pos n) ≡ true → timespan_of text ≡ Some (pos n)
unfolding timespan_of
positive text n a b c h = rw a (rw b (rw c (passes (pos n) (pos n) refl h)))

negative : (text : List ℕ) (n : ℕ) → magnitude_ticks text ≡ Some (suc n) → is_long (negsuc n) ≡ true → timespan_of (45 ∷ text) ≡ Some (negsuc n)
unfolding timespan_of
negative text n c h = rw c (passes (negsuc n) (negsuc n) refl h)

not_below : (n : ℕ) → int_lt (pos n) (pos 0) ≡ false
not_below n = grind (arith, nat_tests)

timespan_text-pos : (n : ℕ) → timespan_text (pos n) ≡ whole_text n
unfolding timespan_text
timespan_text-pos n = rw (not_below n) (append_assoc (days_part (n / ticks_per_day)) (clock_text (n % ticks_per_day)) (fraction_part (n % ticks_per_second)))

timespan_text-negsuc : (n : ℕ) → timespan_text (negsuc n) ≡ 45 ∷ whole_text (suc n)
unfolding timespan_text
timespan_text-negsuc n = ap (λ text. 45 ∷ text) (append_assoc (days_part (suc n / ticks_per_day)) (clock_text (suc n % ticks_per_day)) (fraction_part (suc n % ticks_per_second)))

-- each timespan is read from its printed form
pub timespan_of-timespan_text : (z : ℤ) → is_long z ≡ true → timespan_of (timespan_text z) ≡ Some z
timespan_of-timespan_text (pos n) h =
    let small = within n h in
    let d = n / ticks_per_day in
    let hours = hours_by d (hours_in n) (d == 0) (omega arith) (omega arith) refl in
    rw (timespan_text-pos n) (positive (whole_text n) n (hours.no_sign _) (numeral_of-whole_text n) (magnitude_ticks-whole_text n small) h)
timespan_of-timespan_text (negsuc n) h =
    rw (timespan_text-negsuc n) (negative (whole_text (suc n)) n (magnitude_ticks-whole_text (suc n) (within_negative n h)) h)
