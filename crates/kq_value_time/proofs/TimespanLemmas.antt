-- Amounts of units.
use Rattle.std.proofs.Common.{◌≡◌, ◌≢◌, ◌<◌, ◌≤◌, ℕ, zero, suc, ◌+◌, ◌-◌, ◌*◌, ◌/◌, ◌%◌, ◌^◌, Bool, true, false, not, ◌&&◌, cond, ltb, List, [], ◌∷◌, ◌++◌, length, get_or, take, drop, length-drop, pow-add, Option, Some, None, unwrap_or, ℤ, pos, negsuc, refl, sym, ap, ◌∙◌, arith}
use Rattle.std.specs.Prelude.{codes, neg_ℤ, option_map, option_and_then, ◌==◌, nat_lt, if◌then◌else◌}
use Rattle.std.specs.Char.{digit_value}
use Rattle.std.specs.List.{position_or_len, prefix_len}
use Rattle.std.specs.Str.{all_ascii_digits}
use Rattle.std.specs.Str.Parse.{digits_value, digits_value_after}
use Rattle.std.proofs.Math.Nat.{mul-le-mul_left, mul-le-mul_right, mul-mod_left, mul-div_cancel, add-mul-mod_self_right, add-mul-div_right, pow-suc}
use Rattle.std.proofs.lemmas.Bool.Decides.{nat_tests}
use Rattle.std.proofs.lemmas.List.{drop_all, drop_more, take-append-drop, take_all}
use Rattle.std.proofs.lemmas.List.Folds.{length-prefix_len}
use Rattle.std.proofs.lemmas.List.Sums.{prefix_len-le-length}
use Rattle.kq_value_formats.specs.Datetimes.{ticks_per_day}
use Rattle.kq_value_formats.specs.Numerals.{begins_with_minus, if_passes, is_long, is_numeral, numeral_of}
use Rattle.kq_value_formats.specs.Timespans.{amount_ticks, both, magnitude_ticks, timespan_of}
use Rattle.kq_value_time.specs.Parts.{capped, part_ticks}

-- ---- the value of digits

front_value : (n d p v w q : ℕ) → w ≡ (0 * 10 + d) * p + v → q ≡ p * 10 → (n * 10 + d) * p + v ≡ n * q + w
front_value n d p v w q e f = rw (e, f) (omega arith)

-- digits after a number, and digits after digits
value_after : (n : ℕ) (ds : List ℕ) → digits_value_after 10 n ds ≡ n * 10 ^ length ds + digits_value 10 ds
value_after n [] = omega arith
value_after n (d ∷ ds) = value_after (n * 10 + digit_value d) ds ∙ front_value n (digit_value d) (10 ^ length ds) (digits_value 10 ds) (digits_value 10 (d ∷ ds)) (10 ^ length (d ∷ ds)) (value_after (0 * 10 + digit_value d) ds) (pow-suc 10 (length ds))

value_after-append : (n : ℕ) (xs ys : List ℕ) → digits_value_after 10 n (xs ++ ys) ≡ digits_value_after 10 (digits_value_after 10 n xs) ys
value_after-append n [] ys = refl
value_after-append n (x ∷ xs) ys = value_after-append (n * 10 + digit_value x) xs ys

digits_value-append : (xs ys : List ℕ) → digits_value 10 (xs ++ ys) ≡ digits_value 10 xs * 10 ^ length ys + digits_value 10 ys
digits_value-append xs ys = value_after-append 0 xs ys ∙ value_after (digits_value 10 xs) ys

digits_value-drop : (ds : List ℕ) (place : ℕ) → place < length ds → digits_value 10 (drop place ds) ≡ digit_value (get_or ds place 0) * 10 ^ (length ds - (place + 1)) + digits_value 10 (drop (place + 1) ds)
digits_value-drop ds place lt = ap (digits_value 10) (drop_more ds place 0 lt) ∙ value_after (0 * 10 + digit_value (get_or ds place 0)) (drop (place + 1) ds) ∙ rw (length-drop (place + 1) ds) (omega arith)

pub numeral_digits : (text : List ℕ) → is_numeral text ≡ true → all_ascii_digits text ≡ true
numeral_digits text h = passed (nat_lt 0 (length text)) (all_ascii_digits text) h
  where
    passed : (a b : Bool) → (a && b) ≡ true → b ≡ true
    passed true b h = h
    passed false b h = absurd cc

-- ---- decimals of a unit

pub power_positive : (k : ℕ) → 0 < 10 ^ k
power_positive zero = omega arith
power_positive (suc k) = omega (arith, power_positive k, pow-suc 10 k)

-- one decimal more, from the right
pub tenths_are : (ds : List ℕ) (place next unit part d : ℕ) → next ≡ place + 1 → place < length ds → d ≡ digit_value (get_or ds place 0) → part * 10 ^ (length ds - next) ≡ digits_value 10 (drop next ds) * unit → (d * unit + part) * 10 ^ (length ds - next) ≡ digits_value 10 (drop place ds) * unit
tenths_are ds place next unit part d e lt f own =
    let value : digits_value 10 (drop place ds) ≡ d * 10 ^ (length ds - next) + digits_value 10 (drop next ds) = rw (e, f) (digits_value-drop ds place lt) in
    rw value (spread d unit part (10 ^ (length ds - next)) (digits_value 10 (drop next ds)) own)
  where
    spread : (d unit part p v : ℕ) → part * p ≡ v * unit → (d * unit + part) * p ≡ (d * p + v) * unit
    spread d unit part p v e = omega (arith, e)

-- where those are a whole number of ticks
pub tenths_whole : (ds : List ℕ) (place next tenths : ℕ) → next ≡ place + 1 → place < length ds → tenths % 10 ≡ 0 → tenths / 10 * 10 ^ (length ds - place) ≡ tenths * 10 ^ (length ds - next)
tenths_whole ds place next tenths e lt whole =
    let k = length ds - next in
    let more : length ds - place ≡ suc k = omega arith in
    let power : 10 ^ (length ds - place) ≡ 10 ^ k * 10 = ap (λ n. 10 ^ n) more ∙ pow-suc 10 k in
    rw power (times (10 ^ k) tenths whole)
  where
    times : (p t : ℕ) → t % 10 ≡ 0 → t / 10 * (p * 10) ≡ t * p
    times p t h = let same : t ≡ t / 10 * 10 = omega arith in omega (arith, ap (λ n. n * p) same)

cancel : (k x y : ℕ) → 0 < k → x * k ≡ y * k → x ≡ y
cancel k x y h e = sym (mul-div_cancel x h) ∙ ap (λ n. n / k) e ∙ mul-div_cancel y h

tens : (t u z : ℕ) → t + u * 10 ≡ z * 10 → t % 10 ≡ 0
tens t u z e = omega arith

divides : (n l : ℕ) → 0 < l → n % l ≡ 0 → n ≡ n / l * l
divides n l h e = omega arith

-- a multiple of all tens is one of the last
last_tens : (a unit w t m k n q : ℕ) → 0 < k → w * unit ≡ t * k → n ≡ (a * (k * 10) + w) * unit → n ≡ q * (m * (k * 10)) → t % 10 ≡ 0
last_tens a unit w t m k n q h own value whole =
    let spread : (t + a * unit * 10) * k ≡ q * m * 10 * k = omega (arith, own, value, whole) in
    tens t (a * unit) (q * m) (cancel k (t + a * unit * 10) (q * m * 10) h spread)

and_false : (b : Bool) → (b && false) ≡ false
and_false true = refl
and_false false = refl

unequal : (n : ℕ) → n ≢ 0 → (n == 0) ≡ false
unequal n h = grind (arith, nat_tests)

-- and where they aren't
pub tenths_broken : (ds : List ℕ) (place next unit tenths : ℕ) → next ≡ place + 1 → place < length ds → tenths % 10 ≢ 0 → tenths * 10 ^ (length ds - next) ≡ digits_value 10 (drop place ds) * unit → None ≡ part_ticks unit ds
tenths_broken ds place next unit tenths e lt broken own =
    let k = length ds - next in
    let front = digits_value 10 (take place ds) in
    let back = digits_value 10 (drop place ds) in
    let n = digits_value 10 ds * unit in
    let more : length (drop place ds) ≡ suc k = omega (arith, length-drop place ds) in
    let value : digits_value 10 ds ≡ front * (10 ^ k * 10) + back = ap (digits_value 10) (sym (take-append-drop place ds)) ∙ digits_value-append (take place ds) (drop place ds) ∙ ap (λ p. front * p + back) (ap (λ m. 10 ^ m) more ∙ pow-suc 10 k) in
    let power : 10 ^ length ds ≡ 10 ^ place * (10 ^ k * 10) = ap (λ m. 10 ^ m) (length_is place k (length ds) (omega arith)) ∙ pow-add 10 place (suc k) ∙ ap (λ p. 10 ^ place * p) (pow-suc 10 k) in
    let no : n % 10 ^ length ds ≢ 0 = λ h. broken (last_tens front unit back tenths (10 ^ place) (10 ^ k) n (n / 10 ^ length ds) (power_positive k) (sym own) (ap (λ v. v * unit) value) (divides n (10 ^ length ds) (power_positive (length ds)) h ∙ ap (λ p. n / 10 ^ length ds * p) power)) in
    rw (unequal (n % 10 ^ length ds) no, and_false (is_numeral ds)) refl
  where
    length_is : (place k len : ℕ) → len ≡ place + (k + 1) → len ≡ place + suc k
    length_is place k len h = omega arith

pub tenths_bound : (d unit part : ℕ) → d ≤ 9 → part ≤ unit → (d * unit + part) / 10 ≤ unit
tenths_bound d unit part h le = omega (arith, mul-le-mul_right unit h)

whole_part : (ds : List ℕ) (unit part : ℕ) → is_numeral ds ≡ true → part * 10 ^ length ds ≡ digits_value 10 ds * unit → Some part ≡ part_ticks unit ds
whole_part ds unit part h own =
    let n = digits_value 10 ds * unit in
    let whole : n % 10 ^ length ds ≡ 0 = rw (← own) (mul-mod_left part (10 ^ length ds)) in
    let same : n / 10 ^ length ds ≡ part = rw (← own) (mul-div_cancel part (power_positive (length ds))) in
    rw (h, whole, same) refl

-- at the first decimal
pub part_found : (ds : List ℕ) (place unit part : ℕ) → is_numeral ds ≡ true → place ≡ 0 → part * 10 ^ (length ds - place) ≡ digits_value 10 (drop place ds) * unit → Some part ≡ part_ticks unit ds
part_found ds place unit part h e own =
    let all : length ds - place ≡ length ds = omega arith in
    whole_part ds unit part h (ap (λ n. part * 10 ^ n) (sym all) ∙ own ∙ ap (λ n. digits_value 10 (drop n ds) * unit) e)

-- ---- the parts of a token

-- the items of a list of known length
abbrev spelled : ℕ → ℕ → List ℕ → List ℕ
spelled i zero xs = []
spelled i (suc n) xs = get_or xs i 0 ∷ spelled (i + 1) n xs

spelled_is : (i n : ℕ) (xs : List ℕ) → length xs ≡ i + n → drop i xs ≡ spelled i n xs
spelled_is i zero xs h = drop_all i xs (omega arith)
spelled_is i (suc n) xs h = drop_more xs i 0 (omega arith) ∙ ap (λ ys. get_or xs i 0 ∷ ys) (spelled_is (i + 1) n xs (omega arith))

pub microsecond_is : (xs : List ℕ) → length xs ≡ 11 → get_or xs 0 0 ≡ 109 → get_or xs 1 0 ≡ 105 → get_or xs 2 0 ≡ 99 → get_or xs 3 0 ≡ 114 → get_or xs 4 0 ≡ 111 → get_or xs 5 0 ≡ 115 → get_or xs 6 0 ≡ 101 → get_or xs 7 0 ≡ 99 → get_or xs 8 0 ≡ 111 → get_or xs 9 0 ≡ 110 → get_or xs 10 0 ≡ 100 → xs ≡ codes "microsecond"
microsecond_is xs len a b c d e f g h i j k = spelled_is 0 11 xs len ∙ rw (a, b, c, d, e, f, g, h, i, j, k) refl

not_not : (p : ℕ → Bool) (xs : List ℕ) → prefix_len (λ x. not (not (p x))) xs ≡ prefix_len p xs
not_not p [] = refl
not_not p (x ∷ xs) = step (p x) (prefix_len (λ x. not (not (p x))) xs) (prefix_len p xs) (not_not p xs)
  where
    step : (b : Bool) (m n : ℕ) → m ≡ n → cond (not (not b)) (1 + m) 0 ≡ cond b (1 + n) 0
    step true m n e = ap (λ k. 1 + k) e
    step false m n e = refl

-- up to where no byte fails
pub prefix_found : (p : ℕ → Bool) (xs : List ℕ) (found : Option ℕ) (b : Bool) (n : ℕ) → ltb (position_or_len (λ x. not (p x)) xs) (length xs) ≡ b → found ≡ cond b (Some (position_or_len (λ x. not (p x)) xs)) None → n ≡ unwrap_or found (length xs) → n ≡ prefix_len p xs
prefix_found p xs found true n h e f = f ∙ ap (λ o. unwrap_or o (length xs)) e ∙ not_not p xs
prefix_found p xs found false n h e f =
    let all : length xs ≤ position_or_len (λ x. not (p x)) xs = grind (arith, nat_tests) in
    let whole : length xs ≡ prefix_len p xs = omega (arith, not_not p xs, prefix_len-le-length p xs) in
    f ∙ ap (λ o. unwrap_or o (length xs)) e ∙ whole

pub ruleset token_lemmas = (prefix_len-le-length, length-prefix_len)

-- ---- amounts

capped_by : (w unit q : ℕ) (b : Bool) → nat_lt 18446744073709551615 w ≡ b → 1 ≤ unit → capped (capped w * unit + q) ≡ capped (w * unit + q)
capped_by w unit q false h le = let same : capped w ≡ w = grind (arith, nat_tests) in rw same refl
capped_by w unit q true h le =
    let past : 18446744073709551615 < w = grind (arith, nat_tests) in
    let same : capped w ≡ 18446744073709551615 = omega arith in
    rw same (omega (arith, mul-le-mul_left 18446744073709551615 le, mul-le-mul_left w le))

pub capped_sum : (w unit q : ℕ) → 1 ≤ unit → capped (capped w * unit + q) ≡ capped (w * unit + q)
capped_sum w unit q le = capped_by w unit q (nat_lt 18446744073709551615 w) refl le

-- digits before a point and after it
joined_value : (whole ds : List ℕ) (unit : ℕ) → digits_value 10 (whole ++ ds) * unit ≡ digits_value 10 ds * unit + digits_value 10 whole * unit * 10 ^ length ds
joined_value whole ds unit = ap (λ n. n * unit) (digits_value-append whole ds) ∙ spread (digits_value 10 whole) (digits_value 10 ds) unit (10 ^ length ds)
  where
    spread : (w d unit p : ℕ) → (w * p + d) * unit ≡ d * unit + w * unit * p
    spread w d unit p = omega arith

amount_by : (a b m : Bool) (w unit y q : ℕ) → 1 ≤ unit → y ≡ w * unit + q → option_map capped (both (option_map capped (if a then Some w else None)) unit (if b && m then Some q else None) 1) ≡ option_map capped (if a && b && m then Some y else None)
amount_by true true true w unit y q h e = ap Some (ap capped (ap (λ n. capped w * unit + n) one) ∙ capped_sum w unit q h ∙ ap capped (sym e))
  where
    one : q * 1 ≡ q
    one = omega arith
amount_by true true false w unit y q h e = refl
amount_by true false m w unit y q h e = refl
amount_by false true m w unit y q h e = refl
amount_by false false m w unit y q h e = refl

pub amount_two : (unit : ℕ) (whole ds : List ℕ) → 1 ≤ unit → option_map capped (both (option_map capped (numeral_of whole)) unit (part_ticks unit ds) 1) ≡ option_map capped (amount_ticks unit (whole ∷ ds ∷ []))
amount_two unit whole ds h =
    let p = 10 ^ length ds in
    let front = digits_value 10 whole * unit in
    let back = digits_value 10 ds * unit in
    let value = joined_value whole ds unit in
    let rest : digits_value 10 (whole ++ ds) * unit % p ≡ back % p = ap (λ n. n % p) value ∙ add-mul-mod_self_right back front p in
    let quotient : digits_value 10 (whole ++ ds) * unit / p ≡ front + back / p = ap (λ n. n / p) value ∙ add-mul-div_right back front (power_positive (length ds)) ∙ swapped (back / p) front in
    rw rest (amount_by (is_numeral whole) (is_numeral ds) (back % p == 0) (digits_value 10 whole) unit (digits_value 10 (whole ++ ds) * unit / p) (back / p) h quotient)
  where
    swapped : (x y : ℕ) → x + y ≡ y + x
    swapped x y = omega arith

-- ---- numbers with signs

past_longs : (k : ℕ) → 18446744073709551615 < k → is_long (pos k) ≡ false
past_longs k h = grind (arith, nat_tests)

before_longs : (k : ℕ) → 18446744073709551615 < k → is_long (neg_ℤ (pos k)) ≡ false
before_longs zero h = absurd (omega arith)
before_longs (suc k) h = below k h
  where
    below : (k : ℕ) → 18446744073709551615 < suc k → is_long (negsuc k) ≡ false
    below k h = grind (arith, nat_tests)

long_by : (k : ℕ) (b : Bool) → nat_lt 18446744073709551615 k ≡ b → (if_passes is_long (pos (capped k)) ≡ if_passes is_long (pos k)) × (if_passes is_long (neg_ℤ (pos (capped k))) ≡ if_passes is_long (neg_ℤ (pos k)))
long_by k false h = let same : capped k ≡ k = grind (arith, nat_tests) in (rw same refl, rw same refl)
long_by k true h =
    let past : 18446744073709551615 < k = grind (arith, nat_tests) in
    let same : capped k ≡ 18446744073709551615 = omega arith in
    (rw (same, past_longs k past) refl, rw (same, before_longs k past) refl)

from_capped : (f : ℕ → ℤ) (o : Option ℕ) → ((k : ℕ) → if_passes is_long (f (capped k)) ≡ if_passes is_long (f k)) → (n : ℕ) → Some n ≡ option_map capped o → if_passes is_long (f n) ≡ option_and_then (if_passes is_long) (option_map f o)
from_capped f None h n e = absurd cc
from_capped f (Some k) h n e = let same : n ≡ capped k = cc in rw same (h k)

none_capped : (f : ℕ → ℤ) (o : Option ℕ) → None ≡ option_map capped o → None ≡ option_and_then (if_passes is_long) (option_map f o)
none_capped f None e = refl
none_capped f (Some k) e = absurd cc

pub negative_some : (text rest : List ℕ) (n : ℕ) → begins_with_minus text ≡ true → rest ≡ drop 1 text → Some n ≡ option_map capped (magnitude_ticks rest) → if_passes is_long (neg_ℤ (pos n)) ≡ timespan_of text
unfolding timespan_of
negative_some text rest n h s e = rw h (rw (← s) (from_capped (λ n. neg_ℤ (pos n)) (magnitude_ticks rest) (λ k. (long_by k _ refl).1) n e))

pub negative_none : (text rest : List ℕ) → begins_with_minus text ≡ true → rest ≡ drop 1 text → None ≡ option_map capped (magnitude_ticks rest) → None ≡ timespan_of text
unfolding timespan_of
negative_none text rest h s e = rw h (rw (← s) (none_capped (λ n. neg_ℤ (pos n)) (magnitude_ticks rest) e))

pub days_some : (text : List ℕ) → begins_with_minus text ≡ false → is_numeral text ≡ true → if_passes is_long (pos (capped (capped (digits_value 10 text) * ticks_per_day))) ≡ timespan_of text
unfolding timespan_of
days_some text h k =
    let once : capped (capped (digits_value 10 text) * ticks_per_day) ≡ capped (digits_value 10 text * ticks_per_day) = omega arith in
    rw (h, k) (rw once (long_by (digits_value 10 text * ticks_per_day) _ refl).0)

pub plain_some : (text : List ℕ) (n : ℕ) → begins_with_minus text ≡ false → is_numeral text ≡ false → Some n ≡ option_map capped (magnitude_ticks text) → if_passes is_long (pos n) ≡ timespan_of text
unfolding timespan_of
plain_some text n h k e = rw (h, k) (from_capped pos (magnitude_ticks text) (λ k. (long_by k _ refl).0) n e)

pub plain_none : (text : List ℕ) → begins_with_minus text ≡ false → is_numeral text ≡ false → None ≡ option_map capped (magnitude_ticks text) → None ≡ timespan_of text
unfolding timespan_of
plain_none text h k e = rw (h, k) (none_capped pos (magnitude_ticks text) e)

pub ruleset sign_lemmas = (negative_some, negative_none, days_some, plain_some, plain_none, take_all)
