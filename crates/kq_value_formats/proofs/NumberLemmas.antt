-- Whole numbers and bools as they are read.
use Rattle.std.proofs.Common.{◌≡◌, ◌≢◌, ◌<◌, ◌≤◌, ℕ, zero, suc, ◌^◌, ℤ, pos, negsuc, neg_ℤ, Bool, true, false, ◌&&◌, cond, List, [], ◌∷◌, length, get_or, drop, Option, Some, None, refl, sym, ap, ◌∙◌, arith}
use Rattle.std.specs.Prelude.{nat_eq, nat_lt, option_map, option_and_then, Result, Ok, Err, IsTrue, ◌↔◌}
use Rattle.std.specs.List.{starts_with}
use Rattle.std.specs.Result.{result_ok, OkIff}
use Rattle.std.specs.Str.{all_ascii_digits, bytes_eq}
use Rattle.std.specs.Str.Parse.{digits_value, ParsesSigned}
use Rattle.std.proofs.lemmas.Bool.Decides.{nat_tests}
use Rattle.std.proofs.lemmas.Bool.Decides.{same_from_decides}
use Rattle.std.proofs.lemmas.Slice.Eq.{bytes_eq-Decides}
use Rattle.std.proofs.lemmas.Str.Parse.{IsNumeralModel, numerals_by_value, parse_signed_minus, parse_signed_plain, tells_all_ascii_digits}
use Rattle.kq_value_formats.specs.Numerals.{begins_with_minus, if_passes, int_of, is_int, is_long, is_numeral, long_of, signed_numeral_of}
use mir.Syntax.{w64}

model : IsNumeralModel (λ ds. all_ascii_digits ds ≡ true) (digits_value 10)
model = numerals_by_value (λ ds. all_ascii_digits ds ≡ true) tells_all_ascii_digits

-- ---- the parts of a numeral

-- the digits, after a minus or at once
abbrev digits_part : Bool → List ℕ → List ℕ
digits_part true text = drop 1 text
digits_part false text = text

abbrev signed : Bool → ℕ → ℤ
signed true n = neg_ℤ (pos n)
signed false n = pos n

abbrev Fits : Bool → ℕ → Type 0
Fits true n = n ≤ 2 ^ 63
Fits false n = n < 2 ^ 63

-- a numeral's digits, and the number where it passes
number_if : (b : Bool) (n : ℕ) (f : ℕ → ℤ) → option_and_then (if_passes is_long) (option_map f (cond b (Some n) None)) ≡ cond (b && is_long (f n)) (Some (f n)) None
number_if true n f = refl
number_if false n f = refl

long_shape : (text : List ℕ) (b : Bool) → begins_with_minus text ≡ b
    → long_of text ≡ cond (is_numeral (digits_part b text) && is_long (signed b (digits_value 10 (digits_part b text)))) (Some (signed b (digits_value 10 (digits_part b text)))) None
unfolding long_of
long_shape text true e = rw e (number_if (is_numeral (drop 1 text)) (digits_value 10 (drop 1 text)) (λ n. neg_ℤ (pos n)))
long_shape text false e = rw e (number_if (is_numeral text) (digits_value 10 text) pos)

both_true : (a b : Bool) → (a && b) ≡ true → (a ≡ true) × (b ≡ true)
both_true true b h = (refl, h)
both_true false b h = absurd cc

both_hold : (a b : Bool) → a ≡ true → b ≡ true → (a && b) ≡ true
both_hold a b h k = rw (h, k) refl

some_digits : (n : ℕ) → (nat_lt 0 n ≡ true → 0 < n) × (0 < n → nat_lt 0 n ≡ true)
some_digits n = ((λ h. grind (arith, nat_tests)), (λ h. grind (arith, nat_tests)))

positive_fits : (n : ℕ) → (is_long (pos n) ≡ true → n < 2 ^ 63) × (n < 2 ^ 63 → is_long (pos n) ≡ true)
positive_fits n = ((λ h. grind (arith, nat_tests)), (λ h. grind (arith, nat_tests)))

negative_fits : (n : ℕ) → (is_long (neg_ℤ (pos n)) ≡ true → n ≤ 2 ^ 63) × (n ≤ 2 ^ 63 → is_long (neg_ℤ (pos n)) ≡ true)
negative_fits zero = ((λ h. omega arith), (λ h. refl))
negative_fits (suc n) = from_one n
  where
    from_one : (n : ℕ) → (is_long (negsuc n) ≡ true → suc n ≤ 2 ^ 63) × (suc n ≤ 2 ^ 63 → is_long (negsuc n) ≡ true)
    from_one n = ((λ h. grind (arith, nat_tests)), (λ h. grind (arith, nat_tests)))

fits : (b : Bool) (n : ℕ) → (is_long (signed b n) ≡ true → Fits b n) × (Fits b n → is_long (signed b n) ≡ true)
fits true n = negative_fits n
fits false n = positive_fits n

-- ---- what `parse` reads

-- a result that is there exactly where a test is true
ok_if : {E : Type 0} {Q : Type 0} (r : Result ℤ E) (z : ℤ) (b : Bool) → OkIff r Q z → (b ≡ true → Q) → (Q → b ≡ true) → result_ok r ≡ cond b (Some z) None
ok_if (Ok x) z true h to from = ap Some h.1
ok_if (Ok x) z false h to from = cc (from h.0)
ok_if (Err e) z true h to from = absurd (h (to refl))
ok_if (Err e) z false h to from = refl

parsed : {E : Type 0} (text : List ℕ) (r : Result ℤ E) (b : Bool) → ParsesSigned w64 10 text r → get_or text 0 0 ≢ 43 → begins_with_minus text ≡ b
    → OkIff r ((all_ascii_digits (digits_part b text) ≡ true) × (0 < length (digits_part b text)) × Fits b (digits_value 10 (digits_part b text))) (signed b (digits_value 10 (digits_part b text)))
parsed text r true h plus e =
    let minus : get_or text 0 0 ≡ 45 = grind (arith, nat_tests) in
    parse_signed_minus model w64 text r h minus
parsed text r false h plus e =
    let minus : get_or text 0 0 ≢ 45 = λ q. grind (arith, nat_tests) in
    parse_signed_plain model w64 text r h plus minus

read_by : {E : Type 0} (text : List ℕ) (r : Result ℤ E) (b : Bool) → ParsesSigned w64 10 text r → get_or text 0 0 ≢ 43 → begins_with_minus text ≡ b → result_ok r ≡ long_of text
read_by text r b h plus e =
    let ds = digits_part b text in
    let n = digits_value 10 ds in
    ok_if r (signed b n) (is_numeral ds && is_long (signed b n)) (parsed text r b h plus e)
    (λ t.
    let p = both_true (is_numeral ds) (is_long (signed b n)) t in
    let q = both_true (nat_lt 0 (length ds)) (all_ascii_digits ds) p.0 in
    (q.1, (some_digits (length ds)).0 q.0, (fits b n).0 p.1))
    (λ t. both_hold _ _ (both_hold _ _ ((some_digits (length ds)).1 t.1) t.0) ((fits b n).1 t.2))
    ∙ sym (long_shape text b e)

-- what `parse` reads of a text that doesn't begin with a plus is the long that it writes
pub long_of-parsed : {E : Type 0} (text : List ℕ) (r : Result ℤ E) → ParsesSigned w64 10 text r → get_or text 0 0 ≢ 43 → result_ok r ≡ long_of text
long_of-parsed text r h plus = read_by text r (begins_with_minus text) h plus refl

and_false : (b : Bool) → (b && false) ≡ false
and_false true = refl
and_false false = refl

plus_numeral : (rest : List ℕ) → is_numeral (43 ∷ rest) ≡ false
plus_numeral rest = and_false (nat_lt 0 (length (43 ∷ rest)))

pub plus_first : (text : List ℕ) → starts_with nat_eq text (43 ∷ []) ≡ true → get_or text 0 0 ≡ 43
plus_first [] h = cc
plus_first (c ∷ rest) h = grind (arith, nat_tests)

pub plus_not_first : (text : List ℕ) → starts_with nat_eq text (43 ∷ []) ≡ false → get_or text 0 0 ≢ 43
plus_not_first [] h e = absurd (omega (arith, e))
plus_not_first (c ∷ rest) h e = grind (arith, nat_tests)

-- a text that begins with a plus writes none
pub long_of-plus : (text : List ℕ) → get_or text 0 0 ≡ 43 → None ≡ long_of text
long_of-plus [] h = absurd (omega (arith, h))
long_of-plus (c ∷ rest) h = rw h (sym (long_shape (43 ∷ rest) false refl ∙ rw (plus_numeral rest) refl))

-- ---- ints

int_is_long : (z : ℤ) → is_int z ≡ true → is_long z ≡ true
int_is_long (pos n) h = (positive_fits n).1 (small n h)
  where
    small : (n : ℕ) → is_int (pos n) ≡ true → n < 2 ^ 63
    small n h = grind (arith, nat_tests)
int_is_long (negsuc n) h = small n h
  where
    small : (n : ℕ) → is_int (negsuc n) ≡ true → is_long (negsuc n) ≡ true
    small n h = grind (arith, nat_tests)

both_ways : (z : ℤ) (i l : Bool) → is_int z ≡ i → is_long z ≡ l → if_passes is_int z ≡ option_and_then (if_passes is_int) (cond l (Some z) None)
both_ways z true true e f = refl
both_ways z false true e f = refl
both_ways z false false e f = rw e refl
both_ways z true false e f = absurd (no_flag (sym (int_is_long z e) ∙ f))
  where
    no_flag : true ≡ false → ⊥
    no_flag e = cc

of_numeral : (o : Option ℤ) → option_and_then (if_passes is_int) o ≡ option_and_then (if_passes is_int) (option_and_then (if_passes is_long) o)
of_numeral None = refl
of_numeral (Some z) = both_ways z (is_int z) (is_long z) refl refl

int_of-long : (text : List ℕ) (o : Option ℤ) → o ≡ long_of text → option_and_then (if_passes is_int) o ≡ int_of text
unfolding long_of int_of
int_of-long text o e = rw e (sym (of_numeral (signed_numeral_of text)))

-- an int is a long in its range
pub int_of-none : (text : List ℕ) → None ≡ long_of text → None ≡ int_of text
int_of-none text e = int_of-long text None e

pub int_of-some : (text : List ℕ) (z : ℤ) → Some z ≡ long_of text → if_passes is_int z ≡ int_of text
int_of-some text z e = int_of-long text (Some z) e

pub ruleset int_lemmas = (int_of-none, int_of-some)

-- ---- bools

pub same_bytes : (r : Bool) (xs ys : List ℕ) → (IsTrue r ↔ (xs ≡ ys)) → r ≡ bytes_eq xs ys
same_bytes r xs ys h = same_from_decides r (bytes_eq xs ys) h (bytes_eq-Decides xs ys)
