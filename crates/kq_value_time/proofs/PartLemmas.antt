-- Digits and the parts of texts, as they are read.
use Rattle.std.proofs.Common.{◌≡◌, ◌<◌, ◌≤◌, ℕ, zero, suc, ◌+◌, ◌-◌, ◌*◌, ◌^◌, min, Bool, true, false, not, ◌&&◌, cond, ltb, List, [], ◌∷◌, ◌++◌, length, replicate, length-take, length-append, get_or, take, drop, Option, Some, None, refl, sym, ap, ◌∙◌, arith}
use Rattle.std.specs.Prelude.{◌==◌, nat_lt}
use Rattle.std.specs.Char.{digit_value, is_ascii_digit}
use Rattle.std.specs.List.{list_all, position_or_len}
use Rattle.std.specs.Str.{all_ascii_digits}
use Rattle.std.specs.Str.Parse.{digits_value}
use Rattle.std.proofs.lemmas.Bool.Decides.{nat_tests}
use Rattle.std.proofs.lemmas.Grind.{common_steps}
use Rattle.std.proofs.Math.Seq.{get_or-append_right}
use Rattle.std.proofs.lemmas.List.{get_or-replicate, take_all}
use Rattle.std.proofs.lemmas.List.Splits.{length-slice_split, slice_split_first}
use Rattle.std.proofs.lemmas.Int.Digits.{digits_value_more}
use Rattle.std.proofs.lemmas.Str.Parse.{IsNumeralModel, digits_value_short, numerals_by_value, tells_all_ascii_digits}
use Rattle.kq_value_formats.specs.Numerals.{is_numeral}
use Rattle.kq_value_formats.specs.Timespans.{pieces}
use Rattle.kq_value_time.specs.Parts.{capped}

-- ---- digits

pub all_ascii_digits-list_all : (text : List ℕ) → list_all is_ascii_digit text ≡ all_ascii_digits text
all_ascii_digits-list_all [] = refl
all_ascii_digits-list_all (x ∷ xs) = ap (λ b. is_ascii_digit x && b) (all_ascii_digits-list_all xs)

pub is_numeral-list_all : (text : List ℕ) (b : Bool) → false ≡ (length text == 0) → b ≡ list_all is_ascii_digit text → b ≡ is_numeral text
is_numeral-list_all text b some all =
    let long : nat_lt 0 (length text) ≡ true = grind (arith, nat_tests) in
    all ∙ all_ascii_digits-list_all text ∙ rw long refl

both_true : (a b : Bool) → (a && b) ≡ true → (a ≡ true) × (b ≡ true)
both_true true b h = (refl, h)
both_true false b h = absurd cc

digit_at : (text : List ℕ) (i : ℕ) → all_ascii_digits text ≡ true → i < length text → is_ascii_digit (get_or text i 0) ≡ true
digit_at [] i h lt = absurd (omega arith)
digit_at (x ∷ xs) zero h lt = (both_true (is_ascii_digit x) (all_ascii_digits xs) h).0
digit_at (x ∷ xs) (suc i) h lt = digit_at xs i (both_true (is_ascii_digit x) (all_ascii_digits xs) h).1 (omega arith)

-- a digit is 48 and its value
pub record IsDigit (text : List ℕ) (i : ℕ) : Type 0 where
  pub from : 48 ≤ get_or text i 0
  pub to : get_or text i 0 ≤ 57
  pub value : digit_value (get_or text i 0) + 48 ≡ get_or text i 0

digit_parts : (c : ℕ) → is_ascii_digit c ≡ true → (48 ≤ c) × (c ≤ 57) × (digit_value c + 48 ≡ c)
digit_parts c h = grind (arith, nat_tests)

pub digit_of : (text : List ℕ) (i : ℕ) → all_ascii_digits text ≡ true → i < length text → IsDigit text i
digit_of text i h lt = let p = digit_parts (get_or text i 0) (digit_at text i h lt) in record { from = p.0; to = p.1; value = p.2 }

-- one digit more
pub capped-digits_value_more : (text : List ℕ) (i n d : ℕ) → i < length text → n ≡ capped (digits_value 10 (take i text)) → d ≡ digit_value (get_or text i 0) → min (min (n * 10) 18446744073709551615 + d) 18446744073709551615 ≡ capped (digits_value 10 (take (i + 1) text))
capped-digits_value_more text i n d lt e f = omega (arith, digits_value_more 10 text i lt)

-- ---- the decimals of a second

abbrev filled : List ℕ → List ℕ
filled decimals = decimals ++ replicate 7 48

model : IsNumeralModel (λ ds. all_ascii_digits ds ≡ true) (digits_value 10)
model = numerals_by_value (λ ds. all_ascii_digits ds ≡ true) tells_all_ascii_digits

all_ascii_digits-append : (xs ys : List ℕ) → all_ascii_digits xs ≡ true → all_ascii_digits ys ≡ true → all_ascii_digits (xs ++ ys) ≡ true
all_ascii_digits-append [] ys h k = k
all_ascii_digits-append (x ∷ xs) ys h k =
    let p = both_true (is_ascii_digit x) (all_ascii_digits xs) h in
    rw (p.0, all_ascii_digits-append xs ys p.1 k) refl

all_ascii_digits-take : (n : ℕ) (xs : List ℕ) → all_ascii_digits xs ≡ true → all_ascii_digits (take n xs) ≡ true
all_ascii_digits-take zero xs h = refl
all_ascii_digits-take (suc n) [] h = refl
all_ascii_digits-take (suc n) (x ∷ xs) h =
    let p = both_true (is_ascii_digit x) (all_ascii_digits xs) h in
    rw (p.0, all_ascii_digits-take n xs p.1) refl

-- the value of the first decimals, and those that are filled in
abbrev pub decimals_value : List ℕ → ℕ → ℕ
decimals_value decimals n = digits_value 10 (take n (decimals ++ replicate 7 48))

pub decimals_value-lt : (decimals : List ℕ) (n : ℕ) → all_ascii_digits decimals ≡ true → n ≤ 7 → decimals_value decimals n < 10000000
decimals_value-lt decimals n h le =
    let all = all_ascii_digits-take n (filled decimals) (all_ascii_digits-append decimals (replicate 7 48) h refl) in
    digits_value_short model (take n (filled decimals)) 7 all (omega (arith, length-take {A = ℕ}))

pub decimals_value-more : (decimals : List ℕ) (n d : ℕ) → n < 7 → d ≡ digit_value (get_or (decimals ++ replicate 7 48) n 0) → decimals_value decimals (n + 1) ≡ decimals_value decimals n * 10 + d
decimals_value-more decimals n d lt e =
    let long : n < length (filled decimals) = omega (arith, length-append decimals (replicate 7 48)) in
    digits_value_more 10 (filled decimals) n long ∙ ap (λ v. decimals_value decimals n * 10 + v) (sym e)

pub decimal_inside : (decimals : List ℕ) (n : ℕ) → n < length decimals → get_or (decimals ++ replicate 7 48) n 0 ≡ get_or decimals n 0
decimal_inside decimals n lt = grind (arith, common_steps)

pub decimal_past : (decimals : List ℕ) (n : ℕ) → n < 7 → length decimals ≤ n → get_or (decimals ++ replicate 7 48) n 0 ≡ 48
decimal_past decimals n lt le = get_or-append_right decimals (replicate 7 48) n 0 le ∙ get_or-replicate 7 (n - length decimals) 48 0 (omega arith)

-- ---- pieces

pieces_none_by : (s x : ℕ) (xs : List ℕ) (b : Bool) → (x == s) ≡ b → length (x ∷ xs) ≤ cond (not b) (1 + position_or_len (λ x. x == s) xs) 0 → (length xs ≤ position_or_len (λ x. x == s) xs → pieces s xs ≡ xs ∷ []) → pieces s (x ∷ xs) ≡ (x ∷ xs) ∷ []
pieces_none_by s x xs true e h later = absurd (omega arith)
pieces_none_by s x xs false e h later = let rest = later (omega arith) in rw (e, rest) refl

pieces_none : (s : ℕ) (xs : List ℕ) → length xs ≤ position_or_len (λ x. x == s) xs → pieces s xs ≡ xs ∷ []
pieces_none s [] h = refl
pieces_none s (x ∷ xs) h = pieces_none_by s x xs (x == s) refl h (pieces_none s xs)

-- where the first separator was found
pub cut_at : (s : ℕ) (xs : List ℕ) (at : ℕ) (b : Bool) → ltb (position_or_len (λ x. x == s) xs) (length xs) ≡ b → Some at ≡ cond b (Some (position_or_len (λ x. x == s) xs)) None → pieces s xs ≡ take at xs ∷ pieces s (drop (at + 1) xs)
cut_at s xs at true e h =
    let lt : position_or_len (λ x. x == s) xs < length xs = grind (arith, nat_tests) in
    let same : at ≡ position_or_len (λ x. x == s) xs = cc in
    rw same (slice_split_first (λ x. x == s) xs 0 lt)
cut_at s xs at false e h = absurd cc

-- and where there was none
pub cut_none : (s : ℕ) (xs : List ℕ) (b : Bool) → ltb (position_or_len (λ x. x == s) xs) (length xs) ≡ b → None ≡ cond b (Some (position_or_len (λ x. x == s) xs)) None → pieces s xs ≡ xs ∷ []
cut_none s xs true e h = absurd cc
cut_none s xs false e h = pieces_none s xs (grind (arith, nat_tests))

pub some_pieces : (s : ℕ) (xs : List ℕ) → 0 < length (pieces s xs)
some_pieces s xs = omega (arith, length-slice_split (λ x. x == s) xs)

pub more_pieces : (s : ℕ) (text rest later last a b c : List ℕ) → pieces s text ≡ a ∷ pieces s rest → pieces s rest ≡ b ∷ pieces s later → pieces s later ≡ c ∷ pieces s last → 3 < length (pieces s text)
more_pieces s text rest later last a b c e f g = rw (e, f, g) (omega (arith, some_pieces s last))

pub ruleset digit_lemmas = (digit_of, capped-digits_value_more, take_all)

pub ruleset fraction_lemmas = (decimals_value-lt, decimals_value-more)

pub ruleset decimal_lemmas = (digit_of, decimal_inside, decimal_past)
