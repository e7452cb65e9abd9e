-- Whole numbers are numerals.
use Rattle.std.proofs.Common.{◌≡◌, ℕ, ◌<◌, ◌≤◌, ◌^◌, Bool, true, false, ◌&&◌, ◌==◌, List, [], ◌∷◌, inl, inr, length, drop, refl, sym, ◌∙◌, ap, subst, arith}
use Rattle.std.specs.Prelude.{codes}
use Rattle.std.specs.Char.{digit_value}
use Rattle.std.specs.List.{list_all}
use Rattle.std.specs.Str.{IsAscii}
use Rattle.std.specs.Str.Parse.{AllDigits, IsNumeral, digits_value, without_leading_plus}
use Rattle.std.proofs.lemmas.Bool.Decides.{nat_tests}
use Rattle.std.proofs.Math.Nat.{pow-le-pow_right}
use Rattle.std.proofs.lemmas.Int.Digits.{digits_value-lt}
use Rattle.std.proofs.lemmas.Str.Ascii.{IsAscii-cons, IsAscii-nil}
use Rattle.kq_read_tokens.specs.Bytes.{begins_with, is_digit, is_end, is_hexadecimal_digit, run_then}
use Rattle.kq_read_tokens.specs.Numbers.{digits, is_hexadecimal, is_whole_number, is_x_and_digits}
use Rattle.kq_read_tokens.proofs.TestLemmas.{both_true, either_true, false_true}
use Rattle.kq_read_literals.proofs.RunLemmas.{run_all}

digit_below : (b : ℕ) → is_digit b ≡ true → digit_value b < 10
digit_below b h = grind (arith, nat_tests)

hexadecimal_below : (b : ℕ) → is_hexadecimal_digit b ≡ true → digit_value b < 16
hexadecimal_below b h = grind (arith, nat_tests)

below_ascii : (b radix : ℕ) → radix ≤ 16 → digit_value b < radix → b < 128
below_ascii b radix le h = grind (arith, nat_tests)

all_digits : (radix : ℕ) (class : ℕ → Bool) → ((b : ℕ) → class b ≡ true → digit_value b < radix) → (bs : List ℕ) → list_all class bs ≡ true → AllDigits radix bs
all_digits radix class below [] h = tt
all_digits radix class below (b ∷ bs) h = let p = both_true (class b) (list_all class bs) h in (below b p.0, all_digits radix class below bs p.1)

pub IsAscii-digits : (radix : ℕ) (bs : List ℕ) → radix ≤ 16 → AllDigits radix bs → IsAscii bs
IsAscii-digits radix [] le h = IsAscii-nil
IsAscii-digits radix (b ∷ bs) le h = IsAscii-cons b bs (below_ascii b radix le h.0) (IsAscii-digits radix bs le h.1)

run_numeral : (radix : ℕ) (class : ℕ → Bool) → ((b : ℕ) → class b ≡ true → digit_value b < radix) → (bs : List ℕ) → run_then class is_end bs ≡ true → IsNumeral radix bs
run_numeral radix class below bs h = let p = run_all class bs h in (p.0, all_digits radix class below bs p.1)

no_x : (b : ℕ) → (120 == b) ≡ true → is_digit b ≡ true → ⊥
no_x b e h = grind (arith, nat_tests)

begins_of : (a b : ℕ) (cs : List ℕ) → (a == 48) ≡ true → (b == 120) ≡ true → begins_with (codes "0x") (a ∷ b ∷ cs) ≡ true
begins_of a b cs h k = grind (arith, nat_tests)

pub hexadecimal_numeral : (bytes : List ℕ) → is_whole_number bytes ≡ true → begins_with (codes "0x") bytes ≡ true → IsNumeral 16 (drop 2 bytes)
hexadecimal_numeral [] h begun = let no_way : false ≡ true = begun in absurd (cc)
hexadecimal_numeral (a ∷ []) h begun = let no_way : false ≡ true = (both_true (48 == a) false begun).1 in absurd (cc)
hexadecimal_numeral (a ∷ b ∷ cs) h begun = elim (either_true (digits is_end (a ∷ b ∷ cs)) (is_hexadecimal (a ∷ b ∷ cs)) h) [
  | inl d ↦
      let all = (run_all is_digit (a ∷ b ∷ cs) d).1 in
      let second = (both_true (is_digit b) (list_all is_digit cs) (both_true (is_digit a) (list_all is_digit (b ∷ cs)) all).1).0 in
      let x = (both_true (120 == b) true (both_true (48 == a) ((120 == b) && true) begun).1).0 in
      absurd (no_x b x second)
  | inr x ↦ run_numeral 16 is_hexadecimal_digit hexadecimal_below cs (both_true (b == 120) (run_then is_hexadecimal_digit is_end cs) (both_true (a == 48) (is_x_and_digits (b ∷ cs)) x).1).1
]

pub decimal_numeral : (bytes : List ℕ) → is_whole_number bytes ≡ true → begins_with (codes "0x") bytes ≡ false → IsNumeral 10 bytes
decimal_numeral [] h begun = let no_way : false ≡ true = h in absurd (cc)
decimal_numeral (a ∷ []) h begun = elim (either_true (digits is_end (a ∷ [])) (is_hexadecimal (a ∷ [])) h) [
  | inl d ↦ run_numeral 10 is_digit digit_below (a ∷ []) d
  | inr x ↦ let no_way : false ≡ true = (both_true (a == 48) false x).1 in absurd (cc)
]
decimal_numeral (a ∷ b ∷ cs) h begun = elim (either_true (digits is_end (a ∷ b ∷ cs)) (is_hexadecimal (a ∷ b ∷ cs)) h) [
  | inl d ↦ run_numeral 10 is_digit digit_below (a ∷ b ∷ cs) d
  | inr x ↦
      let p = both_true (a == 48) (is_x_and_digits (b ∷ cs)) x in
      let q = both_true (b == 120) (run_then is_hexadecimal_digit is_end cs) p.1 in
      absurd (false_true (begins_with (codes "0x") (a ∷ b ∷ cs)) begun (begins_of a b cs p.0 q.0))
]

-- ---- four hexadecimal digits

no_plus : (ds : List ℕ) → AllDigits 16 ds → without_leading_plus ds ≡ ds
no_plus [] h = refl
no_plus (b ∷ bs) h = rw (not_plus b h.0) refl where
  not_plus : (b : ℕ) → digit_value b < 16 → (b == 43) ≡ false
  not_plus b h = grind (arith, nat_tests)

pub short_code : (ds given : List ℕ) → given ≡ ds → IsNumeral 16 ds → length ds ≤ 4 → IsNumeral 16 (without_leading_plus given) × (digits_value 16 (without_leading_plus given) < 2 ^ 32)
short_code ds given e h short =
    let same : without_leading_plus given ≡ ds = ap without_leading_plus e ∙ no_plus ds h.1 in
    let most : 16 ^ length ds ≤ 16 ^ 4 = pow-le-pow_right {n = 16} (omega arith) short in
    subst (λ l. IsNumeral 16 l × (digits_value 16 l < 2 ^ 32)) (sym same) (h, omega (arith, digits_value-lt 16 ds h.1))
