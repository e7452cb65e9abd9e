-- Lists of texts, and the numbers that texts spell.
use Rattle.std.proofs.Common.{◌≡◌, ◌∙◌, ◌<◌, ◌≤◌, ◌^◌, ◌&&◌, ◌||◌, ℕ, Bool, cond, true, false, not, refl, sym, ap, List, [], ◌∷◌, map, length, Option, Some, None, Result, Ok, Err, rules, arith, inl, inr}
use Rattle.std.specs.List.{list_any, list_all}
use Rattle.std.specs.Prelude.{nat_le}
use Rattle.std.specs.Result.{result_ok}
use Rattle.std.specs.Borrow.{Bor}
use Rattle.std.specs.Char.{is_ascii_digit}
use Rattle.std.specs.Str.{bytes_eq}
use Rattle.std.specs.Str.Parse.{digits_value, ParsesUnsigned}
use Rattle.std.proofs.lemmas.Bool.Decides.{leb_tells}
use Rattle.std.proofs.lemmas.Str.Parse.{IsNumeralModel, numerals_by_value, parse_digits}
use Rattle.kq_program_options.specs.Words.{WordText, all_asked, are_distinct, is_number, number_in}

abbrev pub now_of : List (Bor WordText) → List WordText
now_of = map (λ n. n.now)

any_now : (t : WordText) (ns : List (Bor WordText)) → list_any (λ u. bytes_eq u t) (now_of ns) ≡ list_any (λ (n : Bor WordText). bytes_eq n.now t) ns
any_now t [] = refl
any_now t (n ∷ ns) = ap (λ b. bytes_eq n.now t || b) (any_now t ns)

pub are_distinct-cons : (n : Bor WordText) (ns all : List (Bor WordText)) (b : Bool) → all ≡ n ∷ ns → b ≡ list_any (λ (m : Bor WordText). bytes_eq m.now n.now) ns → are_distinct (now_of all) ≡ (not b && are_distinct (now_of ns))
are_distinct-cons n ns all b whole e = ap (λ l. are_distinct (now_of l)) whole ∙ ap (λ c. not c && are_distinct (now_of ns)) (any_now n.now ns ∙ sym e)

own : IsNumeralModel (λ ds. list_all is_ascii_digit ds ≡ true) (digits_value 10)
own = numerals_by_value (λ ds. list_all is_ascii_digit ds ≡ true) (search rules)

and_left : (a b : Bool) → (a && b) ≡ true → a ≡ true
and_left true b e = refl
and_left false b e = e

and_right : (a b : Bool) → (a && b) ≡ true → b ≡ true
and_right true b e = e
and_right false b e = absurd (cc)

leb_false : (a b : ℕ) → b < a → nat_le a b ≡ false
leb_false a b h = grind (arith, leb_tells)

leb_true : (a b : ℕ) → nat_le a b ≡ true → a ≤ b
leb_true a b h = grind (arith, leb_tells)

and_none : (a b : Bool) → (a && (b && false)) ≡ false
and_none true true = refl
and_none true false = refl
and_none false b = refl

number_in-too_large : {E : Type 0} (least most : ℕ) (t : WordText) (e : E) → most < 2 ^ 32 → is_number t ≡ true → ParsesUnsigned 32 10 t (Err e) → number_in least most t ≡ None
number_in-too_large least most t e fits number parses =
    let digits = and_right (nat_le 1 (length t) && nat_le (length t) 7) (list_all is_ascii_digit t) number in
    let some = leb_true 1 (length t) (and_left (nat_le 1 (length t)) (nat_le (length t) 7) (and_left (nat_le 1 (length t) && nat_le (length t) 7) (list_all is_ascii_digit t) number)) in
    let refused = parse_digits own 32 t (Err e) parses digits in
    let large : most < digits_value 10 t = elim (leb_tells (digits_value 10 t) most) [ inl h ↦ absurd (refused (some, omega (arith, h.1))) | inr h ↦ h.1 ] in
    ap (λ b. cond (is_number t && (nat_le least (digits_value 10 t) && b)) (Some (digits_value 10 t)) None) (leb_false (digits_value 10 t) most large)
    ∙ ap (λ b. cond b (Some (digits_value 10 t)) None) (and_none (is_number t) (nat_le least (digits_value 10 t)))

pub number_in-unparsed : {E : Type 0} (least most : ℕ) (t : WordText) (r : Result ℕ E) → None ≡ result_ok r → most < 2 ^ 32 → is_number t ≡ true → ParsesUnsigned 32 10 t r → number_in least most t ≡ None
number_in-unparsed least most t (Ok n) none fits number parses = absurd (cc)
number_in-unparsed least most t (Err e) none fits number parses = number_in-too_large least most t e fits number parses

pub no_generate : (w : Option (Option ℕ)) (fs : Option (List WordText)) → all_asked w None fs ≡ None
no_generate None fs = refl
no_generate (Some w) fs = refl
