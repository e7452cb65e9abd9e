-- Every token begins and ends with a byte of ASCII.
use Rattle.std.proofs.Common.{◌≡◌, ℕ, zero, suc, ◌<◌, ◌+◌, ◌-◌, Bool, true, false, ◌||◌, ◌==◌, nat_lt, if◌then◌else◌, List, [], ◌∷◌, ◌++◌, inl, inr, get_or, length, drop, refl, sym, ap, subst, ◌∙◌, append_assoc, length-append, arith}
use Rattle.std.specs.List.{list_all, list_any, prefix_len}
use Rattle.std.proofs.lemmas.Bool.Decides.{nat_tests}
use Rattle.std.proofs.lemmas.List.{get_or-append-add}
use Rattle.kq_read_literals.proofs.Cuts.{HasAsciiEnds, string_ends, word_ends}
use Rattle.kq_read_literals.proofs.RawLemmas.{parts_of, same_text}
use Rattle.kq_read_literals.proofs.RunLemmas.{Includes, end_all, run_and_rest}
use Rattle.kq_read_tokens.specs.declared.kind.LiteralWord.{LiteralWord}
use Rattle.kq_read_tokens.specs.declared.kind.LiteralWord.TheVariants as literal
use Rattle.kq_read_tokens.specs.declared.kind.TokenKind.{TokenKind}
use Rattle.kq_read_tokens.specs.declared.kind.TokenKind.TheVariants as token
use Rattle.kq_read_tokens.specs.declared.spelling.TheConstants.{SPELLED}
use Rattle.kq_read_tokens.specs.Bytes.{byte_then, is_digit, is_end, is_hexadecimal_digit, is_text, run_then}
use Rattle.kq_read_tokens.specs.Delimited.{is_typed_literal}
use Rattle.kq_read_tokens.specs.Forms.{is_form}
use Rattle.kq_read_tokens.specs.Numbers.{digits, fraction, is_exponent, is_hexadecimal, is_real, is_signed, is_timespan, is_unit, is_whole_number, is_x_and_digits, units}
use Rattle.kq_read_tokens.specs.Spellings.{literal_word_spelling, spelling}
use Rattle.kq_read_tokens.proofs.SpelledLemmas.{in_spelled, is_spelled}
use Rattle.kq_read_tokens.proofs.TableLemmas.{all_in, any_in}
use Rattle.kq_read_tokens.proofs.TestLemmas.{and_true, both_true, either_true}

wrong : {A : Type 0} → false ≡ true → A
wrong h = absurd (cc)

abbrev is_small : ℕ → Bool
is_small b = nat_lt b 128

small : (b : ℕ) → is_small b ≡ true → b < 128
small b h = grind (arith, nat_tests)

small_at : (bytes : List ℕ) → list_all is_small bytes ≡ true → (i : ℕ) → get_or bytes i 0 < 128
small_at [] h i = omega arith
small_at (b ∷ bytes) h zero = small b (both_true (is_small b) (list_all is_small bytes) h).0
small_at (b ∷ bytes) h (suc i) = small_at bytes (both_true (is_small b) (list_all is_small bytes) h).1 i

small_ends : (bytes : List ℕ) → 0 < length bytes → list_all is_small bytes ≡ true → HasAsciiEnds bytes
small_ends bytes some h = record { some = some; first = small_at bytes h 0; last = small_at bytes h (length bytes - 1) }

-- ---- numbers

-- what the test takes is all ASCII
abbrev Small : (List ℕ → Bool) → Type 0
Small test = (bytes : List ℕ) → test bytes ≡ true → list_all is_small bytes ≡ true

small_digit : Includes is_small is_digit
small_digit b h = grind (arith, nat_tests)

small_hexadecimal : Includes is_small is_hexadecimal_digit
small_hexadecimal b h = grind (arith, nat_tests)

end_small : Small is_end
end_small = end_all is_small

run_small : (class : ℕ → Bool) (others : List ℕ → Bool) → Includes is_small class → Small others → Small (run_then class others)
run_small class others includes rest [] h = wrong h
run_small class others includes rest (b ∷ bs) h =
    let p = both_true (class b) (others (drop (prefix_len class bs) bs)) h in
    and_true (is_small b) (list_all is_small bs) (includes b p.0) (run_and_rest class is_small includes bs (rest (drop (prefix_len class bs) bs) p.1))

byte_small : (class : ℕ → Bool) (others : List ℕ → Bool) → Includes is_small class → Small others → Small (byte_then class others)
byte_small class others includes rest [] h = wrong h
byte_small class others includes rest (b ∷ bs) h =
    let p = both_true (class b) (others bs) h in
    and_true (is_small b) (list_all is_small bs) (includes b p.0) (rest bs p.1)

either_small : (f g : List ℕ → Bool) → Small f → Small g → Small (λ bytes. f bytes || g bytes)
either_small f g left right bytes h = elim (either_true (f bytes) (g bytes) h) [ inl p ↦ left bytes p | inr q ↦ right bytes q ]

digits_small : (others : List ℕ → Bool) → Small others → Small (digits others)
digits_small others rest = run_small is_digit others small_digit rest

fraction_small : (others : List ℕ → Bool) → Small others → Small (fraction others)
fraction_small others rest = byte_small (λ b. b == 46) (digits others) (λ b h. grind (arith, nat_tests)) (digits_small others rest)

unit_small : Small is_unit
unit_small bytes h =
    let found = any_in (λ unit. is_text unit bytes) units h in
    subst (λ l. list_all is_small l ≡ true) (same_text found.0 bytes found.2) (all_in (list_all is_small) units found.0 refl found.1)

signed_at : (b : ℕ) (bs : List ℕ) (s : Bool) → (b == 43 || b == 45) ≡ s → (if s then digits is_end bs else digits is_end (b ∷ bs)) ≡ true → list_all is_small (b ∷ bs) ≡ true
signed_at b bs true e h = and_true (is_small b) (list_all is_small bs) (grind (arith, nat_tests)) (digits_small is_end end_small bs h)
signed_at b bs false e h = digits_small is_end end_small (b ∷ bs) h

signed_small : Small is_signed
signed_small [] h = wrong h
signed_small (b ∷ bs) h = signed_at b bs (b == 43 || b == 45) refl h

exponent_small : Small is_exponent
exponent_small = byte_small (λ b. b == 101 || b == 69) is_signed (λ b h. grind (arith, nat_tests)) signed_small

hexadecimal_small : Small is_hexadecimal
hexadecimal_small = byte_small (λ b. b == 48) is_x_and_digits (λ b h. grind (arith, nat_tests))
    (byte_small (λ b. b == 120) (run_then is_hexadecimal_digit is_end) (λ b h. grind (arith, nat_tests)) (run_small is_hexadecimal_digit is_end small_hexadecimal end_small))

whole_number_small : Small is_whole_number
whole_number_small = either_small (digits is_end) is_hexadecimal (digits_small is_end end_small) hexadecimal_small

end_or_exponent_small : Small (λ rest. is_end rest || is_exponent rest)
end_or_exponent_small = either_small is_end is_exponent end_small exponent_small

real_small : Small is_real
real_small = digits_small (λ rest. is_exponent rest || fraction (λ rest. is_end rest || is_exponent rest) rest)
    (either_small is_exponent (fraction (λ rest. is_end rest || is_exponent rest)) exponent_small (fraction_small (λ rest. is_end rest || is_exponent rest) end_or_exponent_small))

timespan_small : Small is_timespan
timespan_small = digits_small (λ rest. is_unit rest || fraction is_unit rest) (either_small is_unit (fraction is_unit) unit_small (fraction_small is_unit unit_small))

-- a test that no empty list meets
number_ends : (test : List ℕ → Bool) → Small test → test [] ≡ false → (bytes : List ℕ) → test bytes ≡ true → HasAsciiEnds bytes
number_ends test all none [] h = wrong (sym none ∙ h)
number_ends test all none (b ∷ bytes) h = small_ends (b ∷ bytes) (omega arith) (all (b ∷ bytes) h)

-- ---- tokens of one spelling

abbrev is_small_text : List ℕ → Bool
is_small_text [] = false
is_small_text (b ∷ bytes) = list_all is_small (b ∷ bytes)

text_ends : (bytes : List ℕ) → is_small_text bytes ≡ true → HasAsciiEnds bytes
text_ends [] h = wrong h
text_ends (b ∷ bytes) h = small_ends (b ∷ bytes) (omega arith) h

spelled_ends : (k : TokenKind) (bytes : List ℕ) → is_spelled k ≡ true → is_text (spelling k) bytes ≡ true → HasAsciiEnds bytes
spelled_ends k bytes spelled h = subst HasAsciiEnds (same_text (spelling k) bytes h) (text_ends (spelling k) (all_in (λ j. is_small_text (spelling j)) SPELLED k refl (in_spelled k spelled)))

-- ---- typed literals

literal_word_small : (w : LiteralWord) → is_small_text (literal_word_spelling w) ≡ true
literal_word_small literal.Long = refl
literal_word_small literal.Int64 = refl
literal_word_small literal.Bool = refl
literal_word_small literal.Boolean = refl
literal_word_small literal.Datetime = refl
literal_word_small literal.Date = refl
literal_word_small literal.Timespan = refl
literal_word_small literal.Time = refl
literal_word_small literal.Dynamic = refl
literal_word_small literal.Int = refl
literal_word_small literal.Real = refl
literal_word_small literal.Double = refl
literal_word_small literal.Decimal = refl
literal_word_small literal.Guid = refl

last_is : (front : List ℕ) (x : ℕ) → get_or (front ++ x ∷ []) (length (front ++ x ∷ []) - 1) 0 ≡ x
last_is front x =
    let place : length (front ++ x ∷ []) - 1 ≡ length front + 0 = omega (arith, length-append front (x ∷ [])) in
    ap (λ n. get_or (front ++ x ∷ []) n 0) place ∙ get_or-append-add front (x ∷ []) 0 0

-- bytes that begin with a text of ASCII and end with a byte of ASCII
between_ends : (word within : List ℕ) (b : ℕ) → is_small_text word ≡ true → b < 128 → HasAsciiEnds (word ++ (within ++ b ∷ []))
between_ends [] within b h small_b = wrong h
between_ends (a ∷ word) within b h small_b =
    let whole : ((a ∷ word) ++ within) ++ b ∷ [] ≡ (a ∷ word) ++ (within ++ b ∷ []) = append_assoc (a ∷ word) within (b ∷ []) in
    subst HasAsciiEnds whole (record {
      some = omega arith;
      first = (text_ends (a ∷ word) h).first;
      last = subst (λ n. n < 128) (sym (last_is ((a ∷ word) ++ within) b)) small_b;
    })

literal_ends : (w : LiteralWord) (bytes : List ℕ) → is_typed_literal w bytes ≡ true → HasAsciiEnds bytes
literal_ends w bytes h =
    let p = parts_of w bytes h in
    let word = literal_word_spelling w in
    let inner : (word ++ p.spaces) ++ 40 ∷ (p.raw ++ 41 ∷ []) ≡ word ++ ((p.spaces ++ 40 ∷ p.raw) ++ 41 ∷ []) =
    append_assoc word p.spaces (40 ∷ (p.raw ++ 41 ∷ [])) ∙ ap (λ l. word ++ l) (sym (append_assoc p.spaces (40 ∷ p.raw) (41 ∷ []))) in
    subst HasAsciiEnds (sym (p.is ∙ inner)) (between_ends word (p.spaces ++ 40 ∷ p.raw) 41 (literal_word_small w) (omega arith))

-- ---- all

pub token_ends : (k : TokenKind) (bytes : List ℕ) → is_form k bytes ≡ true → HasAsciiEnds bytes
token_ends token.Word bytes h = word_ends bytes h
token_ends (token.DashedWord w) bytes h = spelled_ends (token.DashedWord w) bytes refl h
token_ends (token.Side s) bytes h = spelled_ends (token.Side s) bytes refl h
token_ends token.WholeNumber bytes h = number_ends is_whole_number whole_number_small refl bytes h
token_ends token.Real bytes h = number_ends is_real real_small refl bytes h
token_ends token.Timespan bytes h = number_ends is_timespan timespan_small refl bytes h
token_ends (token.TypedLiteral w) bytes h = literal_ends w bytes h
token_ends token.String bytes h = string_ends token.String bytes h
token_ends token.VerbatimString bytes h = string_ends token.VerbatimString bytes h
token_ends token.LongString bytes h = string_ends token.LongString bytes h
token_ends (token.WordOperator o) bytes h = spelled_ends (token.WordOperator o) bytes refl h
token_ends (token.Punctuation p) bytes h = spelled_ends (token.Punctuation p) bytes refl h
token_ends (token.Operator o) bytes h = spelled_ends (token.Operator o) bytes refl h
