-- The first byte of a token tells the family of its kind, and two longest tokens are one.
use Rattle.std.proofs.Common.{◌≡◌, ℕ, zero, suc, ◌<◌, ◌≤◌, Bool, true, false, ◌||◌, ◌==◌, List, [], ◌∷◌, ◌⊎◌, inl, inr, length, take, drop, refl, sym, ◌∙◌, ap, subst, arith}
use Rattle.std.proofs.lemmas.Bool.Decides.{nat_tests}
use Rattle.std.specs.Prelude.{codes}
use Rattle.std.specs.List.{list_all, prefix_len}
use Rattle.kq_read_tokens.specs.declared.kind.TokenKind.{TokenKind}
use Rattle.kq_read_tokens.specs.declared.kind.TokenKind.TheVariants as kind
use Rattle.kq_read_tokens.specs.Bytes.{is_letter, is_digit, is_word_byte, is_text, begins_with}
use Rattle.kq_read_tokens.specs.Spellings.{spelling, literal_word_spelling}
use Rattle.kq_read_tokens.specs.Numbers.{digits, is_hexadecimal, is_x_and_digits, is_whole_number, is_exponent, fraction, is_unit}
use Rattle.kq_read_tokens.specs.Bytes.{is_end}
use Rattle.kq_read_tokens.specs.declared.delimited.Within.TheVariants.{Quoted, Ticked}
use Rattle.kq_read_tokens.specs.Delimited.{is_quote, is_verbatim_quoted, closes, step, opened, is_raw}
use Rattle.kq_read_tokens.specs.Forms.{is_form, may_precede}
use Rattle.kq_read_tokens.specs.Reading.{IsLongest, NoToken}
use Rattle.kq_read_tokens.proofs.TestLemmas.{both_true, either_true, false_true, equal_of}
use Rattle.kq_read_tokens.proofs.SpelledLemmas.{letter, digit, quote, at_sign, tick, other, family_of, text_family, kind_family, is_spelled, spelled_form, spelled_lead, literal_word_family}

-- ---- families of bytes

letter_no_digit : (b : ℕ) → is_digit b ≡ true → is_letter b ≡ false
letter_no_digit b h = grind (arith, nat_tests)

pub letter_family : (b : ℕ) → is_letter b ≡ true → family_of b ≡ letter
letter_family b h = rw h refl

pub digit_family_at : (b : ℕ) → is_letter b ≡ false → is_digit b ≡ true → family_of b ≡ digit
digit_family_at b l h = rw (l, h) refl

pub digit_family : (b : ℕ) → is_digit b ≡ true → family_of b ≡ digit
digit_family b h = digit_family_at b (letter_no_digit b h) h

pub quote_family : (b : ℕ) → is_quote b ≡ true → family_of b ≡ quote
quote_family b h = elim (either_true (b == 34) (b == 39) h) [
  | inl e ↦ ap family_of (equal_of b 34 e)
  | inr e ↦ ap family_of (equal_of b 39 e)
]

pub at_family : (b : ℕ) → (b == 64) ≡ true → family_of b ≡ at_sign
at_family b h = ap family_of (equal_of b 64 h)

pub tick_family : (b : ℕ) → (b == 96) ≡ true → family_of b ≡ tick
tick_family b h = ap family_of (equal_of b 96 h)

pub other_family : (b : ℕ) → is_letter b ≡ false → is_digit b ≡ false → is_quote b ≡ false → (b == 64) ≡ false → (b == 96) ≡ false → family_of b ≡ other
other_family b l d q a t = rw (l, d, q, a, t) refl

-- ---- families of kinds

begins_family : (text : List ℕ) (b : ℕ) (u : List ℕ) → 0 < length text → begins_with text (b ∷ u) ≡ true → family_of b ≡ text_family text
begins_family [] b u some h = absurd (omega arith)
begins_family (c ∷ text) b u some h = ap family_of (sym (equal_of c b (both_true (c == b) (begins_with text u) h).0))

text_family_of : (text : List ℕ) (b : ℕ) (u : List ℕ) → is_text text (b ∷ u) ≡ true → family_of b ≡ text_family text
text_family_of [] b u h = let no_way : false ≡ true = h in absurd (cc)
text_family_of (c ∷ text) b u h = ap family_of (sym (equal_of c b (both_true (c == b) (is_text text u) h).0))

some_literal : (text : List ℕ) → text_family text ≡ letter → 0 < length text
some_literal [] h = let no_way : other ≡ letter = h in absurd (cc)
some_literal (b ∷ bs) h = omega arith

spelled_leads : (k : TokenKind) (b : ℕ) (u : List ℕ) → is_spelled k ≡ true → is_form k (b ∷ u) ≡ true → family_of b ≡ kind_family k
spelled_leads k b u s h = text_family_of (spelling k) b u (sym (spelled_form k s (b ∷ u)) ∙ h) ∙ sym (spelled_lead k s)

whole_digit : (b : ℕ) (u : List ℕ) → is_whole_number (b ∷ u) ≡ true → is_digit b ≡ true
whole_digit b u h = elim (either_true (digits is_end (b ∷ u)) (is_hexadecimal (b ∷ u)) h) [
  | inl d ↦ (both_true (is_digit b) (is_end (drop (prefix_len is_digit u) u)) d).0
  | inr x ↦ let zero_digit : is_digit 48 ≡ true = refl in subst (λ c. is_digit c ≡ true) (sym (equal_of b 48 (both_true (b == 48) (is_x_and_digits u) x).0)) zero_digit
]

abbrev pub point_real : List ℕ → Bool
point_real rest = is_end rest || is_exponent rest

abbrev pub behind_real : List ℕ → Bool
behind_real rest = is_exponent rest || fraction point_real rest

abbrev pub behind_span : List ℕ → Bool
behind_span rest = is_unit rest || fraction is_unit rest

pub leads : (k : TokenKind) (b : ℕ) (u : List ℕ) → is_form k (b ∷ u) ≡ true → family_of b ≡ kind_family k
leads kind.Word b u h = letter_family b (both_true (is_letter b) (list_all is_word_byte u) h).0
leads kind.WholeNumber b u h = digit_family b (whole_digit b u h)
leads kind.Real b u h = digit_family b (both_true (is_digit b) (behind_real (drop (prefix_len is_digit u) u)) h).0
leads kind.Timespan b u h = digit_family b (both_true (is_digit b) (behind_span (drop (prefix_len is_digit u) u)) h).0
leads (kind.TypedLiteral w) b u h =
    let begins = (both_true (begins_with (literal_word_spelling w) (b ∷ u)) (opened (is_raw w) (drop (length (literal_word_spelling w)) (b ∷ u))) h).0 in
    begins_family (literal_word_spelling w) b u (some_literal (literal_word_spelling w) (literal_word_family w)) begins ∙ literal_word_family w
leads kind.String b u h = quote_family b (both_true (is_quote b) (closes step (Quoted b) u) h).0
leads kind.VerbatimString b u h = at_family b (both_true (b == 64) (is_verbatim_quoted u) h).0
leads kind.LongString b u h =
    let begins = (both_true (begins_with (codes "```") (b ∷ u)) (closes step Ticked (drop 3 (b ∷ u))) h).0 in
    begins_family (codes "```") b u (omega arith) begins
leads (kind.DashedWord x) b u h = spelled_leads (kind.DashedWord x) b u refl h
leads (kind.Side x) b u h = spelled_leads (kind.Side x) b u refl h
leads (kind.WordOperator x) b u h = spelled_leads (kind.WordOperator x) b u refl h
leads (kind.Punctuation x) b u h = spelled_leads (kind.Punctuation x) b u refl h
leads (kind.Operator x) b u h = spelled_leads (kind.Operator x) b u refl h

-- ---- longest tokens

pub longest_same : (k j : TokenKind) (n m : ℕ) (bytes : List ℕ) → IsLongest k n bytes → IsLongest j m bytes → (j ≡ k) × (m ≡ n)
longest_same k j n m bytes p q = elim (le_or n m) [
  | inl le ↦ p.only j m le q.within q.form
  | inr le ↦ let same = q.only k n le p.within p.form in (sym same.0, sym same.1)
] where
  le_or : (a b : ℕ) → (a ≤ b) ⊎ (b ≤ a)
  le_or zero b = inl (omega arith)
  le_or (suc a) zero = inr (omega arith)
  le_or (suc a) (suc b) = elim (le_or a b) [ inl h ↦ inl (omega arith) | inr h ↦ inr (omega arith) ]

-- where the longest may not precede what follows it, there is none
pub refused : (k : TokenKind) (n : ℕ) (bytes : List ℕ) → IsLongest k n bytes → may_precede k (take n bytes) (drop n bytes) ≡ false → NoToken bytes
refused k n bytes longest bad = λ j m t.
    let same = longest_same k j n m bytes longest t.longest in
    let at_n : may_precede j (take n bytes) (drop n bytes) ≡ true = subst (λ i. may_precede j (take i bytes) (drop i bytes) ≡ true) same.1 t.may_precede in
    let at_k : may_precede k (take n bytes) (drop n bytes) ≡ true = subst (λ i. may_precede i (take n bytes) (drop n bytes) ≡ true) same.0 at_n in
    false_true (may_precede k (take n bytes) (drop n bytes)) bad at_k

-- a longest token has a first byte
pub first_of : (k : TokenKind) (b : ℕ) (bs : List ℕ) (m : ℕ) → 0 < m → is_form k (take m (b ∷ bs)) ≡ true → family_of b ≡ kind_family k
first_of k b bs zero some h = absurd (omega arith)
first_of k b bs (suc m) some h = leads k b (take m bs) h
