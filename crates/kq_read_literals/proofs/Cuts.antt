-- Words and strings begin and end with a byte of ASCII, so a text may be cut at both of their ends.
use Rattle.std.proofs.Common.{◌≡◌, ℕ, zero, suc, ◌<◌, ◌≤◌, ◌+◌, ◌-◌, true, false, ◌==◌, List, [], ◌∷◌, ◌++◌, append_assoc, get_or, length, drop, length-append, length-drop, length-take-le, sym, ◌∙◌, ap, subst, arith}
use Rattle.std.specs.Prelude.{IfSome, slice_get, slice_range}
use Rattle.std.specs.List.{list_all}
use Rattle.std.specs.Str.{IsUtf8, IsCharBoundary}
use Rattle.std.proofs.lemmas.Bool.Decides.{nat_tests}
use Rattle.std.proofs.lemmas.List.{get_or-take, get_or-drop, get_or-append-add}
use Rattle.std.proofs.lemmas.Str.{IsCharBoundary-before_ascii, IsCharBoundary-after_ascii, IsUtf8-between}
use Rattle.kq_read_literals.proofs.StandsForLemmas.{stands_for}
use Rattle.kq_read_literals.specs.Strings.{is_string_token, doubled, string_text_of}
use Rattle.kq_read_tokens.specs.declared.kind.TokenKind.{TokenKind}
use Rattle.kq_read_tokens.specs.declared.kind.TokenKind.TheVariants as token
use Rattle.kq_read_tokens.specs.Bytes.{is_letter, is_word_byte}
use Rattle.kq_read_tokens.specs.Delimited.{is_quote, is_string, is_verbatim_string, is_verbatim_quoted, is_verbatim, closes, step}
use Rattle.kq_read_tokens.specs.declared.delimited.Within.TheVariants.{Quoted}
use Rattle.kq_read_tokens.specs.Forms.{is_word}
use Rattle.kq_read_tokens.specs.Reading.{AreTokens}
use Rattle.kq_read_tokens.specs.declared.token.Token.{Token}
use Rattle.kq_read_tokens.proofs.ReadingLemmas.{tokens_stand}
use Rattle.std.proofs.lemmas.Option.{slice_get-get_or}
use Rattle.kq_read_tokens.proofs.TestLemmas.{both_true}

pub record HasAsciiEnds (bytes : List ℕ) : Type 0 where
  pub some : 0 < length bytes
  pub first : get_or bytes 0 0 < 128
  pub last : get_or bytes (length bytes - 1) 0 < 128

wrong : {A : Type 0} → false ≡ true → A
wrong h = absurd (cc)

-- ---- words

small_letter : (b : ℕ) → is_letter b ≡ true → b < 128
small_letter b h = grind (arith, nat_tests)

small_byte : (b : ℕ) → is_word_byte b ≡ true → b < 128
small_byte b h = grind (arith, nat_tests)

small_bytes : (bytes : List ℕ) → list_all is_word_byte bytes ≡ true → (i : ℕ) → get_or bytes i 0 < 128
small_bytes [] h i = omega arith
small_bytes (b ∷ bytes) h zero = small_byte b (both_true (is_word_byte b) (list_all is_word_byte bytes) h).0
small_bytes (b ∷ bytes) h (suc i) = small_bytes bytes (both_true (is_word_byte b) (list_all is_word_byte bytes) h).1 i

small_word : (b : ℕ) (bytes : List ℕ) → is_letter b ≡ true → list_all is_word_byte bytes ≡ true → (i : ℕ) → get_or (b ∷ bytes) i 0 < 128
small_word b bytes l h zero = small_letter b l
small_word b bytes l h (suc i) = small_bytes bytes h i

pub word_ends : (bytes : List ℕ) → is_word bytes ≡ true → HasAsciiEnds bytes
word_ends [] h = wrong h
word_ends (b ∷ bytes) h =
    let p = both_true (is_letter b) (list_all is_word_byte bytes) h in
    let all = small_word b bytes p.0 p.1 in
    record { some = omega arith; first = all 0; last = all (length (b ∷ bytes) - 1) }

-- ---- strings

last_is : (front : List ℕ) (x : ℕ) → get_or (front ++ x ∷ []) (length (front ++ x ∷ []) - 1) 0 ≡ x
last_is front x =
    let place : length (front ++ x ∷ []) - 1 ≡ length front + 0 = omega (arith, length-append front (x ∷ [])) in
    ap (λ n. get_or (front ++ x ∷ []) n 0) place ∙ get_or-append-add front (x ∷ []) 0 0

-- a byte, some bytes, and a last one
between_ends : (a b : ℕ) (within bytes : List ℕ) → a < 128 → b < 128 → bytes ≡ (a ∷ within) ++ b ∷ [] → HasAsciiEnds bytes
between_ends a b within bytes small_a small_b e = subst HasAsciiEnds (sym e) (record {
  some = omega arith;
  first = small_a;
  last = subst (λ n. n < 128) (sym (last_is (a ∷ within) b)) small_b;
})

small_quote : (q : ℕ) → is_quote q ≡ true → q < 128
small_quote q h = grind (arith, nat_tests)

quote_small : (q : ℕ) (bytes : List ℕ) → is_string (q ∷ bytes) ≡ true → q < 128
quote_small q bytes h = small_quote q (both_true (is_quote q) (closes step (Quoted q) bytes) h).0

verbatim_small : (a q : ℕ) (bytes : List ℕ) → is_verbatim_string (a ∷ q ∷ bytes) ≡ true → q < 128
verbatim_small a q bytes h = small_quote q (both_true (is_quote q) (is_verbatim q false bytes) (both_true (a == 64) (is_verbatim_quoted (q ∷ bytes)) h).1).0

pub string_ends : (k : TokenKind) (bytes : List ℕ) → is_string_token k bytes ≡ true → HasAsciiEnds bytes
string_ends token.String bytes h =
    let (q, within, is, spelled) = stands_for token.String bytes h in
    let small = quote_small q (within ++ q ∷ []) (subst (λ l. is_string l ≡ true) is h) in
    between_ends q q within bytes small small is
string_ends token.VerbatimString bytes h =
    let (q, is) = stands_for token.VerbatimString bytes h in
    let text = string_text_of token.VerbatimString bytes in
    let small = verbatim_small 64 q (doubled q text ++ q ∷ []) (subst (λ l. is_verbatim_string l ≡ true) is h) in
    between_ends 64 q (q ∷ doubled q text) bytes (omega arith) small is
string_ends token.LongString bytes h =
    let is = stands_for token.LongString bytes h in
    let text = string_text_of token.LongString bytes in
    between_ends 96 96 (96 ∷ 96 ∷ (text ++ 96 ∷ 96 ∷ [])) bytes (omega arith) (omega arith) (is ∙ ap (λ l. 96 ∷ 96 ∷ 96 ∷ l) (sym (append_assoc text (96 ∷ 96 ∷ []) (96 ∷ []))))
string_ends token.Word bytes h = wrong h
string_ends (token.DashedWord w) bytes h = wrong h
string_ends (token.Side s) bytes h = wrong h
string_ends token.WholeNumber bytes h = wrong h
string_ends token.Real bytes h = wrong h
string_ends token.Timespan bytes h = wrong h
string_ends (token.TypedLiteral w) bytes h = wrong h
string_ends (token.WordOperator o) bytes h = wrong h
string_ends (token.Punctuation p) bytes h = wrong h
string_ends (token.Operator o) bytes h = wrong h

-- ---- where the text may be cut

pub record AreCuts (text : List ℕ) (from to : ℕ) : Type 0 where
  pub at_from : IsCharBoundary text from
  pub at_to : IsCharBoundary text to

pub cuts : (text : List ℕ) (from to : ℕ) → IsUtf8 text → from ≤ to → to ≤ length text → HasAsciiEnds (slice_range text from to) → AreCuts text from to
cuts text from to utf8 in_order within ends =
    let len : length (slice_range text from to) ≡ to - from = length-take-le (to - from) (drop from text) (omega (arith, length-drop from text)) in
    let some : from < to = omega (arith, ends.some, len) in
    let at : (i : ℕ) → i < to - from → get_or (slice_range text from to) i 0 ≡ get_or text (from + i) 0 = λ i less. get_or-take (to - from) (drop from text) i 0 less ∙ get_or-drop from text i 0 in
    let none : from + 0 ≡ from = omega arith in
    let first : get_or text from 0 < 128 = subst (λ n. n < 128) (at 0 (omega arith) ∙ ap (λ n. get_or text n 0) none) ends.first in
    let place : from + (length (slice_range text from to) - 1) ≡ to - 1 = omega arith in
    let last : get_or text (to - 1) 0 < 128 = subst (λ n. n < 128) (at (length (slice_range text from to) - 1) (omega arith) ∙ ap (λ n. get_or text n 0) place) ends.last in
    let end : to - 1 + 1 ≡ to = omega arith in
    record {
      at_from = IsCharBoundary-before_ascii text from (omega arith) first;
      at_to = subst (IsCharBoundary text) end (IsCharBoundary-after_ascii text (to - 1) utf8 (omega arith) last);
    }

-- the bytes of a string among the tokens of a text, which was read in a slice of the tokens
pub string_bytes_utf8 : (text : List ℕ) (tokens : List Token) (index : ℕ) (d : Token) (bytes : List ℕ) (k : TokenKind) → IsUtf8 text → AreTokens text tokens → index < length tokens → IfSome (slice_get tokens index) (λ t. bytes ≡ slice_range text t.from t.to) → is_string_token k bytes ≡ true → IsUtf8 bytes
string_bytes_utf8 text tokens index d bytes k utf8 are within h string =
    let t = get_or tokens index d in
    let here : bytes ≡ slice_range text t.from t.to = subst (λ o. IfSome o (λ u. bytes ≡ slice_range text u.from u.to)) (slice_get-get_or tokens index d within) h in
    let stands = tokens_stand text tokens are index d within in
    let there = cuts text t.from t.to utf8 stands.0 stands.1 (subst HasAsciiEnds here (string_ends k bytes string)) in
    subst IsUtf8 (sym here) (IsUtf8-between text t.from t.to utf8 stands.0 there.at_from there.at_to)
