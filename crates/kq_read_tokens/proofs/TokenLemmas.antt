-- The token that is found is the longest, and where none is found there is none.
use Rattle.std.proofs.Common.{◌≡◌, ℕ, ◌<◌, ◌≤◌, Bool, true, false, ◌==◌, if◌then◌else◌, List, [], ◌∷◌, inl, inr, length, take, Option, Some, None, refl, sym, ◌∙◌, subst, arith}
use Rattle.kq_read_tokens.specs.declared.kind.TokenKind.{TokenKind}
use Rattle.kq_read_tokens.specs.declared.kind.TokenKind.TheVariants as kind
use Rattle.kq_read_tokens.specs.declared.kind.Punctuation.TheVariants as sign
use Rattle.kq_read_tokens.specs.declared.kind.Operator.TheVariants as operator
use Rattle.kq_read_tokens.specs.Bytes.{is_letter, is_digit}
use Rattle.kq_read_tokens.specs.Spellings.{spelling}
use Rattle.kq_read_tokens.specs.Delimited.{is_quote}
use Rattle.kq_read_tokens.specs.Forms.{is_form}
use Rattle.kq_read_tokens.specs.Reading.{IsToken, IsTokenOrNone}
use Rattle.kq_read_tokens.specs.Scanning.{pick, single_sign, single_or, spelled_at, sign_of, sign_at, word_at, number_at, string_at, verbatim_at, long_string_at, token_at}
use Rattle.kq_read_tokens.proofs.TestLemmas.{equal_of}
use Rattle.kq_read_tokens.proofs.SpelledLemmas.{other, family_of, is_spelled, spelled_or_not, spelled_token, none_spelled, unspelled_lead, spelled_some}
use Rattle.kq_read_tokens.proofs.LeadLemmas.{first_of, other_family}
use Rattle.kq_read_tokens.proofs.NumberLemmas.{number_right}
use Rattle.kq_read_tokens.proofs.StringLemmas.{string_right, verbatim_right, long_string_right}
use Rattle.kq_read_tokens.proofs.WordLemmas.{word_right}

no_unspelled : (b : ℕ) (bs : List ℕ) → family_of b ≡ other → (k : TokenKind) (m : ℕ) → 0 < m → is_spelled k ≡ false → is_form k (take m (b ∷ bs)) ≡ true → ⊥
no_unspelled b bs f k m some s form = unspelled_lead k s (sym (first_of k b bs m some form) ∙ f)

sign_right_at : (b : ℕ) (bs : List ℕ) → family_of b ≡ other → (o : Option TokenKind) → spelled_at (b ∷ bs) ≡ o → IsTokenOrNone (sign_of o) (b ∷ bs)
sign_right_at b bs f None e = λ k m t. elim (spelled_or_not k) [
  | inl s ↦ none_spelled (b ∷ bs) e k m s t.longest.within t.longest.form
  | inr s ↦ no_unspelled b bs f k m t.longest.some s t.longest.form
]
sign_right_at b bs f (Some k) e = spelled_token (b ∷ bs) k e (λ j m le within s form. some_bytes j m le within s form) where
  some_bytes : (j : TokenKind) (m : ℕ) → length (spelling k) ≤ m → m ≤ length (b ∷ bs) → is_spelled j ≡ false → is_form j (take m (b ∷ bs)) ≡ true → ⊥
  some_bytes j m le within s form = no_unspelled b bs f j m (omega (arith, le, spelled_some k (b ∷ bs) e)) s form

-- what a sign of one byte is in the table
record Single (b : ℕ) (bs : List ℕ) (k : TokenKind) : Type 0 where
  found : spelled_at (b ∷ bs) ≡ Some k
  one : length (spelling k) ≡ 1

single_step : (c : ℕ) (a : TokenKind) (others : Option TokenKind) (b : ℕ) (bs : List ℕ) (k : TokenKind) (t : Bool) → (b == c) ≡ t → pick t a others ≡ Some k → Single c bs a → (others ≡ Some k → Single b bs k) → Single b bs k
single_step c a others b bs k true e h s rest =
    let b_is = equal_of b c e in
    let a_is : a ≡ k = cc in
    subst (λ j. Single b bs j) a_is (subst (λ i. Single i bs a) (sym b_is) s)
single_step c a others b bs k false e h s rest = rest h

no_single : (b : ℕ) (bs : List ℕ) (k : TokenKind) → None ≡ Some k → Single b bs k
no_single b bs k h = absurd (cc)

abbrev from_15 : ℕ → Option TokenKind
from_15 b = pick (b == 37) (kind.Operator operator.Percent) None

single_15 : (b : ℕ) (bs : List ℕ) (k : TokenKind) → from_15 b ≡ Some k → Single b bs k
unfolding spelled_at
single_15 b bs k h = single_step 37 (kind.Operator operator.Percent) None b bs k (b == 37) refl h (record { found = refl; one = refl }) (λ r. no_single b bs k r)

abbrev from_14 : ℕ → Option TokenKind
from_14 b = pick (b == 47) (kind.Operator operator.Slash) (from_15 b)

single_14 : (b : ℕ) (bs : List ℕ) (k : TokenKind) → from_14 b ≡ Some k → Single b bs k
unfolding spelled_at
single_14 b bs k h = single_step 47 (kind.Operator operator.Slash) (from_15 b) b bs k (b == 47) refl h (record { found = refl; one = refl }) (λ r. single_15 b bs k r)

abbrev from_13 : ℕ → Option TokenKind
from_13 b = pick (b == 42) (kind.Operator operator.Star) (from_14 b)

single_13 : (b : ℕ) (bs : List ℕ) (k : TokenKind) → from_13 b ≡ Some k → Single b bs k
unfolding spelled_at
single_13 b bs k h = single_step 42 (kind.Operator operator.Star) (from_14 b) b bs k (b == 42) refl h (record { found = refl; one = refl }) (λ r. single_14 b bs k r)

abbrev from_12 : ℕ → Option TokenKind
from_12 b = pick (b == 45) (kind.Operator operator.Minus) (from_13 b)

single_12 : (b : ℕ) (bs : List ℕ) (k : TokenKind) → from_12 b ≡ Some k → Single b bs k
unfolding spelled_at
single_12 b bs k h = single_step 45 (kind.Operator operator.Minus) (from_13 b) b bs k (b == 45) refl h (record { found = refl; one = refl }) (λ r. single_13 b bs k r)

abbrev from_11 : ℕ → Option TokenKind
from_11 b = pick (b == 43) (kind.Operator operator.Plus) (from_12 b)

single_11 : (b : ℕ) (bs : List ℕ) (k : TokenKind) → from_11 b ≡ Some k → Single b bs k
unfolding spelled_at
single_11 b bs k h = single_step 43 (kind.Operator operator.Plus) (from_12 b) b bs k (b == 43) refl h (record { found = refl; one = refl }) (λ r. single_12 b bs k r)

abbrev from_10 : ℕ → Option TokenKind
from_10 b = pick (b == 35) (kind.Punctuation sign.Hash) (from_11 b)

single_10 : (b : ℕ) (bs : List ℕ) (k : TokenKind) → from_10 b ≡ Some k → Single b bs k
unfolding spelled_at
single_10 b bs k h = single_step 35 (kind.Punctuation sign.Hash) (from_11 b) b bs k (b == 35) refl h (record { found = refl; one = refl }) (λ r. single_11 b bs k r)

abbrev from_9 : ℕ → Option TokenKind
from_9 b = pick (b == 58) (kind.Punctuation sign.Colon) (from_10 b)

single_9 : (b : ℕ) (bs : List ℕ) (k : TokenKind) → from_9 b ≡ Some k → Single b bs k
unfolding spelled_at
single_9 b bs k h = single_step 58 (kind.Punctuation sign.Colon) (from_10 b) b bs k (b == 58) refl h (record { found = refl; one = refl }) (λ r. single_10 b bs k r)

abbrev from_8 : ℕ → Option TokenKind
from_8 b = pick (b == 59) (kind.Punctuation sign.Semicolon) (from_9 b)

single_8 : (b : ℕ) (bs : List ℕ) (k : TokenKind) → from_8 b ≡ Some k → Single b bs k
unfolding spelled_at
single_8 b bs k h = single_step 59 (kind.Punctuation sign.Semicolon) (from_9 b) b bs k (b == 59) refl h (record { found = refl; one = refl }) (λ r. single_9 b bs k r)

abbrev from_7 : ℕ → Option TokenKind
from_7 b = pick (b == 44) (kind.Punctuation sign.Comma) (from_8 b)

single_7 : (b : ℕ) (bs : List ℕ) (k : TokenKind) → from_7 b ≡ Some k → Single b bs k
unfolding spelled_at
single_7 b bs k h = single_step 44 (kind.Punctuation sign.Comma) (from_8 b) b bs k (b == 44) refl h (record { found = refl; one = refl }) (λ r. single_8 b bs k r)

abbrev from_6 : ℕ → Option TokenKind
from_6 b = pick (b == 125) (kind.Punctuation sign.CloseBrace) (from_7 b)

single_6 : (b : ℕ) (bs : List ℕ) (k : TokenKind) → from_6 b ≡ Some k → Single b bs k
unfolding spelled_at
single_6 b bs k h = single_step 125 (kind.Punctuation sign.CloseBrace) (from_7 b) b bs k (b == 125) refl h (record { found = refl; one = refl }) (λ r. single_7 b bs k r)

abbrev from_5 : ℕ → Option TokenKind
from_5 b = pick (b == 123) (kind.Punctuation sign.OpenBrace) (from_6 b)

single_5 : (b : ℕ) (bs : List ℕ) (k : TokenKind) → from_5 b ≡ Some k → Single b bs k
unfolding spelled_at
single_5 b bs k h = single_step 123 (kind.Punctuation sign.OpenBrace) (from_6 b) b bs k (b == 123) refl h (record { found = refl; one = refl }) (λ r. single_6 b bs k r)

abbrev from_4 : ℕ → Option TokenKind
from_4 b = pick (b == 93) (kind.Punctuation sign.CloseBracket) (from_5 b)

single_4 : (b : ℕ) (bs : List ℕ) (k : TokenKind) → from_4 b ≡ Some k → Single b bs k
unfolding spelled_at
single_4 b bs k h = single_step 93 (kind.Punctuation sign.CloseBracket) (from_5 b) b bs k (b == 93) refl h (record { found = refl; one = refl }) (λ r. single_5 b bs k r)

abbrev from_3 : ℕ → Option TokenKind
from_3 b = pick (b == 91) (kind.Punctuation sign.OpenBracket) (from_4 b)

single_3 : (b : ℕ) (bs : List ℕ) (k : TokenKind) → from_3 b ≡ Some k → Single b bs k
unfolding spelled_at
single_3 b bs k h = single_step 91 (kind.Punctuation sign.OpenBracket) (from_4 b) b bs k (b == 91) refl h (record { found = refl; one = refl }) (λ r. single_4 b bs k r)

abbrev from_2 : ℕ → Option TokenKind
from_2 b = pick (b == 41) (kind.Punctuation sign.CloseParenthesis) (from_3 b)

single_2 : (b : ℕ) (bs : List ℕ) (k : TokenKind) → from_2 b ≡ Some k → Single b bs k
unfolding spelled_at
single_2 b bs k h = single_step 41 (kind.Punctuation sign.CloseParenthesis) (from_3 b) b bs k (b == 41) refl h (record { found = refl; one = refl }) (λ r. single_3 b bs k r)

abbrev from_1 : ℕ → Option TokenKind
from_1 b = pick (b == 40) (kind.Punctuation sign.OpenParenthesis) (from_2 b)

single_1 : (b : ℕ) (bs : List ℕ) (k : TokenKind) → from_1 b ≡ Some k → Single b bs k
unfolding spelled_at
single_1 b bs k h = single_step 40 (kind.Punctuation sign.OpenParenthesis) (from_2 b) b bs k (b == 40) refl h (record { found = refl; one = refl }) (λ r. single_2 b bs k r)

abbrev from_0 : ℕ → Option TokenKind
from_0 b = pick (b == 124) (kind.Punctuation sign.Pipe) (from_1 b)

single_0 : (b : ℕ) (bs : List ℕ) (k : TokenKind) → from_0 b ≡ Some k → Single b bs k
unfolding spelled_at
single_0 b bs k h = single_step 124 (kind.Punctuation sign.Pipe) (from_1 b) b bs k (b == 124) refl h (record { found = refl; one = refl }) (λ r. single_1 b bs k r)

sign_or_single : (b : ℕ) (bs : List ℕ) → family_of b ≡ other → (o : Option TokenKind) → single_sign b ≡ o → IsTokenOrNone (single_or o (b ∷ bs)) (b ∷ bs)
sign_or_single b bs f None e = sign_right_at b bs f (spelled_at (b ∷ bs)) refl
sign_or_single b bs f (Some k) e =
    let s = single_0 b bs k e in
    subst (λ n. IsToken k n (b ∷ bs)) s.one (sign_right_at b bs f (Some k) s.found)

sign_right : (b : ℕ) (bs : List ℕ) → family_of b ≡ other → IsTokenOrNone (sign_at b (b ∷ bs)) (b ∷ bs)
unfolding sign_at
sign_right b bs f = sign_or_single b bs f (single_sign b) refl

all_right : (b : ℕ) (bs : List ℕ) (l d q a t : Bool) → is_letter b ≡ l → is_digit b ≡ d → is_quote b ≡ q → (b == 64) ≡ a → (b == 96) ≡ t
    → IsTokenOrNone (if l then word_at (b ∷ bs) else (if d then number_at (b ∷ bs) else (if q then string_at b bs else (if a then verbatim_at bs else (if t then long_string_at (b ∷ bs) else sign_at b (b ∷ bs)))))) (b ∷ bs)
all_right b bs true d q a t l_is d_is q_is a_is t_is = word_right b bs l_is
all_right b bs false true q a t l_is d_is q_is a_is t_is = number_right b bs d_is
all_right b bs false false true a t l_is d_is q_is a_is t_is = string_right b bs q_is
all_right b bs false false false true t l_is d_is q_is a_is t_is = verbatim_right b bs a_is
all_right b bs false false false false true l_is d_is q_is a_is t_is = long_string_right b bs t_is
all_right b bs false false false false false l_is d_is q_is a_is t_is = sign_right b bs (other_family b l_is d_is q_is a_is t_is)

pub token_right : (bytes : List ℕ) → IsTokenOrNone (token_at bytes) bytes
unfolding token_at
token_right [] = λ k m t. omega (arith, t.longest.some, t.longest.within)
token_right (b ∷ bs) = all_right b bs (is_letter b) (is_digit b) (is_quote b) (b == 64) (b == 96) refl refl refl refl refl
