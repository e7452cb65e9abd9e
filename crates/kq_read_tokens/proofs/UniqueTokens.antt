-- A text has one list of tokens or one place where none starts, and not both.
use Rattle.std.proofs.Common.{◌≡◌, ℕ, zero, suc, ◌<◌, ◌≤◌, ◌+◌, false, List, [], ◌∷◌, ◌++◌, ◌⊎◌, inl, inr, drop, refl, sym, ◌∙◌, ap, subst, arith, append-nil}
use Rattle.kq_read_tokens.specs.declared.kind.TokenKind.{TokenKind}
use Rattle.kq_read_tokens.specs.declared.token.Token.{Token}
use Rattle.kq_read_tokens.specs.Reading.{IsToken, Tokenizes, start, blank, token, is_complete, blank_len, AreTokens, BreaksAt}
use Rattle.kq_read_tokens.proofs.LeadLemmas.{longest_same}
use Rattle.kq_read_tokens.proofs.ReadingLemmas.{reads_within}

-- n bytes at a place, which add these tokens: none for white space or a comment, and else one
data Piece (text : List ℕ) (at n : ℕ) (add : List Token) : Type 0 where
  a_blank : 0 < blank_len (drop at text) → n ≡ blank_len (drop at text) → add ≡ [] → Piece text at n add
  a_token : (kind : TokenKind) → blank_len (drop at text) ≡ 0 → IsToken kind n (drop at text) → add ≡ record { kind = kind; from = at; to = at + n } ∷ [] → Piece text at n add

piece_some : {text : List ℕ} {at n : ℕ} {add : List Token} → Piece text at n add → 0 < n
piece_some (a_blank some n_is none) = omega arith
piece_some (a_token kind none t add_is) = t.longest.some

piece_same : {text : List ℕ} {at n m : ℕ} {add more : List Token} → Piece text at n add → Piece text at m more → (n ≡ m) × (add ≡ more)
piece_same (a_blank some n_is none) (a_blank some' m_is none') = (n_is ∙ sym m_is, none ∙ sym none')
piece_same (a_blank some n_is none) (a_token kind no_blank t more_is) = absurd (omega arith)
piece_same (a_token kind no_blank t add_is) (a_blank some m_is none) = absurd (omega arith)
piece_same {text} {at} {n} {m} (a_token kind no_blank t add_is) (a_token other no_blank' u more_is) =
    let same = longest_same other kind m n (drop at text) u.longest t.longest in
    let tokens : record { kind = kind; from = at; to = at + n } ∷ [] ≡ record { kind = other; from = at; to = at + m } ∷ [] = one_token same.0 same.1 in
    (same.1, add_is ∙ tokens ∙ sym more_is) where
      one_token : kind ≡ other → n ≡ m → ◌≡◌ {A = List Token} (record { kind = kind; from = at; to = at + n } ∷ []) (record { kind = other; from = at; to = at + m } ∷ [])
      one_token k e = ap (λ (j : TokenKind). record { kind = j; from = at; to = at + n } ∷ []) k ∙ ap (λ (i : ℕ). record { kind = other; from = at; to = at + i } ∷ []) e

-- a text that is read to a place is read from there on
data From (text : List ℕ) (tokens : List Token) (at : ℕ) : List Token → ℕ → Type 0 where
  here : From text tokens at tokens at
  more : {us vs add : List Token} {bt ct n : ℕ} → From text tokens at us bt → is_complete text us ≡ false → Piece text bt n add → vs ≡ us ++ add → ct ≡ bt + n → From text tokens at vs ct

from_equal : {text : List ℕ} {ts us : List Token} {at bt : ℕ} → us ≡ ts → bt ≡ at → From text ts at us bt
from_equal {text} {ts} {us} {at} {bt} e c = subst (λ vs. From text ts at vs bt) (sym e) (subst (λ i. From text ts at ts i) (sym c) here)

data First (text : List ℕ) (ts : List Token) (at : ℕ) (us : List Token) (bt : ℕ) : Type 0 where
  no_step : bt ≡ at → us ≡ ts → First text ts at us bt
  a_step : (n : ℕ) (add : List Token) → is_complete text ts ≡ false → Piece text at n add → From text (ts ++ add) (at + n) us bt → First text ts at us bt

extend : {text : List ℕ} {ts us vs add : List Token} {at bt ct n : ℕ} → First text ts at us bt → is_complete text us ≡ false → Piece text bt n add → vs ≡ us ++ add → ct ≡ bt + n → First text ts at vs ct
extend {text} {ts} {us} {vs} {add} {at} {bt} {ct} {n} (no_step b u) incomplete p e c =
    a_step n add (subst (λ l. is_complete text l ≡ false) u incomplete) (subst (λ i. Piece text i n add) b p) (from_equal (e ∙ ap (λ l. l ++ add) u) (c ∙ ap (λ i. i + n) b))
extend (a_step m front i q g) incomplete p e c = a_step m front i q (more g incomplete p e c)

first_step : {text : List ℕ} {ts : List Token} {at : ℕ} {us : List Token} {bt : ℕ} → From text ts at us bt → First text ts at us bt
first_step here = no_step refl refl
first_step (more f incomplete p e c) = extend (first_step f) incomplete p e c

from_start : {text : List ℕ} {us : List Token} {bt : ℕ} → Tokenizes text us bt → From text [] 0 us bt
from_start start = here
from_start (blank {tokens} r incomplete some) = more (from_start r) incomplete (a_blank some refl refl) (sym (append-nil tokens)) refl
from_start (token {kind = kind} r incomplete none t) = more (from_start r) incomplete (a_token kind none t refl) refl refl

step_to : {text : List ℕ} {ts us add : List Token} {at bt n : ℕ} → First text ts at us bt → Piece text at n add → at + n ≤ bt → From text (ts ++ add) (at + n) us bt
step_to (no_step b u) p le = absurd (omega (arith, piece_some p))
step_to {text} {ts} {us} {add} {at} {bt} {n} (a_step m front i q g) p le =
    let same = piece_same q p in
    subst (λ j. From text (ts ++ add) (at + j) us bt) same.0 (subst (λ l. From text (ts ++ l) (at + m) us bt) same.1 g)

passes : {text : List ℕ} {ts : List Token} {at : ℕ} {us : List Token} {bt : ℕ} → Tokenizes text ts at → Tokenizes text us bt → at ≤ bt → From text ts at us bt
passes start r le = from_start r
passes {text} {us = us} {bt = bt} (blank {tokens} {at} q incomplete some) r le =
    subst (λ l. From text l (at + blank_len (drop at text)) us bt) (append-nil tokens) (step_to (first_step (passes q r (omega arith))) (a_blank some refl refl) le)
passes (token {kind = kind} q incomplete none t) r le = step_to (first_step (passes q r (omega arith))) (a_token kind none t refl) le

-- ---- what follows

from_below : {text : List ℕ} {ts : List Token} {at : ℕ} {us : List Token} {bt : ℕ} → From text ts at us bt → at ≤ bt
from_below here = omega arith
from_below (more f incomplete p e c) = omega (arith, from_below f, piece_some p)

le_or : (a b : ℕ) → (a ≤ b) ⊎ (b ≤ a)
le_or zero b = inl (omega arith)
le_or (suc a) zero = inr (omega arith)
le_or (suc a) (suc b) = elim (le_or a b) [ inl h ↦ inl (omega arith) | inr h ↦ inr (omega arith) ]

tokens_first : (text : List ℕ) (ts us : List Token) (p : AreTokens text ts) (q : AreTokens text us) → First text ts p.end us q.end → us ≡ ts
tokens_first text ts us p q (no_step b u) = u
tokens_first text ts us p q (a_step n add incomplete piece g) = absurd (omega (arith, p.whole incomplete, from_below g, piece_some piece, reads_within q.reads))

-- a text has one list of tokens
pub tokens_same : (text : List ℕ) (ts us : List Token) → AreTokens text ts → AreTokens text us → ts ≡ us
tokens_same text ts us p q = elim (le_or p.end q.end) [
  | inl le ↦ sym (tokens_first text ts us p q (first_step (passes p.reads q.reads le)))
  | inr le ↦ tokens_first text us ts q p (first_step (passes q.reads p.reads le))
]

break_first : (text : List ℕ) (at : ℕ) (us : List Token) (bt : ℕ) → (p : BreaksAt text at) → First text p.tokens at us bt → (bt ≡ at) × (us ≡ p.tokens)
break_first text at us bt p (no_step b u) = (b, u)
break_first text at us bt p (a_step n add incomplete (a_blank some n_is none) g) = absurd (omega (arith, p.no_blank))
break_first text at us bt p (a_step n add incomplete (a_token kind none t add_is) g) = absurd (p.no_token kind n t)

tokens_then_break : (text : List ℕ) (ts : List Token) (at : ℕ) (p : AreTokens text ts) (q : BreaksAt text at) → First text ts p.end q.tokens at → ⊥
tokens_then_break text ts at p q (no_step b u) =
    let incomplete : is_complete text ts ≡ false = subst (λ l. is_complete text l ≡ false) u q.incomplete in
    omega (arith, p.whole incomplete, q.some_left)
tokens_then_break text ts at p q (a_step n add incomplete piece g) = omega (arith, p.whole incomplete, from_below g, piece_some piece, q.some_left)

-- a text that has tokens breaks nowhere
pub tokens_or_break : (text : List ℕ) (ts : List Token) (at : ℕ) → AreTokens text ts → BreaksAt text at → ⊥
tokens_or_break text ts at p q = elim (le_or p.end at) [
  | inl le ↦ tokens_then_break text ts at p q (first_step (passes p.reads q.reads le))
  | inr le ↦
      let same = break_first text at ts p.end q (first_step (passes q.reads p.reads le)) in
      tokens_then_break text ts at p q (no_step (sym same.0) (sym same.1))
]

-- and one that breaks does so at one place
pub break_same : (text : List ℕ) (at bt : ℕ) → BreaksAt text at → BreaksAt text bt → at ≡ bt
break_same text at bt p q = elim (le_or at bt) [
  | inl le ↦ sym (break_first text at q.tokens bt p (first_step (passes p.reads q.reads le))).0
  | inr le ↦ (break_first text bt p.tokens at q (first_step (passes q.reads p.reads le))).0
]
