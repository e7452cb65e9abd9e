-- The symbols of a text come in order: none ends before one that stands before it starts.
use Rattle.std.proofs.Common.{◌≡◌, ℕ, ◌≤◌, ◌+◌, ◌-◌, List, [], ◌∷◌, ◌++◌, All, Some, length, subst, arith}
use Rattle.std.specs.Prelude.{slice_get}
use Rattle.std.proofs.lemmas.List.Elements.{All-cons, All-head, All-map, All-nil, All-push, All-tail, All-weaker}
use Rattle.std.proofs.lemmas.Option.{get_or_from_slice_get, same_Some, slice_get_within}
use Rattle.kq_read_control.specs.Symbols.{symbol_of, symbols_of}
use Rattle.kq_read_symbols.specs.declared.kind.Symbol.{Symbol}
use Rattle.kq_read_symbols.specs.Located.{first_of, last_of}
use Rattle.kq_read_tokens.specs.declared.token.Token.{Token}
use Rattle.kq_read_tokens.specs.Reading.{AreTokens, Tokenizes, start, blank, token}

-- each ends at or behind the place
abbrev EndsBehind : ℕ → Symbol → Type 0
EndsBehind place t = place ≤ t.to

abbrev pub InOrder : List Symbol → Type 0
InOrder [] = Unit {0}
InOrder (t ∷ ts) = All (EndsBehind t.from) (t ∷ ts) × InOrder ts

-- ---- parts of symbols in order

pub left_all : (P : Symbol → Type 0) (xs ys : List Symbol) → All P (xs ++ ys) → All P xs
left_all P [] ys all = All-nil P
left_all P (x ∷ xs) ys all = All-cons P x xs (All-head P x (xs ++ ys) all) (left_all P xs ys (All-tail P x (xs ++ ys) all))

pub left_in_order : (xs ys : List Symbol) → InOrder (xs ++ ys) → InOrder xs
left_in_order [] ys h = tt
left_in_order (x ∷ xs) ys h = (left_all (EndsBehind x.from) (x ∷ xs) ys h.0, left_in_order xs ys h.1)

pub right_in_order : (xs ys : List Symbol) → InOrder (xs ++ ys) → InOrder ys
right_in_order [] ys h = h
right_in_order (x ∷ xs) ys h = right_in_order xs ys h.1

pub element : (P : Symbol → Type 0) (ts : List Symbol) (i : ℕ) (t : Symbol) → All P ts → slice_get ts i ≡ Some t → P t
element P ts i t all e = subst P (get_or_from_slice_get ts i t t e) (all i t (slice_get_within ts i t e))

-- the first starts at or before the last one's end
pub first_before_last : (ts : List Symbol) (a b : Symbol) → InOrder ts → first_of ts ≡ Some a → last_of ts ≡ Some b → a.from ≤ b.to
first_before_last [] a b h first last = absurd (cc)
first_before_last (t ∷ ts) a b h first last =
    subst (λ (u : Symbol). u.from ≤ b.to) (same_Some t a first) (element (EndsBehind t.from) (t ∷ ts) (length (t ∷ ts) - 1) b h.0 last)

-- ---- the symbols of a text

abbrev TokensInOrder : List Token → Type 0
TokensInOrder [] = Unit {0}
TokensInOrder (t ∷ ts) = All (λ (u : Token). t.from ≤ u.to) (t ∷ ts) × TokensInOrder ts

push_in_order : (ts : List Token) (u : Token) → TokensInOrder ts → All (λ (t : Token). t.from ≤ u.to) ts → u.from ≤ u.to → TokensInOrder (ts ++ u ∷ [])
push_in_order [] u h before itself = (All-cons (λ (v : Token). u.from ≤ v.to) u [] itself (All-nil (λ (v : Token). u.from ≤ v.to)), tt)
push_in_order (t ∷ ts) u h before itself = (
  All-push (λ (v : Token). t.from ≤ v.to) (t ∷ ts) u h.0 (All-head (λ (v : Token). v.from ≤ u.to) t ts before),
  push_in_order ts u h.1 (All-tail (λ (v : Token). v.from ≤ u.to) t ts before) itself,
)

starts_before : {text : List ℕ} {tokens : List Token} {at : ℕ} → Tokenizes text tokens at → (place : ℕ) → at ≤ place → All (λ (t : Token). t.from ≤ place) tokens
starts_before start place le = All-nil (λ (t : Token). t.from ≤ place)
starts_before (blank r incomplete some) place le = starts_before r place (omega arith)
starts_before (token {tokens} {at} {kind} {n} r incomplete none t) place le =
    All-push (λ (u : Token). u.from ≤ place) tokens (record { kind = kind; from = at; to = at + n }) (starts_before r place (omega arith)) (omega arith)

reads_in_order : {text : List ℕ} {tokens : List Token} {at : ℕ} → Tokenizes text tokens at → TokensInOrder tokens
reads_in_order start = tt
reads_in_order (blank r incomplete some) = reads_in_order r
reads_in_order (token {tokens} {at} {kind} {n} r incomplete none t) =
    push_in_order tokens (record { kind = kind; from = at; to = at + n }) (reads_in_order r) (starts_before r (at + n) (omega arith)) (omega arith)

symbols_ordered : (text : List ℕ) (tokens : List Token) → TokensInOrder tokens → InOrder (symbols_of text tokens)
symbols_ordered text [] h = tt
symbols_ordered text (t ∷ ts) h = (All-map (EndsBehind t.from) (symbol_of text) (t ∷ ts) h.0, symbols_ordered text ts h.1)

pub symbols_in_order : (text : List ℕ) (tokens : List Token) → AreTokens text tokens → InOrder (symbols_of text tokens)
symbols_in_order text tokens are = symbols_ordered text tokens (reads_in_order are.reads)
