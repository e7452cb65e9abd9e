-- How a text is read: the longest token at each place, with white space and comments between.
use Rattle.std.specs.Prelude.{◌≡◌, ℕ, ◌<◌, ◌≤◌, ◌+◌, Bool, true, false, ◌&&◌, ◌==◌, if◌then◌else◌, List, [], ◌∷◌, ◌++◌, length, take, drop, codes, Option, Some, None, slice_range}
use Rattle.std.specs.List.{prefix_len}
use Rattle.kq_read_tokens.specs.declared.kind.TokenKind.{TokenKind}
use Rattle.kq_read_tokens.specs.declared.kind.TokenKind.TheVariants as kind
use Rattle.kq_read_tokens.specs.declared.kind.Punctuation.TheVariants as sign
use Rattle.kq_read_tokens.specs.declared.token.Token.{Token}
use Rattle.kq_read_tokens.specs.declared.token.LexFault.{LexFault}
use Rattle.kq_read_tokens.specs.declared.token.LexFault.TheVariants as fault
use Rattle.kq_read_tokens.specs.Bytes.{is_space, is_in_line, is_slash, is_text, starts}
use Rattle.kq_read_tokens.specs.Forms.{is_form, may_precede}

-- the first n bytes are a token of this kind, and no more of them are one, nor are they of another kind
pub record IsLongest (kind : TokenKind) (n : ℕ) (bytes : List ℕ) : Type 0 where
  pub some : 0 < n
  pub within : n ≤ length bytes
  pub form : is_form kind (take n bytes) ≡ true
  pub only : (other : TokenKind) (m : ℕ) → n ≤ m → m ≤ length bytes → is_form other (take m bytes) ≡ true → (other ≡ kind) × (m ≡ n)

-- a token at the front
pub record IsToken (kind : TokenKind) (n : ℕ) (bytes : List ℕ) : Type 0 where
  pub longest : IsLongest kind n bytes
  pub may_precede : may_precede kind (take n bytes) (drop n bytes) ≡ true

abbrev pub NoToken : List ℕ → Type 0
NoToken bytes = (kind : TokenKind) (n : ℕ) → IsToken kind n bytes → ⊥

abbrev pub IsTokenOrNone : Option (TokenKind × ℕ) → List ℕ → Type 0
IsTokenOrNone None bytes = NoToken bytes
IsTokenOrNone (Some token) bytes = IsToken token.0 token.1 bytes

-- how many bytes at the front stand between tokens: one of white space, or a comment, up to the line's end
abbrev pub blank_len : List ℕ → ℕ
blank_len [] = 0
blank_len (b ∷ bs) = if is_space b then 1 else (if b == 47 && starts is_slash bs then 1 + prefix_len is_in_line bs else 0)

abbrev pub is_dot : TokenKind → Bool
is_dot (kind.Punctuation sign.Dot) = true
is_dot _ = false

abbrev pub is_body_mark : TokenKind → Bool
is_body_mark (kind.Punctuation sign.BodyMark) = true
is_body_mark _ = false

abbrev pub is_word_kind : TokenKind → Bool
is_word_kind kind.Word = true
is_word_kind _ = false

-- the word `ingest`
abbrev pub is_ingest : List ℕ → Token → Bool
is_ingest text t = is_word_kind t.kind && is_text (codes "ingest") (slice_range text t.from t.to)

-- the first two tokens are `.` and `ingest`
abbrev pub is_ingestion : List ℕ → List Token → Bool
is_ingestion text (first ∷ second ∷ others) = is_dot first.kind && is_ingest text second
is_ingestion text _ = false

-- the last token is `<|`
abbrev pub ends_in_mark : List Token → Bool
ends_in_mark [] = false
ends_in_mark (t ∷ []) = is_body_mark t.kind
ends_in_mark (t ∷ next ∷ others) = ends_in_mark (next ∷ others)

-- behind the first `<|` of an ingestion no token is read
abbrev pub is_complete : List ℕ → List Token → Bool
is_complete text tokens = is_ingestion text tokens && ends_in_mark tokens

-- these are the tokens of the text's first bytes, so many
pub data Tokenizes (text : List ℕ) : List Token → ℕ → Type 0 where
  start : Tokenizes text [] 0
  blank : {tokens : List Token} {at : ℕ} → Tokenizes text tokens at → is_complete text tokens ≡ false
      → 0 < blank_len (drop at text) → Tokenizes text tokens (at + blank_len (drop at text))
  token : {tokens : List Token} {at : ℕ} {kind : TokenKind} {n : ℕ} → Tokenizes text tokens at → is_complete text tokens ≡ false
      → blank_len (drop at text) ≡ 0 → IsToken kind n (drop at text) → Tokenizes text (tokens ++ record { kind = kind; from = at; to = at + n } ∷ []) (at + n)

-- the tokens of the whole text, or of an ingestion through its `<|`
pub record AreTokens (text : List ℕ) (tokens : List Token) : Type 0 where
  pub end : ℕ
  pub reads : Tokenizes text tokens end
  pub whole : is_complete text tokens ≡ false → end ≡ length text

-- at this place of the text, behind the tokens before it, neither white space, a comment nor a token begins
pub record BreaksAt (text : List ℕ) (at : ℕ) : Type 0 where
  pub tokens : List Token
  pub reads : Tokenizes text tokens at
  pub incomplete : is_complete text tokens ≡ false
  pub some_left : at < length text
  pub no_blank : blank_len (drop at text) ≡ 0
  pub no_token : NoToken (drop at text)

abbrev pub IsFault : List ℕ → LexFault → Type 0
IsFault text (fault.Syntax at) = BreaksAt text at
IsFault text fault.Memory = Unit {0}
