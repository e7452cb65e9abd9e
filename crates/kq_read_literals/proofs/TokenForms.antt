-- Each token of a text has the form of its kind, which is what the meanings of literals ask for.
use Rattle.std.proofs.Common.{◌≡◌, ◌<◌, ℕ, ◌+◌, ◌-◌, true, List, length, take, drop, All, ◌∙◌, ap, subst, arith, get_or}
use Rattle.std.specs.Prelude.{IfSome, slice_get, slice_range}
use Rattle.std.proofs.lemmas.List.Elements.{All-push}
use Rattle.std.proofs.lemmas.Option.{slice_get-get_or}
use Rattle.kq_read_tokens.specs.declared.kind.TokenKind.{TokenKind}
use Rattle.kq_read_tokens.specs.declared.token.Token.{Token}
use Rattle.kq_read_tokens.specs.Forms.{is_form}
use Rattle.kq_read_tokens.specs.Reading.{AreTokens, Tokenizes, start, blank, token}

abbrev pub HasForm : List ℕ → Token → Type 0
HasForm text t = is_form t.kind (slice_range text t.from t.to) ≡ true

reads_forms : {text : List ℕ} {tokens : List Token} {at : ℕ} → Tokenizes text tokens at → All (HasForm text) tokens
reads_forms start = λ k d h. absurd (omega arith)
reads_forms (blank r incomplete some) = reads_forms r
reads_forms {text} (token {tokens} {at} {kind} {n} r incomplete none t) =
    let count : at + n - at ≡ n = omega arith in
    All-push (HasForm text) tokens (record { kind = kind; from = at; to = at + n }) (reads_forms r) (ap (λ k. is_form kind (take k (drop at text))) count ∙ t.longest.form)

pub tokens_have_forms : (text : List ℕ) (tokens : List Token) → AreTokens text tokens → All (HasForm text) tokens
tokens_have_forms text tokens t = reads_forms t.reads

-- the bytes of the token at an index have the form of its kind, which was read in a slice of the tokens
pub bytes_have_form : (text : List ℕ) (tokens slice : List Token) (index : ℕ) (d : Token) (bytes : List ℕ) (k : TokenKind) → AreTokens text tokens → index < length tokens → slice ≡ tokens → (get_or slice index d).kind ≡ k → IfSome (slice_get tokens index) (λ t. bytes ≡ slice_range text t.from t.to) → is_form k bytes ≡ true
bytes_have_form text tokens slice index d bytes k are within same e h =
    let kind_is : (get_or tokens index d).kind ≡ k = subst (λ (ts : List Token). (get_or ts index d).kind ≡ k) same e in
    let here : bytes ≡ slice_range text (get_or tokens index d).from (get_or tokens index d).to = subst (λ o. IfSome o (λ t. bytes ≡ slice_range text t.from t.to)) (slice_get-get_or tokens index d within) h in
    subst (λ j. is_form j bytes ≡ true) kind_is (ap (is_form (get_or tokens index d).kind) here ∙ tokens_have_forms text tokens are index d within)
