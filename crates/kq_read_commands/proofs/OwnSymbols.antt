-- The symbols of a text stand in it.
use Rattle.std.proofs.Common.{◌≡◌, ℕ, Bool, true, false, ◌==◌, List, [], ◌∷◌, All, get_or, refl, sym, ap, subst, take, drop, nat_eq, if◌then◌else◌, arith}
use Rattle.std.specs.Prelude.{codes, slice_range}
use Rattle.std.specs.Cmp.Lexicographic.{pointwise}
use Rattle.std.specs.Str.{IsUtf8}
use Rattle.std.proofs.lemmas.Bool.Decides.{nat_tests}
use Rattle.std.proofs.lemmas.List.Elements.{All-map}
use Rattle.kq_read_commands.specs.InText.{IsPiece, IsString}
use Rattle.kq_read_commands.specs.Meanings.{string_form}
use Rattle.kq_read_commands.proofs.TokenEnds.{token_ends}
use Rattle.kq_read_literals.proofs.Cuts.{HasAsciiEnds, cuts}
use Rattle.kq_read_control.specs.Symbols.{kind_of, symbol_of, symbols_of}
use Rattle.kq_read_literals.proofs.TokenForms.{HasForm, tokens_have_forms}
use Rattle.kq_read_literals.specs.Strings.{is_string_token}
use Rattle.kq_read_symbols.specs.Classes as k
use Rattle.kq_read_symbols.specs.declared.kind.Symbol.{Symbol}
use Rattle.kq_read_tokens.specs.Bytes.{begins_with}
use Rattle.kq_read_tokens.specs.Delimited.{closes, is_long_string, is_quote, is_string, is_verbatim_quoted, is_verbatim_string, step}
use Rattle.kq_read_tokens.specs.declared.delimited.Within.TheVariants.{Quoted, Ticked}
use Rattle.kq_read_tokens.specs.declared.kind.TokenKind.{TokenKind}
use Rattle.kq_read_tokens.specs.declared.kind.TokenKind.TheVariants as token
use Rattle.kq_read_tokens.specs.declared.token.Token.{Token}
use Rattle.kq_read_tokens.specs.Forms.{is_form}
use Rattle.kq_read_tokens.specs.Lexed.{StandsIn}
use Rattle.kq_read_tokens.specs.Reading.{AreTokens}
use Rattle.kq_read_tokens.proofs.ReadingLemmas.{tokens_stand}
use Rattle.kq_read_tokens.proofs.TestLemmas.{both_true, equal_of}

-- the text has the symbol, and its string where it is one
pub record SymbolIn (text : List ℕ) (s : Symbol) : Type 0 where
  pub is_piece : IsPiece text s
  pub string : k.text s.kind ≡ true → IsString text s

wrong : {A : Type 0} → false ≡ true → A
wrong h = absurd (cc)

-- ---- the form of a string by its first byte

choice : {A : Type 0} (p q : Bool) (x y z : A) → p ≡ false → q ≡ false → (if p then x else (if q then y else z)) ≡ z
choice p q x y z e f = rw (e, f) refl

quote_form : (b : ℕ) (bytes : List ℕ) → is_quote b ≡ true → string_form (b ∷ bytes) ≡ token.String
quote_form b bytes h =
    let not_at : (b == 64) ≡ false = grind (arith, nat_tests) in
    let not_tick : (b == 96) ≡ false = grind (arith, nat_tests) in
    choice (b == 64) (b == 96) token.VerbatimString token.LongString token.String not_at not_tick

same_form : (t u : TokenKind) (bytes : List ℕ) → t ≡ u → is_string_token u bytes ≡ true → is_string_token t bytes ≡ true
same_form t u bytes e h = subst (λ v. is_string_token v bytes ≡ true) (sym e) h

plain_spelled : (bytes : List ℕ) → is_string bytes ≡ true → is_string_token (string_form bytes) bytes ≡ true
plain_spelled [] h = wrong h
plain_spelled (b ∷ bytes) h = same_form (string_form (b ∷ bytes)) token.String (b ∷ bytes) (quote_form b bytes (both_true (is_quote b) (closes step (Quoted b) bytes) h).0) h

verbatim_spelled : (bytes : List ℕ) → is_verbatim_string bytes ≡ true → is_string_token (string_form bytes) bytes ≡ true
verbatim_spelled [] h = wrong h
verbatim_spelled (b ∷ bytes) h =
    let at : (b == 64) ≡ true = (both_true (b == 64) (is_verbatim_quoted bytes) h).0 in
    let form : string_form (b ∷ bytes) ≡ token.VerbatimString = rw at refl in
    same_form (string_form (b ∷ bytes)) token.VerbatimString (b ∷ bytes) form h

tick_form : (bytes rest : List ℕ) → bytes ≡ 96 ∷ rest → string_form bytes ≡ token.LongString
tick_form bytes rest e = ap string_form e

tick_first : (b : ℕ) (bytes : List ℕ) → begins_with (codes "```") (b ∷ bytes) ≡ true → b ≡ 96
tick_first b bytes h = sym (equal_of 96 b (both_true (96 == b) (pointwise nat_eq (96 ∷ 96 ∷ []) (take 2 bytes)) h).0)

long_spelled : (bytes : List ℕ) → is_long_string bytes ≡ true → is_string_token (string_form bytes) bytes ≡ true
long_spelled [] h = wrong h
long_spelled (b ∷ bytes) h =
    let tick = tick_first b bytes (both_true (begins_with (codes "```") (b ∷ bytes)) (closes step Ticked (drop 3 (b ∷ bytes))) h).0 in
    same_form (string_form (b ∷ bytes)) token.LongString (b ∷ bytes) (tick_form (b ∷ bytes) bytes (ap (λ c. c ∷ bytes) tick)) h

string_spelled : (t : TokenKind) (bytes : List ℕ) → k.text (kind_of t bytes) ≡ true → is_form t bytes ≡ true → is_string_token (string_form bytes) bytes ≡ true
string_spelled token.String bytes e h = plain_spelled bytes h
string_spelled token.VerbatimString bytes e h = verbatim_spelled bytes h
string_spelled token.LongString bytes e h = long_spelled bytes h
string_spelled token.Word bytes e h = wrong e
string_spelled (token.DashedWord w) bytes e h = wrong e
string_spelled (token.Side s) bytes e h = wrong e
string_spelled token.WholeNumber bytes e h = wrong e
string_spelled token.Real bytes e h = wrong e
string_spelled token.Timespan bytes e h = wrong e
string_spelled (token.TypedLiteral l) bytes e h = wrong e
string_spelled (token.WordOperator o) bytes e h = wrong e
string_spelled (token.Punctuation p) bytes e h = wrong e
string_spelled (token.Operator o) bytes e h = wrong e

-- ---- all symbols

piece_in : (text : List ℕ) (t : Token) → IsUtf8 text → StandsIn text t → HasAsciiEnds (slice_range text t.from t.to) → IsPiece text (symbol_of text t)
piece_in text t utf8 stands ends =
    let there = cuts text t.from t.to utf8 stands.0 stands.1 ends in
    record { in_order = stands.0; from_boundary = there.at_from; to_boundary = there.at_to }

symbol_in : (text : List ℕ) (t : Token) → IsUtf8 text → StandsIn text t → HasForm text t → SymbolIn text (symbol_of text t)
symbol_in text t utf8 stands form =
    let bytes = slice_range text t.from t.to in
    let is_piece = piece_in text t utf8 stands (token_ends t.kind bytes form) in
    record { is_piece = is_piece; string = λ e. record { is_piece = is_piece; spelled = string_spelled t.kind bytes e form } }

pub symbols_in : (text : List ℕ) (tokens : List Token) → IsUtf8 text → AreTokens text tokens → All (SymbolIn text) (symbols_of text tokens)
symbols_in text tokens utf8 are =
    let stand = tokens_stand text tokens are in
    let forms = tokens_have_forms text tokens are in
    All-map (SymbolIn text) (symbol_of text) tokens (λ n d less. symbol_in text (get_or tokens n d) utf8 (stand n d less) (forms n d less))
