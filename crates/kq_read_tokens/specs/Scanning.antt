-- What the code computes at the front of the bytes.
use Rattle.std.specs.Prelude.{ℕ, ◌+◌, Bool, true, false, ◌||◌, ◌==◌, if◌then◌else◌, List, [], ◌∷◌, length, take, drop, Option, Some, None, codes}
use Rattle.std.specs.List.{prefix_len, find}
use Rattle.std.specs.Option.{option_map, option_map_or}
use Rattle.std.specs.Prelude.{Result}
use Rattle.kq_read_tokens.specs.declared.kind.TokenKind.{TokenKind}
use Rattle.kq_read_tokens.specs.declared.kind.TokenKind.TheVariants as kind
use Rattle.kq_read_tokens.specs.declared.kind.Punctuation.TheVariants as sign
use Rattle.kq_read_tokens.specs.declared.kind.Operator.TheVariants as operator
use Rattle.kq_read_tokens.specs.declared.kind.LiteralWord.{LiteralWord}
use Rattle.kq_read_tokens.specs.declared.kind.LiteralWord.TheVariants as literal
use Rattle.kq_read_tokens.specs.declared.spelling.TheConstants.{SPELLED, LITERAL_WORDS}
use Rattle.kq_read_tokens.specs.declared.delimited.Within.TheVariants.{Quoted, Ticked, Raw}
use Rattle.kq_read_tokens.specs.declared.delimited.End.{End}
use Rattle.kq_read_tokens.specs.Bytes.{is_space, is_letter, is_digit, is_word_byte, is_hexadecimal_digit, is_text, begins_with, starts}
use Rattle.kq_read_tokens.specs.Spellings.{spelling, literal_word_spelling}
use Rattle.kq_read_tokens.specs.Numbers.{units}
use Rattle.kq_read_tokens.specs.Delimited.{by_step, step, nesting_step, unnested, is_quote}
use Rattle.kq_read_tokens.specs.Forms.{opens}

-- ---- tokens of one spelling

abbrev pub begins : List ℕ → TokenKind → Bool
begins bytes kind = begins_with (spelling kind) bytes

unfoldable pub spelled_at : List ℕ → Option TokenKind
spelled_at bytes = find (begins bytes) SPELLED

-- ---- numbers

abbrev pub fraction_len : List ℕ → ℕ
fraction_len [] = 0
fraction_len (b ∷ bs) = if b == 46 then prefix_len is_digit bs else 0

abbrev pub more_than : ℕ → ℕ → ℕ
more_than k n = if n == 0 then 0 else k + n

-- a byte of the class and what follows it, if anything does
abbrev pub len_behind : (ℕ → Bool) → (List ℕ → ℕ) → List ℕ → ℕ
len_behind class len [] = 0
len_behind class len (b ∷ bs) = if class b then more_than 1 (len bs) else 0

abbrev pub signed_len : List ℕ → ℕ
signed_len [] = 0
signed_len (b ∷ bs) = if b == 43 || b == 45 then more_than 1 (prefix_len is_digit bs) else prefix_len is_digit (b ∷ bs)

abbrev pub exponent_len : List ℕ → ℕ
exponent_len = len_behind (λ b. b == 101 || b == 69) signed_len

abbrev pub unit_len : List ℕ → ℕ
unit_len bytes = option_map_or length (find (λ unit. begins_with unit bytes) units) 0

abbrev pub x_len : List ℕ → ℕ
x_len = len_behind (λ b. b == 120) (prefix_len is_hexadecimal_digit)

abbrev pub hexadecimal_len : List ℕ → ℕ
hexadecimal_len = len_behind (λ b. b == 48) x_len

-- the kind of a number with what follows its digits, and how many bytes follow them
unfoldable pub suffixed : TokenKind → List ℕ → TokenKind × ℕ
suffixed plain rest =
    if exponent_len rest == 0 then (if unit_len rest == 0 then (plain, 0) else (kind.Timespan, unit_len rest))
    else (kind.Real, exponent_len rest)

abbrev pub behind : ℕ → TokenKind × ℕ → TokenKind × ℕ
behind n t = (t.0, n + t.1)

unfoldable pub decimal_at : ℕ → List ℕ → TokenKind × ℕ
decimal_at n rest =
    if fraction_len rest == 0 then behind n (suffixed kind.WholeNumber rest)
    else behind (n + (1 + fraction_len rest)) (suffixed kind.Real (drop (1 + fraction_len rest) rest))

unfoldable pub longest_number : List ℕ → TokenKind × ℕ
longest_number bytes =
    if hexadecimal_len bytes == 0 then decimal_at (prefix_len is_digit bytes) (drop (prefix_len is_digit bytes) bytes)
    else (kind.WholeNumber, hexadecimal_len bytes)

abbrev pub unless_word_byte : TokenKind × ℕ → List ℕ → Option (TokenKind × ℕ)
unless_word_byte t bytes = if starts is_word_byte (drop t.1 bytes) then None else Some t

unfoldable pub number_at : List ℕ → Option (TokenKind × ℕ)
number_at bytes = unless_word_byte (longest_number bytes) bytes

-- ---- strings and raw texts

-- how many bytes there are through the one that closes
abbrev pub closing_len : {S : Type 0} → (S → ℕ → Result S End) → S → List ℕ → Option ℕ
closing_len step s [] = None
closing_len step s (b ∷ bs) = by_step (step s b) (λ t. option_map (λ n. n + 1) (closing_len step t bs)) (Some 1) None

-- how many bytes there are through the quote that closes, where `closed` says that it stands before the bytes if they go on with another
abbrev pub verbatim_len : ℕ → Bool → List ℕ → Option ℕ
verbatim_len quote closed [] = if closed then Some 0 else None
verbatim_len quote true (b ∷ bs) = if b == quote then option_map (λ n. n + 1) (verbatim_len quote false bs) else Some 0
verbatim_len quote false (b ∷ bs) = option_map (λ n. n + 1) (verbatim_len quote (b == quote) bs)

-- the bytes behind the quote
unfoldable pub string_at : ℕ → List ℕ → Option (TokenKind × ℕ)
string_at quote bs = option_map (λ n. (kind.String, n + 1)) (closing_len step (Quoted quote) bs)

-- the bytes behind the `@`
unfoldable pub verbatim_at : List ℕ → Option (TokenKind × ℕ)
verbatim_at [] = None
verbatim_at (b ∷ bs) = if is_quote b then option_map (λ n. (kind.VerbatimString, n + 2)) (verbatim_len b false bs) else None

unfoldable pub long_string_at : List ℕ → Option (TokenKind × ℕ)
long_string_at bytes = if begins_with (codes "```") bytes then option_map (λ n. (kind.LongString, n + 3)) (closing_len step Ticked (drop 3 bytes)) else None

-- ---- words and typed literals

unfoldable pub literal_word_of : List ℕ → Option LiteralWord
literal_word_of bytes = find (λ word. is_text (literal_word_spelling word) bytes) LITERAL_WORDS

abbrev pub raw_len : LiteralWord → List ℕ → Option ℕ
raw_len literal.Dynamic bytes = closing_len nesting_step unnested bytes
raw_len _ bytes = closing_len step Raw bytes

-- from the end of the word on
unfoldable pub literal_len : LiteralWord → List ℕ → Option ℕ
literal_len word rest = option_map (λ n. prefix_len is_space rest + (1 + n)) (raw_len word (drop (1 + prefix_len is_space rest) rest))

abbrev pub opening_word : List ℕ → List ℕ → Option LiteralWord
opening_word word rest = if opens rest then literal_word_of word else None

abbrev pub spelled_or_word : Option TokenKind → ℕ → TokenKind × ℕ
spelled_or_word None n = (kind.Word, n)
spelled_or_word (Some kind) n = (kind, length (spelling kind))

-- the bytes that a spelling has behind its first word
abbrev pub is_joint : ℕ → Bool
is_joint b = b == 45 || b == 126

-- the token of one spelling, which has one of these bytes behind the word
abbrev pub joined_at : List ℕ → List ℕ → Option TokenKind
joined_at rest bytes = if starts is_joint rest then spelled_at bytes else None

abbrev pub literal_or_word : Option LiteralWord → ℕ → List ℕ → Option (TokenKind × ℕ)
literal_or_word None n bytes = Some (spelled_or_word (joined_at (drop n bytes) bytes) n)
literal_or_word (Some word) n bytes = option_map (λ m. (kind.TypedLiteral word, n + m)) (literal_len word (drop n bytes))

abbrev pub word_of_len : ℕ → List ℕ → Option (TokenKind × ℕ)
word_of_len n bytes = literal_or_word (opening_word (take n bytes) (drop n bytes)) n bytes

unfoldable pub word_at : List ℕ → Option (TokenKind × ℕ)
word_at bytes = word_of_len (prefix_len is_word_byte bytes) bytes

-- ---- all

-- the sign of this one byte, where no longer token begins with it
abbrev pub pick : Bool → TokenKind → Option TokenKind → Option TokenKind
pick true kind others = Some kind
pick false kind others = others

abbrev pub single_sign : ℕ → Option TokenKind
single_sign b =
    pick (b == 124) (kind.Punctuation sign.Pipe) (
    pick (b == 40) (kind.Punctuation sign.OpenParenthesis) (
    pick (b == 41) (kind.Punctuation sign.CloseParenthesis) (
    pick (b == 91) (kind.Punctuation sign.OpenBracket) (
    pick (b == 93) (kind.Punctuation sign.CloseBracket) (
    pick (b == 123) (kind.Punctuation sign.OpenBrace) (
    pick (b == 125) (kind.Punctuation sign.CloseBrace) (
    pick (b == 44) (kind.Punctuation sign.Comma) (
    pick (b == 59) (kind.Punctuation sign.Semicolon) (
    pick (b == 58) (kind.Punctuation sign.Colon) (
    pick (b == 35) (kind.Punctuation sign.Hash) (
    pick (b == 43) (kind.Operator operator.Plus) (
    pick (b == 45) (kind.Operator operator.Minus) (
    pick (b == 42) (kind.Operator operator.Star) (
    pick (b == 47) (kind.Operator operator.Slash) (
    pick (b == 37) (kind.Operator operator.Percent) (
    None))))))))))))))))

abbrev pub sign_of : Option TokenKind → Option (TokenKind × ℕ)
sign_of spelled = option_map (λ kind. (kind, length (spelling kind))) spelled

abbrev pub single_or : Option TokenKind → List ℕ → Option (TokenKind × ℕ)
single_or (Some kind) bytes = Some (kind, 1)
single_or None bytes = sign_of (spelled_at bytes)

unfoldable pub sign_at : ℕ → List ℕ → Option (TokenKind × ℕ)
sign_at b bytes = single_or (single_sign b) bytes

unfoldable pub token_at : List ℕ → Option (TokenKind × ℕ)
token_at [] = None
token_at (b ∷ bs) =
    if is_letter b then word_at (b ∷ bs)
    else (if is_digit b then number_at (b ∷ bs)
    else (if is_quote b then string_at b bs
    else (if b == 64 then verbatim_at bs
    else (if b == 96 then long_string_at (b ∷ bs)
    else sign_at b (b ∷ bs)))))
