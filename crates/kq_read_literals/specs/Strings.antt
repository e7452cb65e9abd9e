-- The texts that the tokens of strings stand for.
use Rattle.std.specs.Prelude.{◌≡◌, ◌≢◌, ℕ, zero, suc, ◌-◌, ◌==◌, Bool, true, false, if◌then◌else◌, List, [], ◌∷◌, ◌++◌, length, take, drop, codes}
use Rattle.std.specs.Char.{encode_utf8}
use Rattle.std.specs.List.{flat_map}
use Rattle.std.specs.Str.Parse.{digits_value}
use Rattle.kq_read_tokens.specs.declared.kind.TokenKind.{TokenKind}
use Rattle.kq_read_tokens.specs.declared.kind.TokenKind.TheVariants as kind
use Rattle.kq_read_tokens.specs.Delimited.{is_string, is_verbatim_string, is_long_string}

abbrev pub is_string_token : TokenKind → List ℕ → Bool
is_string_token kind.String bytes = is_string bytes
is_string_token kind.VerbatimString bytes = is_verbatim_string bytes
is_string_token kind.LongString bytes = is_long_string bytes
is_string_token _ bytes = false

-- what a letter behind a backslash stands for: n, r and t for LF, CR and tab, the others for themselves
abbrev pub letter_of : ℕ → ℕ
letter_of c = if c == 110 then 10 else (if c == 114 then 13 else (if c == 116 then 9 else c))

-- the text of the escape whose backslash stands before the bytes: `u` stands for the character of the four digits behind it
abbrev pub escape_of : List ℕ → List ℕ
escape_of [] = []
escape_of (c ∷ bs) = if c == 117 then encode_utf8 (digits_value 16 (take 4 bs)) else letter_of c ∷ []

-- how many bytes it has behind the backslash
abbrev pub escape_len : List ℕ → ℕ
escape_len [] = 0
escape_len (c ∷ bs) = if c == 117 then 5 else 1

-- the text up to the quote that closes, where the first `passed` bytes are of an escape
abbrev pub unescaped : ℕ → ℕ → List ℕ → List ℕ
unescaped quote passed [] = []
unescaped quote (suc passed) (b ∷ bs) = unescaped quote passed bs
unescaped quote zero (b ∷ bs) =
    if b == quote then []
    else (if b == 92 then escape_of bs ++ unescaped quote (escape_len bs) bs
    else b ∷ unescaped quote zero bs)

-- the text up to the quote that closes, where `closed` says that a quote stands before the bytes: it is one of the text if another follows
abbrev pub undoubled : ℕ → Bool → List ℕ → List ℕ
undoubled quote closed [] = []
undoubled quote true (b ∷ bs) = b ∷ undoubled quote false bs
undoubled quote false (b ∷ bs) = if b == quote then undoubled quote true bs else b ∷ undoubled quote false bs

abbrev pub quoted_text_of : List ℕ → List ℕ
quoted_text_of [] = []
quoted_text_of (quote ∷ bs) = unescaped quote zero bs

abbrev pub verbatim_text_of : List ℕ → List ℕ
verbatim_text_of (at ∷ quote ∷ bs) = undoubled quote false bs
verbatim_text_of _ = []

-- what stands between the backticks
abbrev pub long_text_of : List ℕ → List ℕ
long_text_of bytes = take (length bytes - 6) (drop 3 bytes)

unfoldable pub string_text_of : TokenKind → List ℕ → List ℕ
string_text_of kind.String bytes = quoted_text_of bytes
string_text_of kind.VerbatimString bytes = verbatim_text_of bytes
string_text_of kind.LongString bytes = long_text_of bytes
string_text_of _ bytes = []

-- ---- what the texts are, in the words of the language

-- the bytes between the quotes, and the text that they spell
pub data Spells (quote : ℕ) : List ℕ → List ℕ → Type 0 where
  nothing : Spells quote [] []
  plain : {b : ℕ} {bytes text : List ℕ} → b ≢ quote → b ≢ 92 → Spells quote bytes text → Spells quote (b ∷ bytes) (b ∷ text)
  letter : {c : ℕ} {bytes text : List ℕ} → c ≢ 117 → Spells quote bytes text → Spells quote (92 ∷ c ∷ bytes) (letter_of c ∷ text)
  character : {a b c d : ℕ} {bytes text : List ℕ} → Spells quote bytes text → Spells quote (92 ∷ 117 ∷ a ∷ b ∷ c ∷ d ∷ bytes) (encode_utf8 (digits_value 16 (a ∷ b ∷ c ∷ d ∷ [])) ++ text)

abbrev pub doubled : ℕ → List ℕ → List ℕ
doubled quote text = flat_map (λ b. if b == quote then b ∷ b ∷ [] else b ∷ []) text

-- a token of the kind, and the text that it stands for: the bytes between quotes spell it, it stands there with its quotes doubled, or it stands
-- there as it is
abbrev pub SpellsText : TokenKind → List ℕ → List ℕ → Type 0
SpellsText kind.String bytes text = (quote : ℕ) × (within : List ℕ) × (bytes ≡ quote ∷ (within ++ quote ∷ [])) × Spells quote within text
SpellsText kind.VerbatimString bytes text = (quote : ℕ) × (bytes ≡ 64 ∷ quote ∷ (doubled quote text ++ quote ∷ []))
SpellsText kind.LongString bytes text = bytes ≡ codes "```" ++ text ++ codes "```"
SpellsText _ bytes text = ⊥
