-- The raw texts of typed literals.
use Rattle.std.specs.Prelude.{◌≡◌, ℕ, ◌+◌, ◌-◌, ◌==◌, true, List, ◌++◌, length, take, drop, codes}
use Rattle.std.specs.List.{list_all, position_or_len}
use Rattle.kq_read_tokens.specs.declared.kind.LiteralWord.{LiteralWord}
use Rattle.kq_read_tokens.specs.Bytes.{is_space}
use Rattle.kq_read_tokens.specs.Spellings.{literal_word_spelling}

abbrev pub without_last : List ℕ → List ℕ
without_last bytes = take (length bytes - 1) bytes

-- what follows the first `(`, without the last byte
unfoldable pub raw_text_of : List ℕ → List ℕ
raw_text_of bytes = without_last (drop (position_or_len (λ b. b == 40) bytes + 1) bytes)

-- the bytes are the word, white space or none, and the raw text in parentheses
abbrev pub HasRaw : LiteralWord → List ℕ → List ℕ → Type 0
HasRaw word bytes raw = (spaces : List ℕ) × (list_all is_space spaces ≡ true) × (bytes ≡ literal_word_spelling word ++ spaces ++ codes "(" ++ raw ++ codes ")")
