-- What spells a token of each kind, and what may stand behind it.
use Rattle.std.specs.Prelude.{ℕ, Bool, true, false, ◌&&◌, not, ◌==◌, List, [], ◌∷◌, slice_index}
use Rattle.std.specs.List.{list_all, list_any}
use Rattle.kq_read_tokens.specs.declared.kind.TokenKind.{TokenKind}
use Rattle.kq_read_tokens.specs.declared.kind.TokenKind.TheVariants as kind
use Rattle.kq_read_tokens.specs.declared.kind.LiteralWord.{LiteralWord}
use Rattle.kq_read_tokens.specs.declared.kind.LiteralWord.TheVariants as literal
use Rattle.kq_read_tokens.specs.Bytes.{is_letter, is_word_byte, is_text, starts}
use Rattle.kq_read_tokens.specs.Spellings.{dashed_word_spelling, side_spelling, literal_word_spelling, word_operator_spelling, punctuation_spelling, operator_spelling}
use Rattle.kq_read_tokens.specs.Numbers.{is_whole_number, is_real, is_timespan}
use Rattle.kq_read_tokens.specs.Delimited.{is_string, is_verbatim_string, is_long_string, is_typed_literal, opened}

abbrev pub is_word : List ℕ → Bool
is_word [] = false
is_word (b ∷ bs) = is_letter b && list_all is_word_byte bs

-- these very bytes are a token of the kind
abbrev pub is_form : TokenKind → List ℕ → Bool
is_form kind.Word bytes = is_word bytes
is_form (kind.DashedWord word) bytes = is_text (dashed_word_spelling word) bytes
is_form (kind.Side side) bytes = is_text (side_spelling side) bytes
is_form kind.WholeNumber bytes = is_whole_number bytes
is_form kind.Real bytes = is_real bytes
is_form kind.Timespan bytes = is_timespan bytes
is_form (kind.TypedLiteral word) bytes = is_typed_literal word bytes
is_form kind.String bytes = is_string bytes
is_form kind.VerbatimString bytes = is_verbatim_string bytes
is_form kind.LongString bytes = is_long_string bytes
is_form (kind.WordOperator operator) bytes = is_text (word_operator_spelling operator) bytes
is_form (kind.Punctuation punctuation) bytes = is_text (punctuation_spelling punctuation) bytes
is_form (kind.Operator operator) bytes = is_text (operator_spelling operator) bytes

abbrev pub literal_words : List LiteralWord
literal_words = literal.Long ∷ literal.Int64 ∷ literal.Bool ∷ literal.Boolean ∷ literal.Datetime ∷ literal.Date ∷ literal.Timespan ∷ literal.Time ∷ literal.Dynamic ∷ literal.Int ∷ literal.Real ∷ literal.Double ∷ literal.Decimal ∷ literal.Guid ∷ []

abbrev pub is_literal_word : List ℕ → Bool
is_literal_word bytes = list_any (λ word. is_text (literal_word_spelling word) bytes) literal_words

abbrev pub opens : List ℕ → Bool
opens bytes = opened (λ _. true) bytes

-- the rest may stand behind these bytes of this kind: no letter, digit or underscore behind a number, no further quote
-- behind a verbatim string, and no `(` behind the word of a typed literal, since that would begin one
abbrev pub may_precede : TokenKind → List ℕ → List ℕ → Bool
may_precede kind.Word bytes rest = not (opens rest && is_literal_word bytes)
may_precede kind.WholeNumber bytes rest = not (starts is_word_byte rest)
may_precede kind.Real bytes rest = not (starts is_word_byte rest)
may_precede kind.Timespan bytes rest = not (starts is_word_byte rest)
may_precede kind.VerbatimString bytes rest = not (starts (λ b. b == slice_index bytes 1) rest)
may_precede _ bytes rest = true
