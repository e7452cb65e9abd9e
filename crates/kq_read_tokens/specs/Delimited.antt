-- The tokens that run to what closes them: strings and the raw texts of typed literals.
use Rattle.std.specs.Prelude.{ℕ, ◌+◌, ◌-◌, Bool, true, false, ◌||◌, ◌&&◌, ◌==◌, nat_le, if◌then◌else◌, List, [], ◌∷◌, length, drop, codes, Result, Ok, Err}
use Rattle.std.specs.List.{prefix_len}
use Rattle.kq_read_tokens.specs.declared.kind.LiteralWord.{LiteralWord}
use Rattle.kq_read_tokens.specs.declared.kind.LiteralWord.TheVariants as literal
use Rattle.kq_read_tokens.specs.declared.delimited.Within.{Within}
use Rattle.kq_read_tokens.specs.declared.delimited.Within.TheVariants.{Quoted, Escape, FirstDigit, SecondDigit, SecondDigitBehindD, ThirdDigit, FourthDigit, Ticked, OneTick, TwoTicks, Raw}
use Rattle.kq_read_tokens.specs.declared.delimited.End.{End}
use Rattle.kq_read_tokens.specs.declared.delimited.End.TheVariants.{Closed, Refused}
use Rattle.kq_read_tokens.specs.declared.literals.Nesting.{Nesting}
use Rattle.kq_read_tokens.specs.declared.literals.Quoting.{Quoting}
use Rattle.kq_read_tokens.specs.declared.literals.Quoting.TheVariants.{Outside, Inside, Escaped}
use Rattle.kq_read_tokens.specs.Bytes.{is_space, is_hexadecimal_digit, is_end, byte_then, begins_with}
use Rattle.kq_read_tokens.specs.Spellings.{literal_word_spelling}

-- what follows from a byte: in the state that it leads to, where it closes, or where it may not stand
abbrev pub by_step : {S R : Type 0} → Result S End → (S → R) → R → R → R
by_step (Ok s) on closed refused = on s
by_step (Err Closed) on closed refused = closed
by_step (Err Refused) on closed refused = refused

-- the last of these bytes closes, and none before it does
abbrev pub closes : {S : Type 0} → (S → ℕ → Result S End) → S → List ℕ → Bool
closes step s [] = false
closes step s (b ∷ bs) = by_step (step s b) (λ t. closes step t bs) (is_end bs) false

-- ---- strings

-- what may follow a backslash beside `u`: a backslash, a quote, n, r and t
abbrev pub is_escape : ℕ → Bool
is_escape b = b == 92 || b == 34 || b == 39 || b == 110 || b == 114 || b == 116

abbrev pub digit_then : (ℕ → Bool) → Within → ℕ → Result Within End
digit_then class next b = if class b then Ok next else Err Refused

-- the byte b, in a state
abbrev pub step : Within → ℕ → Result Within End
-- in a string: its quote closes it, and an LF may not stand in it
step (Quoted quote) b = if b == quote then Err Closed else (if b == 92 then Ok (Escape quote) else (if b == 10 then Err Refused else Ok (Quoted quote)))
step (Escape quote) b = if b == 117 then Ok (FirstDigit quote) else digit_then is_escape (Quoted quote) b
-- behind `\u`: four hexadecimal digits, of which the first two are not d8 to df
step (FirstDigit quote) b = if b == 68 || b == 100 then Ok (SecondDigitBehindD quote) else digit_then is_hexadecimal_digit (SecondDigit quote) b
step (SecondDigitBehindD quote) b = digit_then (λ c. nat_le 48 c && nat_le c 55) (ThirdDigit quote) b
step (SecondDigit quote) b = digit_then is_hexadecimal_digit (ThirdDigit quote) b
step (ThirdDigit quote) b = digit_then is_hexadecimal_digit (FourthDigit quote) b
step (FourthDigit quote) b = digit_then is_hexadecimal_digit (Quoted quote) b
-- in a long string: three backticks in a row close it
step Ticked b = if b == 96 then Ok OneTick else Ok Ticked
step OneTick b = if b == 96 then Ok TwoTicks else Ok Ticked
step TwoTicks b = if b == 96 then Err Closed else Ok Ticked
-- in the raw text of a typed literal: the first `)` closes it
step Raw b = if b == 41 then Err Closed else Ok Raw

abbrev pub is_quote : ℕ → Bool
is_quote b = b == 34 || b == 39

abbrev pub is_string : List ℕ → Bool
is_string [] = false
is_string (b ∷ bs) = is_quote b && closes step (Quoted b) bs

abbrev pub is_long_string : List ℕ → Bool
is_long_string bytes = begins_with (codes "```") bytes && closes step Ticked (drop 3 bytes)

-- up to a quote that is not one of a doubled pair; `closed` says that such a quote stands before the bytes
abbrev pub is_verbatim : ℕ → Bool → List ℕ → Bool
is_verbatim quote closed [] = closed
is_verbatim quote true (b ∷ bs) = b == quote && is_verbatim quote false bs
is_verbatim quote false (b ∷ bs) = is_verbatim quote (b == quote) bs

abbrev pub is_verbatim_quoted : List ℕ → Bool
is_verbatim_quoted [] = false
is_verbatim_quoted (b ∷ bs) = is_quote b && is_verbatim b false bs

abbrev pub is_verbatim_string : List ℕ → Bool
is_verbatim_string = byte_then (λ b. b == 64) is_verbatim_quoted

-- ---- typed literals

abbrev pub is_opening : ℕ → Bool
is_opening b = b == 40 || b == 91 || b == 123

abbrev pub is_closing : ℕ → Bool
is_closing b = b == 41 || b == 93 || b == 125

-- a bracket that closes, where so many are open: with none open `)` ends the literal, and the others are passed over
abbrev pub closing_bracket : ℕ → ℕ → Result Nesting End
closing_bracket depth b =
    if depth == 0 then (if b == 41 then Err Closed else Ok (record { depth = 0; quoting = Outside }))
    else Ok (record { depth = depth - 1; quoting = Outside })

-- the byte b within `dynamic(..)`, where so many brackets are open
abbrev pub quoted_step : Quoting → ℕ → ℕ → Result Nesting End
quoted_step Outside depth b =
    if b == 34 then Ok (record { depth = depth; quoting = Inside })
    else (if is_opening b then Ok (record { depth = depth + 1; quoting = Outside })
    else (if is_closing b then closing_bracket depth b
    else Ok (record { depth = depth; quoting = Outside })))
quoted_step Inside depth b =
    if b == 34 then Ok (record { depth = depth; quoting = Outside })
    else (if b == 92 then Ok (record { depth = depth; quoting = Escaped })
    else Ok (record { depth = depth; quoting = Inside }))
quoted_step Escaped depth b = Ok (record { depth = depth; quoting = Inside })

abbrev pub nesting_step : Nesting → ℕ → Result Nesting End
nesting_step n b = quoted_step n.quoting n.depth b

abbrev pub unnested : Nesting
unnested = record { depth = 0; quoting = Outside }

-- the raw text and the `)` behind it
abbrev pub is_raw : LiteralWord → List ℕ → Bool
is_raw literal.Dynamic bytes = closes nesting_step unnested bytes
is_raw _ bytes = closes step Raw bytes

-- white space or none, `(`, and then what the test takes
abbrev pub opened : (List ℕ → Bool) → List ℕ → Bool
opened others bytes = byte_then (λ b. b == 40) others (drop (prefix_len is_space bytes) bytes)

abbrev pub is_typed_literal : LiteralWord → List ℕ → Bool
is_typed_literal word bytes = begins_with (literal_word_spelling word) bytes && opened (is_raw word) (drop (length (literal_word_spelling word)) bytes)
