-- Cells as texts.
use Rattle.std.specs.Prelude.{ℕ, ◌||◌, ◌==◌, Bool, List, [], ◌∷◌, drop, reverse, if◌then◌else◌, Option, Some, None, option_map, unwrap_or, codes}
use Rattle.std.specs.Fmt.{signed_decimal}
use Rattle.std.specs.List.{flat_map, prefix_len}
use Rattle.std.specs.Str.{bytes_eq}
use Rattle.kq_value.specs.Seen.{tree_of, dyn_of}
use Rattle.kq_value.specs.Typed.{missing_of}
use Rattle.kq_value_formats.specs.Numerals.{long_of, int_of, bool_of, bool_text}
use Rattle.kq_value_formats.specs.Datetimes.{datetime_of, datetime_text}
use Rattle.kq_value_formats.specs.Timespans.{timespan_of, timespan_text}
use Rattle.kq_value_formats.specs.Json.{dynamic_of, dynamic_text}
use Rattle.kq_value.specs.declared.ty.Ty.{Ty}
use Rattle.kq_value.specs.declared.ty.Ty.TheVariants as ty
use Rattle.kq_value.specs.declared.dynamic.Dyn.TheVariants as dyn
use Rattle.kq_value.specs.declared.value.Value.{Value}
use Rattle.kq_value.specs.declared.value.Value.TheVariants.{Null, Long, Int, Text, Bool as Truth, Moment, Span, Dynamic}

-- the text without what passes the test at its ends
abbrev pub trimmed : (ℕ → Bool) → List ℕ → List ℕ
trimmed test text = let front = drop (prefix_len test text) text in reverse (drop (prefix_len test (reverse front)) (reverse front))

-- space and tab
abbrev pub is_blank : ℕ → Bool
is_blank b = (b == 32) || (b == 9)

-- space, tab, CR and LF
abbrev pub is_white : ℕ → Bool
is_white b = is_blank b || (b == 13) || (b == 10)

-- what the forms of a type read in a text; strings are kept as they are, and any text has a form as a dynamic
abbrev pub form_of : Ty → List ℕ → Option Value
form_of ty.Long text = option_map Long (long_of text)
form_of ty.Int text = option_map Int (int_of text)
form_of ty.Text text = Some (Text text)
form_of ty.Bool text = option_map Truth (bool_of text)
form_of ty.Moment text = option_map Moment (datetime_of text)
form_of ty.Span text = option_map Span (timespan_of text)
form_of ty.Dynamic text = Some (Dynamic (dyn_of (dynamic_of text)))

-- a cell of CSV, or a string that is converted: blanks at the ends are dropped but for string and dynamic; what can't be read is null; an empty cell
-- is null, or empty for string
abbrev pub cell_of : Ty → List ℕ → Value
cell_of ty.Text text = Text text
cell_of ty.Dynamic text = if bytes_eq text [] then Dynamic dyn.Null else Dynamic (dyn_of (dynamic_of text))
cell_of t text = unwrap_or (form_of t (trimmed is_blank text)) (missing_of t)

-- the raw text of a typed literal: a form of its type or `null`; nothing is the null of dynamics
abbrev pub literal_of : Ty → List ℕ → Option Value
literal_of t raw =
    let text = trimmed is_white raw in
    if bytes_eq text (codes "null") then Some (missing_of t)
    else (if bytes_eq text [] then empty_literal_of t else form_of t text)
  where
    empty_literal_of : Ty → Option Value
    empty_literal_of ty.Dynamic = Some (Dynamic dyn.Null)
    empty_literal_of _ = None

-- the printed form without escapes, and empty for null
abbrev pub text_of : Value → List ℕ
text_of (Null t) = []
text_of (Long z) = signed_decimal z
text_of (Int z) = signed_decimal z
text_of (Text text) = text
text_of (Truth b) = bool_text b
text_of (Moment z) = datetime_text z
text_of (Span z) = timespan_text z
text_of (Dynamic dyn.Null) = []
text_of (Dynamic (dyn.Text text)) = text
text_of (Dynamic d) = dynamic_text (tree_of d)

-- a backslash, a tab, LF and CR are written as a backslash and a letter
abbrev pub escaped_byte : ℕ → List ℕ
escaped_byte b =
    if b == 92 then codes "\\\\"
    else (if b == 9 then codes "\\t"
    else (if b == 10 then codes "\\n"
    else (if b == 13 then codes "\\r" else b ∷ [])))

abbrev pub escaped : List ℕ → List ℕ
escaped text = flat_map escaped_byte text

-- a cell of a reply: strings escaped, a dynamic as JSON, any null as `null`
abbrev pub reply_text_of : Value → List ℕ
reply_text_of (Null t) = codes "null"
reply_text_of (Text text) = escaped text
reply_text_of (Dynamic d) = dynamic_text (tree_of d)
reply_text_of v = text_of v
