-- What the conversions and the tests for null give.
use Rattle.std.specs.Prelude.{ℕ, not, true, false, List, [], ◌∷◌, if◌then◌else◌, option_map, unwrap_or}
use Rattle.kq_value_formats.specs.Datetimes.{is_moment}
use Rattle.kq_value_formats.specs.Cells.{text_of}
use Rattle.kq_value_formats.specs.Conversions.{to_long, to_int, to_bool, to_datetime, to_timespan, to_dynamic}
use Rattle.kq_value.specs.Seen.{dyn_of}
use Rattle.kq_value.specs.Typed.{is_null}
use Rattle.kq_value.specs.declared.ty.Ty.TheVariants as ty
use Rattle.kq_value.specs.declared.value.Value.{Value}
use Rattle.kq_value.specs.declared.value.Value.TheVariants.{Null, Text, Long, Int, Bool as Truth, Moment, Span, Dynamic}

-- a datetime out of range, which no row holds, has no printed form: where one is printed it is null
abbrev pub in_range : Value → Value
in_range (Moment z) = if is_moment z then Moment z else Null ty.Moment
in_range v = v

-- a value as a text: its printed form without escapes, a dynamic string's own text, and empty for null
abbrev pub printed : Value → List ℕ
printed v = text_of (in_range v)

-- KQL reference, tostring(): any scalar as a string, and a null as the empty one
abbrev pub as_text : Value → Value
as_text v = Text (printed v)

-- KQL reference, tolong(): a number of 64 signed bits, null where the conversion fails
abbrev pub as_long : Value → Value
as_long v = unwrap_or (option_map Long (to_long v)) (Null ty.Long)

-- KQL reference, toint(): the same of 32 signed bits
abbrev pub as_int : Value → Value
as_int v = unwrap_or (option_map Int (to_int v)) (Null ty.Int)

-- KQL reference, tobool(): the words for true and false, and of numbers whether they differ from 0
abbrev pub as_bool : Value → Value
as_bool v = unwrap_or (option_map Truth (to_bool v)) (Null ty.Bool)

-- KQL reference, todatetime(): a datetime from its text, null where the conversion fails
abbrev pub as_moment : Value → Value
as_moment v = unwrap_or (option_map Moment (to_datetime v)) (Null ty.Moment)

-- KQL reference, totimespan(): a timespan from its text, null where the conversion fails
abbrev pub as_span : Value → Value
as_span v = unwrap_or (option_map Span (to_timespan v)) (Null ty.Span)

-- KQL reference, todynamic(), also parse_json(): a string is read as JSON, and is kept as a dynamic string where it is none
abbrev pub as_dynamic : Value → Value
as_dynamic v = Dynamic (dyn_of (to_dynamic (in_range v)))

-- KQL reference, isnull(): whether the value is null, which a string never is
abbrev pub null_test : Value → Value
null_test v = Truth (is_null v)

-- KQL reference, isnotnull(): the negation of isnull()
abbrev pub not_null_test : Value → Value
not_null_test v = Truth (not (is_null v))

-- KQL reference, isempty(): whether the value is an empty string or null
abbrev pub empty_test : Value → Value
empty_test (Text []) = Truth true
empty_test (Text (b ∷ bs)) = Truth false
empty_test v = null_test v

-- KQL reference, isnotempty(): the negation of isempty()
abbrev pub not_empty_test : Value → Value
not_empty_test (Text []) = Truth false
not_empty_test (Text (b ∷ bs)) = Truth true
not_empty_test v = not_null_test v
