-- What the operators and functions of strings give, as cells.
use Rattle.std.specs.Prelude.{ℕ, pos, List, [], Option, option_map, unwrap_or}
use Rattle.std.specs.List.{flat_map}
use Rattle.std.specs.Str.{bytes_eq, str_to_ascii_lowercase, str_to_ascii_uppercase}
use Rattle.kq_value_formats.specs.Members.{strings}
use Rattle.kq_value_formats.specs.Strings.{strlen, substring_from, substring, indexof, split, replace_string}
use Rattle.kq_value_strings.specs.Find.{finds}
use Rattle.kq_value_strings.specs.declared.find.FindKind.{FindKind}
use Rattle.kq_value_conversions.specs.Converted.{printed}
use Rattle.kq_value.specs.declared.ty.Ty.TheVariants as ty
use Rattle.kq_value.specs.declared.dynamic.Dyn.TheVariants as dyn
use Rattle.kq_value.specs.declared.value.Value.{Value}
use Rattle.kq_value.specs.declared.value.Value.TheVariants.{Null, Long, Text, Bool as Truth, Dynamic}

-- KQL reference, String operators: has, contains, startswith, endswith and their kin; each side is taken as `tostring` of it, so that the answer is
-- never null
abbrev pub found : FindKind → Value → Value → Value
found kind v w = Truth (finds kind (printed v) (printed w))

-- KQL reference, =~ (equals) operator: whether the two are equal but for upper and lower case, of ASCII letters alone
abbrev pub equal_folded : Value → Value → Value
equal_folded v w = Truth (bytes_eq (str_to_ascii_lowercase (printed v)) (str_to_ascii_lowercase (printed w)))

-- KQL reference, strlen(): the number of characters
abbrev pub str_len : Value → Value
str_len (Text s) = Long (pos (strlen s))
str_len v = Null ty.Long

-- KQL reference, tolower(): here of ASCII letters alone
abbrev pub lowered : Value → Value
lowered (Text s) = Text (str_to_ascii_lowercase s)
lowered v = Text []

-- KQL reference, toupper(): here of ASCII letters alone
abbrev pub uppered : Value → Value
uppered (Text s) = Text (str_to_ascii_uppercase s)
uppered v = Text []

-- KQL reference, strcat(): the arguments as strings, one after another
abbrev pub joined : List Value → Value
joined vs = Text (flat_map printed vs)

-- KQL reference, substring(): the characters from a place to the end, the place counted from the end where it is negative
abbrev pub sub_text : Value → Value → Value
sub_text (Text s) (Long from) = Text (substring_from s from)
sub_text v w = Text []

-- KQL reference, substring() with a length: no more characters than that, and all where it is negative
abbrev pub sub_text_to : Value → Value → Value → Value
sub_text_to (Text s) (Long from) (Long n) = Text (substring s from n)
sub_text_to v w x = Text []

-- KQL reference, indexof(): the place, in characters from 0, of the first occurrence, and -1 where there is none
abbrev pub index_in : Value → Value → Value
index_in (Text s) (Text t) = Long (indexof s t)
index_in v w = Null ty.Long

-- KQL reference, split(): the pieces between the occurrences of a delimiter, as an array of strings
abbrev pub pieces : Value → Value → Value
pieces (Text s) (Text t) = Dynamic (dyn.List (strings (split s t)))
pieces v w = Dynamic dyn.Null

-- a piece as a cell, and the null of dynamics where there is none
abbrev pub piece_cell : Option (List ℕ) → Value
piece_cell found = Dynamic (unwrap_or (option_map dyn.Text found) dyn.Null)

-- KQL reference, replace_string(): each occurrence of a text replaced by another
abbrev pub replaced : Value → Value → Value → Value
replaced (Text s) (Text t) (Text u) = Text (replace_string s t u)
replaced v w x = Text []
