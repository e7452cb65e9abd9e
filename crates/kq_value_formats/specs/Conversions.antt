-- What the conversions of values give: nothing is null.
use Rattle.std.specs.Prelude.{ℕ, ℤ, pos, Bool, true, false, not, int_le, ◌&&◌, List, [], Option, Some, None, option_and_then}
use Rattle.kq_value.specs.Tree.{Tree, null, bool, long, string, array, bag}
use Rattle.kq_value.specs.Seen.{tree_of}
use Rattle.kq_value_formats.specs.Numerals.{if_passes, is_int, long_of, bool_of}
use Rattle.kq_value_formats.specs.Datetimes.{datetime_of, datetime_text}
use Rattle.kq_value_formats.specs.Timespans.{timespan_of, timespan_text}
use Rattle.kq_value_formats.specs.Json.{dynamic_of}
use Rattle.kq_value_formats.specs.Cells.{trimmed, is_blank}
use Rattle.kq_value.specs.declared.dynamic.Dyn.TheVariants as dyn
use Rattle.kq_value.specs.declared.value.Value.{Value}
use Rattle.kq_value.specs.declared.value.Value.TheVariants.{Null, Long, Int, Text, Bool as Truth, Moment, Span, Dynamic}

-- a string is read as a cell is
abbrev pub read_by : {A : Type 0} → (List ℕ → Option A) → List ℕ → Option A
read_by form text = form (trimmed is_blank text)

abbrev pub bit_of : Bool → ℤ
bit_of true = pos 1
bit_of false = pos 0

abbrev pub is_zero : ℤ → Bool
is_zero z = int_le (pos 0) z && int_le z (pos 0)

abbrev pub tree_to_long : Tree → Option ℤ
tree_to_long null = None
tree_to_long (bool b) = Some (bit_of b)
tree_to_long (long z) = Some z
tree_to_long (string text) = read_by long_of text
tree_to_long (array ts) = None
tree_to_long (bag es) = None

-- `tolong`: a bool is 1 or 0, a datetime and a timespan are their ticks, an int is the long of its value
abbrev pub to_long : Value → Option ℤ
to_long (Null t) = None
to_long (Long z) = Some z
to_long (Int z) = Some z
to_long (Text text) = read_by long_of text
to_long (Truth b) = Some (bit_of b)
to_long (Moment z) = Some z
to_long (Span z) = Some z
to_long (Dynamic d) = tree_to_long (tree_of d)

-- `toint`: the same, in the range of int
abbrev pub to_int : Value → Option ℤ
to_int v = option_and_then (if_passes is_int) (to_long v)

abbrev pub tree_to_bool : Tree → Option Bool
tree_to_bool null = None
tree_to_bool (bool b) = Some b
tree_to_bool (long z) = Some (not (is_zero z))
tree_to_bool (string text) = read_by bool_of text
tree_to_bool (array ts) = None
tree_to_bool (bag es) = None

-- `tobool`: a number is true where it isn't 0
abbrev pub to_bool : Value → Option Bool
to_bool (Null t) = None
to_bool (Long z) = Some (not (is_zero z))
to_bool (Int z) = Some (not (is_zero z))
to_bool (Text text) = read_by bool_of text
to_bool (Truth b) = Some b
to_bool (Moment z) = None
to_bool (Span z) = None
to_bool (Dynamic d) = tree_to_bool (tree_of d)

-- `todatetime`: of strings, those in dynamics too
abbrev pub to_datetime : Value → Option ℤ
to_datetime (Text text) = read_by datetime_of text
to_datetime (Moment z) = Some z
to_datetime (Dynamic (dyn.Text text)) = read_by datetime_of text
to_datetime v = None

-- `totimespan`, likewise
abbrev pub to_timespan : Value → Option ℤ
to_timespan (Text text) = read_by timespan_of text
to_timespan (Span z) = Some z
to_timespan (Dynamic (dyn.Text text)) = read_by timespan_of text
to_timespan v = None

-- a value as an item of an array: a string as a string, datetime and timespan as strings of their printed form
abbrev pub item_of : Value → Tree
item_of (Null t) = null
item_of (Long z) = long z
item_of (Int z) = long z
item_of (Text text) = string text
item_of (Truth b) = bool b
item_of (Moment z) = string (datetime_text z)
item_of (Span z) = string (timespan_text z)
item_of (Dynamic d) = tree_of d

-- `todynamic`: a string as a dynamic cell, where an empty one is null, and any other value as an item of an array
abbrev pub to_dynamic : Value → Tree
to_dynamic (Text []) = null
to_dynamic (Text text) = dynamic_of text
to_dynamic v = item_of v
