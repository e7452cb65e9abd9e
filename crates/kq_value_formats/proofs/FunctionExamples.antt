-- What functions give, from their descriptions.
use Rattle.std.proofs.Common.{◌≡◌, true, false, [], ◌∷◌, pos, negsuc, Some, None, refl}
use Rattle.std.specs.Prelude.{codes}
use Rattle.std.specs.Char.{encode_utf8}
use Rattle.std.specs.Str.{chars}
use Rattle.jiff_core.specs.Calendar.{days_of_months}
use Rattle.kq_value.specs.Tree.{null, bool, long, string, array, bag, no_items, item, no_entries, entry}
use Rattle.kq_value_formats.specs.Civil.{days_to, months_begun, date_of_day}
use Rattle.kq_value_formats.specs.Numerals.{last_digit, long_of, bool_of}
use Rattle.kq_value_formats.specs.Timespans.{timespan_text}
use Rattle.kq_value_formats.specs.Ticks.{floor_to, start_of_hour, start_of_day, start_of_week, start_of_month, start_of_year, day_of_week, hour_of}
use Rattle.kq_value_formats.specs.Strings.{has_cs, contains_cs, endswith_cs, without_case, strlen, substring, substring_from, indexof, split, replace_string}
use Rattle.kq_value_formats.specs.Members.{at_index, array_length, array_sort_asc, bag_keys}
use Rattle.kq_value_formats.specs.Conversions.{to_long, to_int, to_bool, to_datetime, to_dynamic}
use Rattle.kq_value.specs.declared.dynamic.Dyn.TheVariants as dyn
use Rattle.kq_value.specs.declared.value.Value.TheVariants.{Long, Int, Text, Bool as Truth, Span, Dynamic}

-- ---- datetimes, 2024-02-29T10:20:30Z among them

negative_multiple : floor_to (pos 5) (negsuc 6) ≡ negsuc 9
negative_multiple = refl

own_multiple : floor_to (pos 5) (negsuc 9) ≡ negsuc 9
own_multiple = refl

hour_start : start_of_hour (pos 638447988300000000) ≡ pos 638447976000000000
hour_start = refl

day_start : start_of_day (pos 638447988300000000) ≡ pos 638447616000000000
day_start = refl

week_start : start_of_week (pos 638447988300000000) ≡ pos 638444160000000000
week_start = refl

week_before_the_first_day : start_of_week (pos 5) ≡ negsuc 863999999999
week_before_the_first_day = refl

month_start : start_of_month (pos 638447988300000000) ≡ pos 638423424000000000
unfolding days_to date_of_day months_begun days_of_months
month_start = refl

year_start : start_of_year (pos 638447988300000000) ≡ pos 638396640000000000
unfolding days_to date_of_day months_begun days_of_months
year_start = refl

thursday : day_of_week (pos 638447988300000000) ≡ 4
thursday = refl

ten : hour_of (pos 638447988300000000) ≡ 10
ten = refl

-- ---- strings

a_term : has_cs (codes "www.contoso.com") (codes "contoso") ≡ true
a_term = refl

part_of_a_term : has_cs (codes "hello world") (codes "wor") ≡ false
part_of_a_term = refl

later_term : has_cs (codes "worn wor") (codes "wor") ≡ true
later_term = refl

term_without_case : without_case has_cs (codes "North America") (codes "america") ≡ true
term_without_case = refl

no_text : has_cs (codes "abc") [] ≡ true
no_text = refl

signs_join_nothing : has_cs (codes "a-b") (codes "-") ≡ true
signs_join_nothing = refl

a_part : contains_cs (codes "hello") (codes "ell") ≡ true
a_part = refl

an_end : endswith_cs (codes "hello") (codes "llo") ≡ true
an_end = refl

no_end : endswith_cs (codes "lo") (codes "llo") ≡ false
no_end = refl

one_character : strlen (195 ∷ 169 ∷ []) ≡ 1
unfolding chars
one_character = refl

rest : substring_from (codes "123456") (pos 1) ≡ codes "23456"
unfolding chars encode_utf8
rest = refl

middle : substring (codes "123456") (pos 2) (pos 2) ≡ codes "34"
unfolding chars encode_utf8
middle = refl

from_the_end : substring (codes "123456") (negsuc 1) (pos 2) ≡ codes "56"
unfolding chars encode_utf8
from_the_end = refl

before_the_start : substring (codes "123") (negsuc 8) (pos 2) ≡ codes "12"
unfolding chars encode_utf8
before_the_start = refl

first_index : indexof (codes "abcdefg") (codes "cde") ≡ pos 2
unfolding chars
first_index = refl

no_index : indexof (codes "abcdefg") (codes "cdf") ≡ negsuc 0
unfolding chars
no_index = refl

pieces : split (codes "a__b") (codes "_") ≡ codes "a" ∷ [] ∷ codes "b" ∷ []
pieces = refl

pieces_from_the_left : split (codes "aaa") (codes "aa") ≡ [] ∷ codes "a" ∷ []
pieces_from_the_left = refl

pieces_of_nothing : split [] (codes "_") ≡ [] ∷ []
pieces_of_nothing = refl

no_separator : split (codes "ab") [] ≡ codes "ab" ∷ []
no_separator = refl

replaced : replace_string (codes "a cat, a cat") (codes "cat") (codes "dog") ≡ codes "a dog, a dog"
replaced = refl

nothing_replaced : replace_string (codes "ab") [] (codes "x") ≡ codes "ab"
nothing_replaced = refl

-- ---- dynamics

last_item : at_index (array (item (string (codes "b")) (item null (item (long (pos 2)) (item (bool true) (item (long (negsuc 0)) no_items)))))) (negsuc 0) ≡ Some (long (negsuc 0))
last_item = refl

before_the_first : at_index (array (item (string (codes "b")) (item null (item (long (pos 2)) (item (bool true) (item (long (negsuc 0)) no_items)))))) (negsuc 5) ≡ None
before_the_first = refl

sorted : array_sort_asc (array (item (string (codes "b")) (item null (item (long (pos 2)) (item (bool true) (item (long (negsuc 0)) no_items)))))) ≡ Some (array (item (long (negsuc 0)) (item (long (pos 2)) (item (string (codes "b")) (item (bool true) (item null no_items))))))
sorted = refl

no_array : array_length (string (codes "ab")) ≡ None
no_array = refl

keys : bag_keys (bag (entry (codes "a") null (entry (codes "b") null no_entries))) ≡ Some (array (item (string (codes "a")) (item (string (codes "b")) no_items)))
keys = refl

-- ---- conversions

long_of_blanks : to_long (Text (codes " 7 ")) ≡ Some (pos 7)
unfolding long_of
long_of_blanks = refl

long_of_true : to_long (Truth true) ≡ Some (pos 1)
long_of_true = refl

int_out_of_range : to_int (Long (pos 2147483648)) ≡ None
int_out_of_range = refl

bool_of_dynamic : to_bool (Dynamic (dyn.Text (codes "TRUE"))) ≡ Some true
unfolding bool_of
bool_of_dynamic = refl

bool_of_number : to_bool (Int (negsuc 0)) ≡ Some true
bool_of_number = refl

no_datetime : to_datetime (Long (pos 5)) ≡ None
no_datetime = refl

dynamic_of_span : to_dynamic (Span (pos 10000000)) ≡ string (codes "00:00:01")
unfolding timespan_text last_digit
dynamic_of_span = refl

dynamic_of_nothing : to_dynamic (Text []) ≡ null
dynamic_of_nothing = refl
