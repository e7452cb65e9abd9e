-- Texts and what they write, from the forms and from calendars elsewhere.
use Rattle.std.proofs.Common.{◌≡◌, true, false, [], ◌∷◌, pos, negsuc, Some, None, refl}
use Rattle.std.specs.Prelude.{codes}
use Rattle.std.specs.Fmt.{digits}
use Rattle.jiff_core.specs.Calendar.{days_of_months}
use Rattle.serde_json.proofs.OnLiterals.{serde_json_on_literals}
use Rattle.kq_value.specs.Tree.{null, bool, long, string, array, bag, no_items, item, no_entries, entry}
use Rattle.kq_value_formats.specs.Civil.{days_to, months_begun, date_of_day, days_since_sunday}
use Rattle.kq_value_formats.specs.Numerals.{last_digit, long_of, int_of, bool_of}
use Rattle.kq_value_formats.specs.Datetimes.{datetime_of, datetime_text}
use Rattle.kq_value_formats.specs.Timespans.{timespan_of, timespan_text}
use Rattle.kq_value_formats.specs.Json.{json_of, dynamic_of, dynamic_text}
use Rattle.kq_value_formats.specs.Cells.{cell_of, literal_of, reply_text_of}
use Rattle.kq_value.specs.declared.ty.Ty.TheVariants as ty
use Rattle.kq_value.specs.declared.dynamic.Dyn.TheVariants as dyn
use Rattle.kq_value.specs.declared.value.Value.TheVariants.{Null, Long, Text, Dynamic}

-- ---- datetime

first_tick : datetime_of (codes "0001-01-01") ≡ Some (pos 0)
unfolding datetime_of days_to days_of_months
first_tick = refl

unix_epoch : datetime_of (codes "1970-01-01T00:00:00Z") ≡ Some (pos 621355968000000000)
unfolding datetime_of days_to days_of_months
unix_epoch = refl

leap_day : datetime_of (codes "2024-02-29") ≡ Some (pos 638447616000000000)
unfolding datetime_of days_to days_of_months
leap_day = refl

no_leap_day : datetime_of (codes "1900-02-29") ≡ None
unfolding datetime_of days_to days_of_months
no_leap_day = refl

nine_decimals : datetime_of (codes "2026-09-30 08:05:09.123456789") ≡ Some (pos 639263523091234567)
unfolding datetime_of days_to days_of_months
nine_decimals = refl

offset_ahead : datetime_of (codes "2026-09-30T08:05:09.1234567+02:30") ≡ Some (pos 639263433091234567)
unfolding datetime_of days_to days_of_months
offset_ahead = refl

year_0_by_offset : datetime_of (codes "0000-12-31T23:30-01:00") ≡ Some (pos 18000000000)
unfolding datetime_of days_to days_of_months
year_0_by_offset = refl

year_0 : datetime_of (codes "0000-12-31T23:30") ≡ None
unfolding datetime_of days_to days_of_months
year_0 = refl

last_tick : datetime_of (codes "9999-12-31T23:59:59.9999999Z") ≡ Some (pos 3155378975999999999)
unfolding datetime_of days_to days_of_months
last_tick = refl

past_the_last : datetime_of (codes "9999-12-31T23:59-00:01") ≡ None
unfolding datetime_of days_to days_of_months
past_the_last = refl

zone_after_date : datetime_of (codes "2024-02-29Z") ≡ None
unfolding datetime_of days_to days_of_months
zone_after_date = refl

hour_24 : datetime_of (codes "2024-02-29T24:00") ≡ None
unfolding datetime_of days_to days_of_months
hour_24 = refl

decimals_after_minutes : datetime_of (codes "2024-02-29T10:00.5") ≡ None
unfolding datetime_of days_to days_of_months
decimals_after_minutes = refl

ten_decimals : datetime_of (codes "2024-02-29T10:00:00.1234567890") ≡ None
unfolding datetime_of days_to days_of_months
ten_decimals = refl

offset_24 : datetime_of (codes "2024-02-29T10:00+24:00") ≡ None
unfolding datetime_of days_to days_of_months
offset_24 = refl

short_month : datetime_of (codes "2024-2-29") ≡ None
unfolding datetime_of days_to days_of_months
short_month = refl

printed_first : datetime_text (pos 0) ≡ codes "0001-01-01T00:00:00.0000000Z"
unfolding datetime_text last_digit date_of_day months_begun days_of_months
printed_first = refl

printed_moment : datetime_text (pos 639263523091234567) ≡ codes "2026-09-30T08:05:09.1234567Z"
unfolding datetime_text last_digit date_of_day months_begun days_of_months
printed_moment = refl

printed_leap_day : datetime_text (pos 638447616000000000) ≡ codes "2024-02-29T00:00:00.0000000Z"
unfolding datetime_text last_digit date_of_day months_begun days_of_months
printed_leap_day = refl

printed_last : datetime_text (pos 3155378975999999999) ≡ codes "9999-12-31T23:59:59.9999999Z"
unfolding datetime_text last_digit date_of_day months_begun days_of_months
printed_last = refl

-- 2026-11-27 is a Friday

friday : days_since_sunday 739946 ≡ 5
unfolding days_to
friday = refl

-- ---- timespan

days_and_decimals : timespan_of (codes "1.02:03:04.5") ≡ Some (pos 937845000000)
unfolding timespan_of
days_and_decimals = refl

short_numbers : timespan_of (codes "1:2:3") ≡ Some (pos 37230000000)
unfolding timespan_of
short_numbers = refl

least_span : timespan_of (codes "-10675199.02:48:05.4775808") ≡ Some (negsuc 9223372036854775807)
unfolding timespan_of
least_span = refl

past_the_greatest : timespan_of (codes "10675199.02:48:05.4775808") ≡ None
unfolding timespan_of
past_the_greatest = refl

token : timespan_of (codes "1.5h") ≡ Some (pos 54000000000)
unfolding timespan_of
token = refl

negative_token : timespan_of (codes "-2d") ≡ Some (negsuc 1727999999999)
unfolding timespan_of
negative_token = refl

parts_of_ticks : timespan_of (codes "1.23456789s") ≡ None
unfolding timespan_of
parts_of_ticks = refl

whole_days : timespan_of (codes "5") ≡ Some (pos 4320000000000)
unfolding timespan_of
whole_days = refl

no_negative_days : timespan_of (codes "-5") ≡ None
unfolding timespan_of
no_negative_days = refl

no_hexadecimal : timespan_of (codes "0x5") ≡ None
unfolding timespan_of
no_hexadecimal = refl

hours_24 : timespan_of (codes "24:00:00") ≡ None
unfolding timespan_of
hours_24 = refl

eight_decimals : timespan_of (codes "00:00:01.12345678") ≡ None
unfolding timespan_of
eight_decimals = refl

printed_zero : timespan_text (pos 0) ≡ codes "00:00:00"
unfolding timespan_text last_digit digits
printed_zero = refl

printed_tick : timespan_text (negsuc 0) ≡ codes "-00:00:00.0000001"
unfolding timespan_text last_digit digits
printed_tick = refl

printed_days : timespan_text (pos 937845000000) ≡ codes "1.02:03:04.5000000"
unfolding timespan_text last_digit digits
printed_days = refl

printed_least : timespan_text (negsuc 9223372036854775807) ≡ codes "-10675199.02:48:05.4775808"
unfolding timespan_text last_digit digits
printed_least = refl

-- ---- long, int, bool

least_long : long_of (codes "-9223372036854775808") ≡ Some (negsuc 9223372036854775807)
unfolding long_of
least_long = refl

past_the_greatest_long : long_of (codes "9223372036854775808") ≡ None
unfolding long_of
past_the_greatest_long = refl

no_plus : long_of (codes "+5") ≡ None
unfolding long_of
no_plus = refl

no_digits : long_of (codes "-") ≡ None
unfolding long_of
no_digits = refl

past_the_greatest_int : int_of (codes "2147483648") ≡ None
unfolding int_of
past_the_greatest_int = refl

least_int : int_of (codes "-2147483648") ≡ Some (negsuc 2147483647)
unfolding int_of
least_int = refl

bool_any_case : bool_of (codes "TRUE") ≡ Some true
unfolding bool_of
bool_any_case = refl

bool_0 : bool_of (codes "0") ≡ Some false
unfolding bool_of
bool_0 = refl

no_bool : bool_of (codes "yes") ≡ None
unfolding bool_of
no_bool = refl

-- ---- dynamic

bag_in_order : dynamic_of (codes "{\"b\":1,\"a\":[true,null]}") ≡ bag (entry (codes "a") (array (item (bool true) (item null no_items))) (entry (codes "b") (long (pos 1)) no_entries))
unfolding json_of serde_json_on_literals
bag_in_order = refl

last_of_equal_keys : dynamic_of (codes "{\"a\":1,\"a\":-2}") ≡ bag (entry (codes "a") (long (negsuc 1)) no_entries)
unfolding json_of serde_json_on_literals
last_of_equal_keys = refl

number_with_point : dynamic_of (codes "1.0") ≡ string (codes "1.0")
unfolding json_of serde_json_on_literals
number_with_point = refl

past_64_bits : dynamic_of (codes "9223372036854775808") ≡ string (codes "9223372036854775808")
unfolding json_of serde_json_on_literals
past_64_bits = refl

no_json : dynamic_of (codes "hello") ≡ string (codes "hello")
unfolding json_of serde_json_on_literals
no_json = refl

printed_bag : dynamic_text (bag (entry (codes "a") (array (item (bool true) (item null no_items))) (entry (codes "b") (long (negsuc 1)) no_entries))) ≡ codes "{\"a\":[true,null],\"b\":-2}"
unfolding dynamic_text digits serde_json_on_literals
printed_bag = refl

-- ---- cells

blanks_dropped : cell_of ty.Long (codes " 12\t") ≡ Long (pos 12)
unfolding long_of
blanks_dropped = refl

string_kept : cell_of ty.Text (codes " 12") ≡ Text (codes " 12")
unfolding long_of
string_kept = refl

unread_is_null : cell_of ty.Span (codes "soon") ≡ Null ty.Span
unfolding timespan_of
unread_is_null = refl

empty_dynamic : cell_of ty.Dynamic [] ≡ Dynamic dyn.Null
unfolding json_of
empty_dynamic = refl

null_literal : literal_of ty.Moment (codes " null ") ≡ Some (Null ty.Moment)
unfolding datetime_of
null_literal = refl

empty_literal : literal_of ty.Long [] ≡ None
unfolding long_of
empty_literal = refl

escapes : reply_text_of (Text (92 ∷ 9 ∷ 97 ∷ 10 ∷ 13 ∷ [])) ≡ 92 ∷ 92 ∷ 92 ∷ 116 ∷ 97 ∷ 92 ∷ 110 ∷ 92 ∷ 114 ∷ []
escapes = refl

null_of_reply : reply_text_of (Dynamic dyn.Null) ≡ codes "null"
unfolding dynamic_text
null_of_reply = refl
