-- The written forms of datetime: ticks of 100 ns from 0001-01-01.
use Rattle.std.specs.Prelude.{ℕ, ◌+◌, ◌*◌, ◌/◌, ◌%◌, ◌&&◌, ◌||◌, ◌==◌, ℤ, pos, neg_ℤ, ◌+ℤ◌, ◌-ℤ◌, unsigned_abs, Bool, true, List, [], ◌∷◌, ◌++◌, length, take, drop, replicate, if◌then◌else◌, nat_le, int_le, Option, Some, None, option_map, option_and_then, codes}
use Rattle.std.specs.Char.{is_ascii_digit}
use Rattle.std.specs.Cmp.Lexicographic.{pointwise}
use Rattle.std.specs.List.{take_while}
use Rattle.std.specs.Str.{bytes_eq}
use Rattle.std.specs.Str.Parse.{digits_value}
use Rattle.kq_value_formats.specs.Numerals.{is_numeral, padded}
use Rattle.kq_value_formats.specs.Civil.{Civil, is_date, days_to, days_of_year_0, date_of_day}

abbrev pub ticks_per_second : ℕ
ticks_per_second = 10000000

abbrev pub ticks_per_minute : ℕ
ticks_per_minute = 600000000

abbrev pub ticks_per_hour : ℕ
ticks_per_hour = 36000000000

abbrev pub ticks_per_day : ℕ
ticks_per_day = 864000000000

-- from 0001-01-01 to the last tick of the year 9999
abbrev pub is_moment : ℤ → Bool
is_moment z = int_le (pos 0) z && int_le z (pos 3155378975999999999)

-- `hh:mm:ss` of a time of day
abbrev pub clock_text : ℕ → List ℕ
clock_text t = padded 2 (t / ticks_per_hour) ++ codes ":" ++ padded 2 (t / ticks_per_minute % 60) ++ codes ":" ++ padded 2 (t / ticks_per_second % 60)

abbrev pub date_text : Civil → List ℕ
date_text c = padded 4 c.year ++ codes "-" ++ padded 2 c.month ++ codes "-" ++ padded 2 c.day

-- `yyyy-MM-ddTHH:mm:ss.fffffffZ`
unfoldable pub datetime_text : ℤ → List ℕ
datetime_text z =
    let ticks = unsigned_abs z in
    date_text (date_of_day (ticks / ticks_per_day)) ++ codes "T" ++ clock_text (ticks % ticks_per_day) ++ codes "." ++ padded 7 (ticks % ticks_per_second) ++ codes "Z"

-- the text has a digit where the form has a zero, and else the form's own byte
abbrev pub fits : List ℕ → List ℕ → Bool
fits form text = pointwise (λ f b. if f == 48 then is_ascii_digit b else f == b) form text

-- the number in the n bytes from a place
abbrev pub number_at : List ℕ → ℕ → ℕ → ℕ
number_at text from n = digits_value 10 (take n (drop from text))

abbrev pub is_clock : ℕ → ℕ → ℕ → Bool
is_clock h m s = nat_le h 23 && nat_le m 59 && nat_le s 59

abbrev pub clock_ticks : ℕ → ℕ → ℕ → ℕ
clock_ticks h m s = h * ticks_per_hour + m * ticks_per_minute + s * ticks_per_second

-- the ticks of a second's decimals: seven of them count
abbrev pub fraction_ticks : List ℕ → ℕ
fraction_ticks decimals = digits_value 10 (take 7 (decimals ++ replicate 7 48))

-- `yyyy-MM-dd`, as its days from 0000-01-01
abbrev pub date_days : List ℕ → Option ℕ
date_days text =
    let c : Civil = record { year = number_at text 0 4; month = number_at text 5 2; day = number_at text 8 2 } in
    if fits (codes "0000-00-00") text && is_date c then Some (days_to c) else None

-- one to nine decimals after a point, or nothing
abbrev pub is_fraction : List ℕ → Bool
is_fraction [] = true
is_fraction (point ∷ decimals) = (point == 46) && is_numeral decimals && nat_le (length decimals) 9

-- `HH:mm`, optionally `:ss`, and then optionally a fraction
abbrev pub time_ticks : List ℕ → Option ℕ
time_ticks text =
    let h = number_at text 0 2 in
    let m = number_at text 3 2 in
    let s = number_at text 6 2 in
    if fits (codes "00:00") text && is_clock h m 0 then Some (clock_ticks h m 0)
    else (if fits (codes "00:00:00") (take 8 text) && is_fraction (drop 8 text) && is_clock h m s then Some (clock_ticks h m s + fraction_ticks (drop 9 text)) else None)

-- nothing, `Z`, `+HH:mm` or `-HH:mm`, as the ticks that it is ahead
abbrev pub zone_ticks : List ℕ → Option ℤ
zone_ticks text =
    let h = number_at text 1 2 in
    let m = number_at text 4 2 in
    if bytes_eq text [] || bytes_eq text (codes "Z") then Some (pos 0)
    else (if fits (codes "+00:00") text && is_clock h m 0 then Some (pos (clock_ticks h m 0))
    else (if fits (codes "-00:00") text && is_clock h m 0 then Some (neg_ℤ (pos (clock_ticks h m 0))) else None))

abbrev pub is_time_byte : ℕ → Bool
is_time_byte b = is_ascii_digit b || (b == 58) || (b == 46)

-- what follows a date: nothing, or `T` or one space, a time and a zone; as ticks of the day in that zone less what the zone is ahead
abbrev pub after_date : List ℕ → Option ℤ
after_date [] = Some (pos 0)
after_date (separator ∷ text) =
    let time = take_while is_time_byte text in
    if (separator == 84) || (separator == 32) then
    option_and_then (λ ticks. option_map (λ ahead. pos ticks -ℤ ahead) (zone_ticks (drop (length time) text))) (time_ticks time)
    else None

-- the ticks that a text writes, in range
unfoldable pub datetime_of : List ℕ → Option ℤ
datetime_of text =
    option_and_then
    (λ days. option_and_then
    (λ ticks. let z = (pos (days * ticks_per_day) -ℤ pos (days_of_year_0 * ticks_per_day)) +ℤ ticks in if is_moment z then Some z else None)
    (after_date (drop 10 text)))
    (date_days (take 10 text))
