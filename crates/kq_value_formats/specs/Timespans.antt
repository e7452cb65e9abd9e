-- The written forms of timespan: ticks of 100 ns.
use Rattle.std.specs.Prelude.{ℕ, ◌+◌, ◌*◌, ◌/◌, ◌%◌, ◌^◌, ◌&&◌, ◌||◌, ◌==◌, ℤ, pos, neg_ℤ, unsigned_abs, Bool, List, [], ◌∷◌, ◌++◌, length, drop, if◌then◌else◌, nat_le, int_lt, Option, Some, None, option_map, option_and_then, codes, decimal}
use Rattle.std.specs.Char.{is_ascii_digit}
use Rattle.std.specs.List.{slice_split, take_while}
use Rattle.std.specs.Option.{option_or, option_zip}
use Rattle.std.specs.Str.{bytes_eq}
use Rattle.std.specs.Str.Parse.{digits_value}
use Rattle.kq_value_formats.specs.Numerals.{begins_with_minus, if_passes, is_long, is_numeral, numeral_of, padded}
use Rattle.kq_value_formats.specs.Datetimes.{ticks_per_second, ticks_per_minute, ticks_per_hour, ticks_per_day, clock_text, fraction_ticks}

-- `[-][d.]hh:mm:ss[.fffffff]`, the days and the fraction only where they aren't 0
unfoldable pub timespan_text : ℤ → List ℕ
timespan_text z =
    let ticks = unsigned_abs z in
    let days = ticks / ticks_per_day in
    let fraction = ticks % ticks_per_second in
    (if int_lt z (pos 0) then codes "-" else []) ++ (if days == 0 then [] else decimal days ++ codes ".")
    ++ clock_text (ticks % ticks_per_day) ++ (if fraction == 0 then [] else codes "." ++ padded 7 fraction)

-- one or two digits, of a number up to `most`
abbrev pub short_numeral : ℕ → List ℕ → Option ℕ
short_numeral most text =
    option_and_then (λ n. if nat_le (length text) 2 && nat_le n most then Some n else None) (numeral_of text)

-- both numbers, each times its ticks
abbrev pub both : Option ℕ → ℕ → Option ℕ → ℕ → Option ℕ
both a per_a b per_b = option_map (λ p. p.0 * per_a + p.1 * per_b) (option_zip a b)

-- hours, or days and hours
abbrev pub hours_ticks : List (List ℕ) → Option ℕ
hours_ticks (hours ∷ []) = both (Some 0) ticks_per_day (short_numeral 23 hours) ticks_per_hour
hours_ticks (days ∷ hours ∷ []) = both (numeral_of days) ticks_per_day (short_numeral 23 hours) ticks_per_hour
hours_ticks _ = None

-- one to seven decimals
abbrev pub decimals_ticks : List ℕ → Option ℕ
decimals_ticks text = if is_numeral text && nat_le (length text) 7 then Some (fraction_ticks text) else None

-- seconds, or seconds and decimals
abbrev pub seconds_ticks : List (List ℕ) → Option ℕ
seconds_ticks (seconds ∷ []) = both (short_numeral 59 seconds) ticks_per_second (Some 0) 1
seconds_ticks (seconds ∷ decimals ∷ []) = both (short_numeral 59 seconds) ticks_per_second (decimals_ticks decimals) 1
seconds_ticks _ = None

abbrev pub pieces : ℕ → List ℕ → List (List ℕ)
pieces separator text = slice_split (λ b. b == separator) text

-- `[d.]hh:mm:ss[.fffffff]`, as its three parts between colons
abbrev pub clock_parts_ticks : List (List ℕ) → Option ℕ
clock_parts_ticks (hours ∷ minutes ∷ seconds ∷ []) =
    both (both (hours_ticks (pieces 46 hours)) 1 (short_numeral 59 minutes) ticks_per_minute) 1 (seconds_ticks (pieces 46 seconds)) 1
clock_parts_ticks _ = None

-- the units of a timespan token
abbrev pub unit_ticks : List ℕ → Option ℕ
unit_ticks unit =
    if bytes_eq unit (codes "d") then Some ticks_per_day
    else (if bytes_eq unit (codes "h") then Some ticks_per_hour
    else (if bytes_eq unit (codes "m") then Some ticks_per_minute
    else (if bytes_eq unit (codes "s") then Some ticks_per_second
    else (if bytes_eq unit (codes "ms") then Some 10000
    else (if bytes_eq unit (codes "microsecond") then Some 10
    else (if bytes_eq unit (codes "tick") then Some 1 else None))))))

-- digits, or digits and decimals, of a unit, where that is a whole number of ticks
abbrev pub amount_ticks : ℕ → List (List ℕ) → Option ℕ
amount_ticks unit (whole ∷ []) = option_map (λ n. n * unit) (numeral_of whole)
amount_ticks unit (whole ∷ decimals ∷ []) =
    let n = digits_value 10 (whole ++ decimals) * unit in
    if is_numeral whole && is_numeral decimals && (n % 10 ^ length decimals == 0) then Some (n / 10 ^ length decimals) else None
amount_ticks unit _ = None

abbrev pub is_amount_byte : ℕ → Bool
is_amount_byte b = is_ascii_digit b || (b == 46)

-- a timespan token's text: an amount, and at once its unit
abbrev pub token_ticks : List ℕ → Option ℕ
token_ticks text =
    let amount = take_while is_amount_byte text in
    option_and_then (λ unit. amount_ticks unit (pieces 46 amount)) (unit_ticks (drop (length amount) text))

-- without its sign: the printed form with short numbers, or a token's text
abbrev pub magnitude_ticks : List ℕ → Option ℕ
magnitude_ticks text = option_or (clock_parts_ticks (pieces 58 text)) (token_ticks text)

-- the ticks that a text writes, in range; a whole number alone, which has no sign, is days
unfoldable pub timespan_of : List ℕ → Option ℤ
timespan_of text =
    option_and_then (if_passes is_long)
    (if begins_with_minus text then option_map (λ n. neg_ℤ (pos n)) (magnitude_ticks (drop 1 text))
    else option_map pos (option_or (option_map (λ n. n * ticks_per_day) (numeral_of text)) (magnitude_ticks text)))
