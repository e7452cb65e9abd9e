-- Whole numbers and bools as texts.
use Rattle.std.specs.Prelude.{ℕ, zero, suc, ◌+◌, ◌/◌, ◌%◌, ◌^◌, ◌&&◌, ◌==◌, ℤ, pos, neg_ℤ, Bool, true, false, List, [], ◌∷◌, ◌++◌, length, drop, slice_index, if◌then◌else◌, nat_lt, int_le, Option, Some, None, option_map, option_and_then, codes}
use Rattle.std.specs.Str.{all_ascii_digits, bytes_eq, str_to_ascii_lowercase}
use Rattle.std.specs.Str.Parse.{digits_value}

-- one decimal digit or more, and nothing else
abbrev pub is_numeral : List ℕ → Bool
is_numeral text = nat_lt 0 (length text) && all_ascii_digits text

-- the number that decimal digits write
abbrev pub numeral_of : List ℕ → Option ℕ
numeral_of text = if is_numeral text then Some (digits_value 10 text) else None

-- the byte of the last decimal digit of n
unfoldable pub last_digit : ℕ → ℕ
last_digit n = 48 + n % 10

-- the last k decimal digits of n
abbrev pub padded : ℕ → ℕ → List ℕ
padded zero n = []
padded (suc k) n = padded k (n / 10) ++ last_digit n ∷ []

abbrev pub begins_with_minus : List ℕ → Bool
begins_with_minus text = slice_index text 0 == 45

-- digits after an optional minus
abbrev pub signed_numeral_of : List ℕ → Option ℤ
signed_numeral_of text = if begins_with_minus text then option_map (λ n. neg_ℤ (pos n)) (numeral_of (drop 1 text)) else option_map pos (numeral_of text)

abbrev pub is_long : ℤ → Bool
is_long z = int_le (neg_ℤ (pos (2 ^ 63))) z && int_le z (pos 9223372036854775807)

abbrev pub is_int : ℤ → Bool
is_int z = int_le (neg_ℤ (pos (2 ^ 31))) z && int_le z (pos 2147483647)

-- the number, where it passes the test
abbrev pub if_passes : (ℤ → Bool) → ℤ → Option ℤ
if_passes test z = if test z then Some z else None

-- the long that a text writes: an optional minus and decimal digits, in range
unfoldable pub long_of : List ℕ → Option ℤ
long_of text = option_and_then (if_passes is_long) (signed_numeral_of text)

-- an int is read as a long is, and no number outside its range
unfoldable pub int_of : List ℕ → Option ℤ
int_of text = option_and_then (if_passes is_int) (signed_numeral_of text)

-- `true` and `false` in any case, `1` and `0`
unfoldable pub bool_of : List ℕ → Option Bool
bool_of text =
    let lower = str_to_ascii_lowercase text in
    if bytes_eq lower (codes "true") then Some true
    else (if bytes_eq lower (codes "1") then Some true
    else (if bytes_eq lower (codes "false") then Some false
    else (if bytes_eq lower (codes "0") then Some false else None)))

abbrev pub bool_text : Bool → List ℕ
bool_text true = codes "true"
bool_text false = codes "false"
