-- What the tokens of numbers mean.
use Rattle.std.specs.Prelude.{ℕ, ℤ, pos, List, drop, codes, nat_le, if◌then◌else◌, Option, Some, None}
use Rattle.std.specs.Str.Parse.{digits_value}
use Rattle.kq_read_tokens.specs.Bytes.{begins_with}

-- the number as a long, where it is one
abbrev pub long_of_number : ℕ → Option ℤ
long_of_number n = if nat_le n 9223372036854775807 then Some (pos n) else None

-- the number that digits write, or hexadecimal digits behind `0x`
abbrev pub number_of : List ℕ → ℕ
number_of bytes = if begins_with (codes "0x") bytes then digits_value 16 (drop 2 bytes) else digits_value 10 bytes

unfoldable pub whole_number_of : List ℕ → Option ℤ
whole_number_of bytes = long_of_number (number_of bytes)
