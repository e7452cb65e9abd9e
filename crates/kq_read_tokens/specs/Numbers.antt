-- The forms of numbers.
use Rattle.std.specs.Prelude.{ℕ, Bool, false, ◌||◌, ◌==◌, if◌then◌else◌, List, [], ◌∷◌, codes}
use Rattle.std.specs.List.{list_any}
use Rattle.kq_read_tokens.specs.Bytes.{is_digit, is_hexadecimal_digit, is_text, is_end, byte_then, run_then}

-- digits, as many as there are, and then what the test takes
abbrev pub digits : (List ℕ → Bool) → List ℕ → Bool
digits others = run_then is_digit others

-- a point, digits, and then what the test takes
abbrev pub fraction : (List ℕ → Bool) → List ℕ → Bool
fraction others = byte_then (λ b. b == 46) (digits others)

-- digits, with a sign before them or without
abbrev pub is_signed : List ℕ → Bool
is_signed [] = false
is_signed (b ∷ bs) = if b == 43 || b == 45 then digits is_end bs else digits is_end (b ∷ bs)

-- `e` or `E`, an optional sign and digits
abbrev pub is_exponent : List ℕ → Bool
is_exponent = byte_then (λ b. b == 101 || b == 69) is_signed

-- where one begins another, the longer one first
abbrev pub units : List (List ℕ)
units = codes "microsecond" ∷ codes "ms" ∷ codes "m" ∷ codes "d" ∷ codes "h" ∷ codes "s" ∷ codes "tick" ∷ []

abbrev pub is_unit : List ℕ → Bool
is_unit bytes = list_any (λ unit. is_text unit bytes) units

-- `x` and hexadecimal digits
abbrev pub is_x_and_digits : List ℕ → Bool
is_x_and_digits = byte_then (λ b. b == 120) (run_then is_hexadecimal_digit is_end)

-- `0x` and hexadecimal digits
abbrev pub is_hexadecimal : List ℕ → Bool
is_hexadecimal = byte_then (λ b. b == 48) is_x_and_digits

abbrev pub is_whole_number : List ℕ → Bool
is_whole_number bytes = digits is_end bytes || is_hexadecimal bytes

-- digits, a point and digits, or either with an exponent
abbrev pub is_real : List ℕ → Bool
is_real = digits (λ rest. is_exponent rest || fraction (λ rest. is_end rest || is_exponent rest) rest)

-- digits, or digits, a point and digits, and at once a unit
abbrev pub is_timespan : List ℕ → Bool
is_timespan = digits (λ rest. is_unit rest || fraction is_unit rest)
