-- Classes of bytes, and runs of them.
use Rattle.std.specs.Prelude.{ℕ, Bool, true, false, ◌||◌, ◌&&◌, not, ◌==◌, nat_le, nat_eq, List, [], ◌∷◌, drop}
use Rattle.std.specs.List.{prefix_len, starts_with}
use Rattle.std.specs.Cmp.Lexicographic.{pointwise}

-- space, tab, CR and LF
abbrev pub is_space : ℕ → Bool
is_space b = b == 32 || b == 9 || b == 13 || b == 10

-- a letter of ASCII, or an underscore
abbrev pub is_letter : ℕ → Bool
is_letter b = (nat_le 97 b && nat_le b 122) || (nat_le 65 b && nat_le b 90) || b == 95

abbrev pub is_digit : ℕ → Bool
is_digit b = nat_le 48 b && nat_le b 57

abbrev pub is_word_byte : ℕ → Bool
is_word_byte b = is_letter b || is_digit b

abbrev pub is_hexadecimal_digit : ℕ → Bool
is_hexadecimal_digit b = is_digit b || (nat_le 97 b && nat_le b 102) || (nat_le 65 b && nat_le b 70)

-- all but LF
abbrev pub is_in_line : ℕ → Bool
is_in_line b = not (b == 10)

abbrev pub is_slash : ℕ → Bool
is_slash b = b == 47

-- the first byte is of the class
abbrev pub starts : (ℕ → Bool) → List ℕ → Bool
starts class [] = false
starts class (b ∷ bs) = class b

-- these very bytes
abbrev pub is_text : List ℕ → List ℕ → Bool
is_text text bytes = pointwise nat_eq text bytes

abbrev pub begins_with : List ℕ → List ℕ → Bool
begins_with text bytes = starts_with nat_eq bytes text

abbrev pub is_end : List ℕ → Bool
is_end [] = true
is_end (b ∷ bs) = false

-- a byte of the class, and then what the test takes
abbrev pub byte_then : (ℕ → Bool) → (List ℕ → Bool) → List ℕ → Bool
byte_then class others [] = false
byte_then class others (b ∷ bs) = class b && others bs

-- a byte of the class, with all that follow it, and then what the test takes
abbrev pub run_then : (ℕ → Bool) → (List ℕ → Bool) → List ℕ → Bool
run_then class others [] = false
run_then class others (b ∷ bs) = class b && others (drop (prefix_len class bs) bs)
