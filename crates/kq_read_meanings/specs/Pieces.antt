-- What stands in a text where a symbol is.
use Rattle.std.specs.Prelude.{ℕ, ◌&&◌, ◌||◌, Bool, List, [], length, nat_eq, nat_le, nat_lt, slice_index, slice_range, if◌then◌else◌}
use Rattle.std.specs.Fmt.{is_char_start}
use Rattle.kq_read_symbols.specs.declared.kind.Symbol.{Symbol}

-- a character of the text begins there, or the text ends
abbrev pub is_boundary : List ℕ → ℕ → Bool
is_boundary text i = nat_eq i (length text) || (nat_lt i (length text) && is_char_start (slice_index text i))

-- the text can be cut at both places, the second of which isn't before the first
abbrev pub is_cut : List ℕ → ℕ → ℕ → Bool
is_cut text from to = nat_le from to && is_boundary text from && is_boundary text to

-- what stands between two places, and nothing where the text can't be cut there
abbrev pub cut : List ℕ → ℕ → ℕ → List ℕ
cut text from to = if is_cut text from to then slice_range text from to else []

abbrev pub piece : List ℕ → Symbol → List ℕ
piece text s = cut text s.from s.to
