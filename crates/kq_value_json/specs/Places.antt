-- The place that an index means.
use Rattle.std.specs.Prelude.{ℕ, ◌+◌, ◌-◌, ℤ, pos, negsuc, nat_le, if◌then◌else◌, Option, Some, None}

-- of an array of so many items, counted from the end where negative; a place past the end is one too, with no item
abbrev pub place_of : ℕ → ℤ → Option ℕ
place_of len (pos i) = Some i
place_of len (negsuc back) = if nat_le (back + 1) len then Some (len - (back + 1)) else None
