-- One of the pieces of a split.
use Rattle.std.specs.Prelude.{ℕ, ◌+◌, ◌-◌, ℤ, pos, negsuc, List, length, slice_get, nat_le, if◌then◌else◌, Option, None}

-- the item with a number, counted from the end where negative
abbrev pub item_from : {A : Type 0} → List A → ℤ → Option A
item_from xs (pos i) = slice_get xs i
item_from xs (negsuc back) = if nat_le (back + 1) (length xs) then slice_get xs (length xs - (back + 1)) else None
