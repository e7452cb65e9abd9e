-- Histories, of which one begins another.
use Rattle.std.specs.Prelude.{◌≡◌, ◌⊎◌, List, length, drop, nat_lt, if◌then◌else◌}
use mathlib.Core.List.{IsPrefix}

module _ {E : Type 0} where
  -- what the history h has beyond its beginning old
  abbrev pub gained : List E → List E → List E
  gained old h = drop (length old) h

  abbrev pub longer : List E → List E → List E
  longer g h = if nat_lt (length g) (length h) then h else g

  -- of two histories one begins the other, and this is the longer
  abbrev pub IsLongerOf : List E → List E → List E → Type 0
  IsLongerOf g h both = ((both ≡ g) × IsPrefix h g) ⊎ ((both ≡ h) × IsPrefix g h)
