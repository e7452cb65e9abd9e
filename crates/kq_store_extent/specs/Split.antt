-- Extents in two lists, by their size.
use Rattle.std.specs.Prelude.{◌≡◌, ℕ, zero, suc, Bool, not, List, [], ◌∷◌, ◌++◌, length, drop, nat_lt, if◌then◌else◌}
use Rattle.std.specs.List.{filter}
use Rattle.kq_store_extent.specs.Seen.{ExtentView, HeldExtents}

-- an extent of fewer records is small
abbrev pub is_small : ExtentView → Bool
is_small e = nat_lt (length e.records) 4096

-- these two lists are the small ones and the others of a table's list
pub record AreSplit (all : List ExtentView) (held : HeldExtents) : Type 0 where
  pub small : held.small ≡ filter is_small all
  pub big : held.big ≡ filter (λ e. not (is_small e)) all

-- an extent more, last among those of its size
abbrev pub put : HeldExtents → ExtentView → HeldExtents
put held e =
    if is_small e then record { small = held.small ++ e ∷ []; big = held.big }
    else record { small = held.small; big = held.big ++ e ∷ [] }

-- the first so many of the small ones gone
abbrev pub without_first : ℕ → HeldExtents → HeldExtents
without_first count held = record { small = drop count held.small; big = held.big }

-- a list without the first so many that pass a test
abbrev pub without : {T : Type 0} → ℕ → (T → Bool) → List T → List T
without zero test xs = xs
without (suc k) test [] = []
without (suc k) test (x ∷ xs) = if test x then without k test xs else x ∷ without (suc k) test xs
