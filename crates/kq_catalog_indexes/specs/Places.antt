-- Where a name stands among others.
use Rattle.std.specs.Prelude.{ℕ, ◌+◌, List, [], ◌∷◌, Option, Some, None, if◌then◌else◌, nat_eq}
use Rattle.std.specs.Cmp.Lexicographic.{pointwise}

-- the first place at which the name stands, where they are counted from n
abbrev pub place_from : ℕ → List ℕ → List (List ℕ) → Option ℕ
place_from n name [] = None
place_from n name (x ∷ xs) = if pointwise nat_eq x name then Some n else place_from (n + 1) name xs

abbrev pub place_of : List ℕ → List (List ℕ) → Option ℕ
place_of = place_from 0
