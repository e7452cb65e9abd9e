-- One item of a list changed.
use Rattle.std.specs.Prelude.{ℕ, zero, suc, List, [], ◌∷◌}

-- one item of a list changed, by its place; past the end nothing is
abbrev pub changed : {X : Type 0} → (X → X) → ℕ → List X → List X
changed f n [] = []
changed f zero (x ∷ xs) = f x ∷ xs
changed f (suc n) (x ∷ xs) = x ∷ changed f n xs
