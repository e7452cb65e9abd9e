-- Texts that are cut at a separator.
use Rattle.std.specs.Prelude.{◌≡◌, ◌<◌, ℕ, List, [], ◌∷◌, ◌++◌, length}
use Rattle.kq_value_formats.specs.Strings.{joined_by}

-- t stands in s behind i bytes
pub record StandsAt (t s : List ℕ) (i : ℕ) : Type 0 where
  pub front : List ℕ
  pub back : List ℕ
  pub parts : s ≡ front ++ (t ++ back)
  pub place : length front ≡ i

-- the first place of the separator behind a piece is the piece's end, and in the last piece it stands nowhere
abbrev pub AreCutLeftmost : List ℕ → List (List ℕ) → Type 0
AreCutLeftmost t [] = ⊥
AreCutLeftmost t (p ∷ []) = (i : ℕ) → StandsAt t p i → ⊥
AreCutLeftmost t (p ∷ q ∷ ps) = ((i : ℕ) → i < length p → StandsAt t (p ++ t) i → ⊥) × AreCutLeftmost t (q ∷ ps)

-- with the separator between them the pieces are the text, and each cut is the leftmost that there is
pub record IsSplitBy (s t : List ℕ) (ps : List (List ℕ)) : Type 0 where
  pub joined : joined_by t ps ≡ s
  pub leftmost : AreCutLeftmost t ps
