-- Rows in a buffer of cells.
use Rattle.std.specs.Prelude.{◌≡◌, ℕ, zero, suc, List, [], ◌∷◌, length, take, drop, get_or}
use Rattle.std.specs.List.{All}
use Rattle.kq_value.specs.declared.value.Value.{Value}

-- so many rows of so many cells each, one after another
abbrev pub chunks : {T : Type 0} → ℕ → ℕ → List T → List (List T)
chunks zero w cs = []
chunks (suc n) w cs = take w cs ∷ chunks n w (drop w cs)

-- the row has so many cells
abbrev pub HasWidth : {T : Type 0} → ℕ → List T → Type 0
HasWidth w row = length row ≡ w

-- all rows are as wide as the first
abbrev pub same_width : {T : Type 0} → List (List T) → Type 0
same_width [] = Unit {0}
same_width (r ∷ rs) = All (HasWidth (length r)) rs

-- the row at a place, or none
abbrev pub row_at : List (List Value) → ℕ → List Value
row_at rows i = get_or rows i []
