-- The name of a column that is given none.
use Rattle.std.specs.Prelude.{◌≡◌, ℕ, ◌+◌, ◌^◌, ◌<◌, ◌≤◌, List, ◌++◌, Some, length, slice_get, decimal}
use Rattle.kq_value.specs.declared.schema.Field.{Field}

-- these columns and the others are so few that each can be given a suffix of its own, in 64 bits
abbrev pub HaveRoom : List Field → List Field → Type 0
HaveRoom cs others = length cs + length others + 2 ≤ 2 ^ 64

-- a column has this name
pub record IsNamed (cs : List Field) (name : List ℕ) : Type 0 where
  pub number : ℕ
  pub column : Field
  pub there : slice_get cs number ≡ Some column
  pub so : column.name ≡ name

-- a name with a number behind it, the least from 1 that makes it a name of no column
pub record HasLeastSuffix (cs : List Field) (base name : List ℕ) : Type 0 where
  pub number : ℕ
  pub written : name ≡ base ++ decimal number
  pub positive : 1 ≤ number
  pub free : ¬ (IsNamed cs name)
  pub lesser : (k : ℕ) → 1 ≤ k → k < number → IsNamed cs (base ++ decimal k)

-- what a default name becomes: itself where no column has it that the operator has given, and else with the least suffix that is free of these and of
-- the columns to be avoided
pub record IsMadeFree (given avoided : List Field) (base name : List ℕ) : Type 0 where
  pub itself : ¬ (IsNamed given base) → name ≡ base
  pub suffixed : IsNamed given base → HasLeastSuffix (given ++ avoided) base name
