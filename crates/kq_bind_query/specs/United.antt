-- The columns of a union, and what fills them.
use Rattle.std.specs.Prelude.{◌≡◌, ◌⊎◌, ℕ, ◌<◌, ◌≤◌, Bool, List, ◌++◌, Some, codes, slice_get, decimal}
use Rattle.kq_bind_clauses.specs.Unions.{type_word, filling, union_columns, union_sources}
use Rattle.kq_value.specs.declared.schema.Field.{Field}
use Rattle.kq_bind_query.specs.Different.{AreDifferent}
use Rattle.kq_bind_query.specs.Suffixes.{IsNamed}

-- it stands in the list
pub record Has {X : Type 0} (xs : List X) (x : X) : Type 0 where
  pub number : ℕ
  pub there : slice_get xs number ≡ Some x

-- every arm has this column, by name and type
abbrev pub IsOfAll : List (List Field) → Field → Type 0
IsOfAll arms f = (arm : List Field) → Has arms arm → Has arm f

-- some arm has it
pub record IsOfSome (arms : List (List Field)) (f : Field) : Type 0 where
  pub arm : List Field
  pub among : Has arms arm
  pub has : Has arm f

-- a column of an arm, which is that of this number, fills exactly one of these
pub record FillsOne (arm sources : List Field) (number : ℕ) (c : Field) : Type 0 where
  pub place : ℕ
  pub source : slice_get sources place ≡ Some c
  pub fills : slice_get (filling arm sources) place ≡ Some (Some number)
  pub only : (k : ℕ) → slice_get (filling arm sources) k ≡ Some (Some number) → k ≡ place

-- where the columns of each arm have different names, a column of an arm that the union has fills exactly one of its own
abbrev pub AllFillOne : Bool → List (List Field) → Type 0
AllFillOne inner arms =
    (arm : List Field) (i : ℕ) (c : Field) → ((a : List Field) → Has arms a → AreDifferent a)
    → Has arms arm → slice_get arm i ≡ Some c → Has (union_sources inner arms) c → FillsOne arm (union_sources inner arms) i c

-- no column of this name has another type
abbrev pub IsOfOneType : List Field → Field → Type 0
IsOfOneType sources f = (g : Field) → Has sources g → g.name ≡ f.name → g.ty ≡ f.ty

-- a name with the least number from 1 behind it that no column before it has, where one has the name itself; all these are columns of the union
pub record IsSuffixed (columns : List Field) (base name : List ℕ) : Type 0 where
  pub number : ℕ
  pub written : name ≡ base ++ decimal number
  pub positive : 1 ≤ number
  pub without : IsNamed columns base
  pub lesser : (k : ℕ) → 1 ≤ k → k < number → IsNamed columns (base ++ decimal k)

abbrev pub base_name : Field → List ℕ
base_name f = f.name ++ codes "_" ++ type_word f.ty

-- the column of a union in the place of one of its sources: of its type, and of its name, where this has one type, or else of the name with the
-- type's word behind it
pub record StandsInUnion (sources : List Field) (place : ℕ) (f : Field) : Type 0 where
  pub column : Field
  pub there : slice_get (union_columns sources) place ≡ Some column
  pub of_type : column.ty ≡ f.ty
  pub kept : IsOfOneType sources f → column.name ≡ f.name
  pub typed : ¬ (IsOfOneType sources f) → (column.name ≡ base_name f) ⊎ IsSuffixed (union_columns sources) (base_name f) column.name
