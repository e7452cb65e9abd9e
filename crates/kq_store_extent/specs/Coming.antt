-- Rows that come one by one.
use Rattle.std.specs.Prelude.{List, [], ◌∷◌, ◌++◌, map}
use Rattle.kq_value.specs.declared.schema.Field.{Field}
use Rattle.kq_value.specs.declared.ty.Ty.{Ty}
use Rattle.kq_value.specs.declared.value.Value.{Value}
use Rattle.kq_value.specs.Typed.{HasType}
use Rattle.kq_store_column.specs.Growing.{Grown}

-- the types of the columns, and the rows that came so far
pub record ComingRows : Type 0 where
  pub types : List Ty
  pub rows : List (List Value)

abbrev pub types_of : List Field → List Ty
types_of = map (λ (f : Field). f.ty)

abbrev pub types_grown : List Grown → List Ty
types_grown = map (λ (g : Grown). g.ty)

abbrev pub cells_grown : List Grown → List (List Value)
cells_grown = map (λ (g : Grown). g.cells)

-- the row has a cell of each type, in order
abbrev pub IsOfTypes : List Ty → List Value → Type 0
IsOfTypes [] [] = Unit {0}
IsOfTypes [] (v ∷ vs) = ⊥
IsOfTypes (t ∷ ts) [] = ⊥
IsOfTypes (t ∷ ts) (v ∷ vs) = HasType t v × IsOfTypes ts vs

-- one row more
abbrev pub with_row : ComingRows → List Value → ComingRows
with_row coming row = record { types = coming.types; rows = coming.rows ++ row ∷ [] }
