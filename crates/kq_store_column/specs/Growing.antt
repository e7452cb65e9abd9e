-- Columns that grow cell by cell.
use Rattle.std.specs.Prelude.{◌≡◌, Bool, false, List, [], ◌∷◌, ◌++◌, length, All, Option, Some, None, ℤ, FitsSigned}
use Rattle.std.specs.Int.{w32}
use Rattle.kq_value.specs.declared.ty.Ty.{Ty}
use Rattle.kq_value.specs.declared.ty.Ty.TheVariants as ty
use Rattle.kq_value.specs.declared.value.Value.{Value}
use Rattle.kq_store_column_view.specs.Numbers.{marked, IsOfNumbers}

-- the type of the cells, and those that came so far
pub record Grown : Type 0 where
  pub ty : Ty
  pub cells : List Value

-- nothing came yet
abbrev pub begun : Ty → Grown
begun t = record { ty = t; cells = [] }

-- one cell more
abbrev pub with_cell : Grown → Value → Grown
with_cell g v = record { ty = g.ty; cells = g.cells ++ v ∷ [] }

-- the cell came last, or all cells with it stand in the other, which is to grow in the place of this
abbrev pub Takes : Grown → Grown → Value → Option Grown → Type 0
Takes old new v None = new ≡ with_cell old v
Takes old new v (Some other) = other ≡ with_cell old v

-- there is a mark for each number, and all may be left out where none was marked; the numbers are of a type of numbers and fit it
pub record AreGrown (t : Ty) (nulls : List Bool) (numbers : List ℤ) (any : Bool) : Type 0 where
  pub of_numbers : IsOfNumbers t
  pub long : length nulls ≡ length numbers
  pub plain : any ≡ false → marked nulls numbers ≡ marked [] numbers
  pub fit : t ≡ ty.Int → All (FitsSigned w32) numbers
