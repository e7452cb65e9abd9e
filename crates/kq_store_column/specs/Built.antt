-- Columns as they are joined.
use Rattle.std.specs.Prelude.{◌≡◌, ◌<◌, ℕ, ℤ, Bool, false, All, List, [], length, map, FitsSigned}
use Rattle.std.specs.Int.{w32}
use Rattle.kq_value.specs.declared.ty.Ty.{Ty}
use Rattle.kq_value.specs.declared.ty.Ty.TheVariants as ty
use Rattle.kq_value.specs.declared.value.Value.{Value}
use Rattle.kq_store_column_view.specs.Numbers.{marked, number_cell}
use Rattle.kq_store_column.specs.Words.{word_at}

-- numbers with their marks stand for these cells, and so they do without marks where none was marked
pub record AreBuilt (t : Ty) (nulls : List Bool) (numbers : List ℤ) (any : Bool) (cells : List Value) : Type 0 where
  pub long : length nulls ≡ length numbers
  pub stand : map (number_cell t) (marked nulls numbers) ≡ cells
  pub plain : any ≡ false → marked nulls numbers ≡ marked [] numbers
  pub fit : t ≡ ty.Int → All (FitsSigned w32) numbers

-- each code has a word, and these are the cells of the codes
pub record AreCoded (words : List Value) (codes : List ℕ) (cells : List Value) : Type 0 where
  pub known : All (λ code. code < length words) codes
  pub stand : map (word_at words) codes ≡ cells
