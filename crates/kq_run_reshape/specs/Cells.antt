-- The cells of rows.
use Rattle.std.specs.Prelude.{ℕ, List, slice_index_or}
use Rattle.kq_value.specs.declared.ty.Ty.TheVariants as ty
use Rattle.kq_value.specs.declared.value.Value.{Value}
use Rattle.kq_value.specs.declared.value.Value.TheVariants.{Null}

-- the cell of a column, and a null past the end
abbrev pub cell_at : List Value → ℕ → Value
cell_at row column = slice_index_or row column (Null ty.Long)
