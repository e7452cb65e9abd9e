use Rattle.std.proofs.Common.{◌≡◌, ℤ, [], Some, map, take, MatchOption, FitsSigned, w32}
use Rattle.kq_value.specs.declared.ty.Ty.TheVariants.{Int}
use Rattle.kq_store_column.specs.Bounds.{AreBounds}
use Rattle.kq_store_column.specs.Cells.{cells_present, IsAtMost}
use Rattle.kq_store_column_view.specs.Numbers.{marked, number_cell}
use Rattle.kq_store_column.proofs.numbers.numbers_zone.Given as goal

-- the bounds of the numbers so far, as cells
abbrev pub invariant-loop-i : goal.invariant-loop-i
invariant-loop-i l =
    let cells = cells_present (take l.i (map (number_cell l.ty) (marked l.nulls l.numbers))) in
    MatchOption l.bounds (cells ≡ [])
    (λ (b : ℤ × ℤ). record { bounds : AreBounds IsAtMost cells (number_cell l.ty (Some b.0)) (number_cell l.ty (Some b.1)); fit : l.ty ≡ Int → FitsSigned w32 b.0 × FitsSigned w32 b.1 })
