use Rattle.std.proofs.Common.{◌≡◌, map, take}
use Rattle.kq_store_column_view.specs.Vectors.{cell_of}
use Rattle.kq_store_frame.specs.Series.{cells_in}
use Rattle.kq_store_frame.proofs.frame.Frame.fill.Given as goal

abbrev pub invariant-loop-column : goal.invariant-loop-column
invariant-loop-column l = l.row.items ≡ map (λ c. cell_of (cells_in c) l.index) (take l.column-index l.column-items)
