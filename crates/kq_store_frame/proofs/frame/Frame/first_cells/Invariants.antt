use Rattle.std.proofs.Common.{◌≡◌, map, take}
use Rattle.kq_store_frame.specs.Series.{cells_in}
use Rattle.kq_store_frame.proofs.frame.Frame.first_cells.Given as goal

abbrev pub invariant-loop-column : goal.invariant-loop-column
invariant-loop-column l = map cells_in l.few.items ≡ map (λ c. take l.count (cells_in c)) (take l.column-index l.column-items)
