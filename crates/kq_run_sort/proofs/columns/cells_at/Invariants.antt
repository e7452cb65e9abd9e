use Rattle.std.proofs.Common.{◌≡◌, map, take}
use Rattle.kq_store_column_view.specs.Vectors.{cell_of}
use Rattle.kq_run_sort.specs.Parts.{row_of_spot}
use Rattle.kq_run_sort.proofs.columns.cells_at.Given as goal

abbrev pub invariant-loop-spot : goal.invariant-loop-spot
invariant-loop-spot l = l.cells.items ≡ map (λ r. cell_of r l.j) (map (row_of_spot l.parts) (take l.spot-index l.places))
