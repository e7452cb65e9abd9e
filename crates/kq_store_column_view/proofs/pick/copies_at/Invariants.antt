use Rattle.std.proofs.Common.{◌≡◌, map, take}
use Rattle.kq_store_column_view.specs.Vectors.{cell_of, cells_of}
use Rattle.kq_store_column_view.proofs.pick.copies_at.Given as goal

abbrev pub invariant-loop-place : goal.invariant-loop-place
invariant-loop-place l = l.cells.items ≡ map (cell_of (cells_of l.vector)) (take l.place-index l.places)
