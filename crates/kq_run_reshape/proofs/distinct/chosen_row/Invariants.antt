use Rattle.std.proofs.Common.{◌≡◌, map, take}
use Rattle.kq_run_reshape.specs.Cells.{cell_at}
use Rattle.kq_run_reshape.proofs.distinct.chosen_row.Given as goal

abbrev pub invariant-loop-column : goal.invariant-loop-column
invariant-loop-column l = l.cells ≡ map (cell_at l.row) (take l.column-index l.columns)
