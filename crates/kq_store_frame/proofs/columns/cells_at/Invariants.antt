use Rattle.std.proofs.Common.{◌≡◌, take}
use Rattle.kq_store_frame.specs.Frames.{column_in}
use Rattle.kq_store_frame.proofs.columns.cells_at.Given as goal

abbrev pub invariant-loop-index : goal.invariant-loop-index
invariant-loop-index l = l.cells.items ≡ column_in (take l.index l.rows) l.column
