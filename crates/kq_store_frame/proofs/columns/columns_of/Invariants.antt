use Rattle.std.proofs.Common.{◌≡◌, map}
use Rattle.kq_store_frame.specs.Frames.{columns_in}
use Rattle.kq_store_frame.specs.Series.{cells_in}
use Rattle.kq_store_frame.proofs.columns.columns_of.Given as goal

abbrev pub invariant-loop-column : goal.invariant-loop-column
invariant-loop-column l = map cells_in l.columns.items ≡ columns_in l.rows l.column
