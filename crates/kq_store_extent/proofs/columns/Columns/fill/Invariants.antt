use Rattle.std.proofs.Common.{◌≡◌, map, take, get_or}
use Rattle.kq_store_extent.specs.Columns.{missing}
use Rattle.kq_store_extent.proofs.columns.Columns.fill.Given as goal

abbrev pub invariant-loop-column : goal.invariant-loop-column
invariant-loop-column l = l.row.items ≡ map (λ c. get_or c l.index missing) (take l.column-index l.column-items)
