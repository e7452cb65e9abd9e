use Rattle.std.proofs.Common.{◌≡◌, ◌++◌, [], map, take}
use Rattle.kq_store_rows.specs.Widened.{widened}
use Rattle.kq_store_extent.proofs.columns.Columns.push_rows.Given as goal

-- the first rows were added, and nothing is left in the buffer
abbrev pub invariant-loop-index : goal.invariant-loop-index
invariant-loop-index l = record { added : l.rows ≡ l.initial.rows ++ take l.index (map (widened l.fields) l.self); emptied : l.row.items ≡ [] }
