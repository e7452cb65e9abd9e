use Rattle.std.proofs.Common.{◌≡◌, map, take}
use Rattle.std.specs.Arc.{arc_value}
use Rattle.std.specs.List.{flat_map}
use Rattle.kq_store_column_view.specs.Vectors.{cells_of}
use Rattle.kq_store_column.specs.Cells.{column_of}
use Rattle.kq_store_extent.specs.Seen.{records_in, row_of}
use Rattle.kq_store_extent.specs.Wide.{wide}
use Rattle.kq_store_extent.proofs.uniting.joined_column.Given as goal

-- the cells of the extents so far
abbrev pub invariant-loop-extent : goal.invariant-loop-extent
invariant-loop-extent l = flat_map cells_of l.parts.items ≡ column_of l.j (map row_of (records_in (take l.extent-index (map (wide l.fields) (map arc_value l.extents)))))
