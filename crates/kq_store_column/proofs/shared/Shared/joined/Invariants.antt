use Rattle.std.proofs.Common.{◌≡◌, take}
use Rattle.std.specs.List.{flat_map}
use Rattle.kq_store_column_view.specs.Vectors.{cells_of}
use Rattle.kq_store_column.proofs.shared.Shared.joined.Given as goal

abbrev pub invariant-loop-part : goal.invariant-loop-part
invariant-loop-part l = l.cells.items ≡ flat_map cells_of (take l.part-index l.parts)
