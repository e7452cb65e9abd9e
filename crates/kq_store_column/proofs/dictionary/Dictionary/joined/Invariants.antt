use Rattle.std.proofs.Common.{take}
use Rattle.std.specs.List.{flat_map}
use Rattle.kq_store_column_view.specs.Vectors.{cells_of}
use Rattle.kq_store_column.specs.Built.{AreCoded}
use Rattle.kq_store_column.proofs.dictionary.Dictionary.joined.Given as goal

-- the parts so far
abbrev pub invariant-loop-part : goal.invariant-loop-part
invariant-loop-part l = AreCoded l.words.items l.codes.items (flat_map cells_of (take l.part-index l.parts))
