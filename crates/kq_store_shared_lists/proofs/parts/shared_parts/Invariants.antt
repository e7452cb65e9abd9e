use Rattle.std.proofs.Common.{◌≡◌, take}
use Rattle.kq_store_shared_lists.specs.Pieces.{items_in, AreCounted}
use Rattle.kq_store_shared_lists.proofs.parts.shared_parts.Given as goal

abbrev pub invariant-loop-part : goal.invariant-loop-part
invariant-loop-part g l = (items_in l.all.items ≡ items_in (take l.part-index l.parts)) × AreCounted l.all.items
