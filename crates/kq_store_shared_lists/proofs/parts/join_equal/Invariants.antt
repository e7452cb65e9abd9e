use Rattle.std.proofs.Common.{◌≡◌, length}
use Rattle.kq_store_shared_lists.specs.Pieces.{items_in, AreCounted}
use Rattle.kq_store_shared_lists.proofs.parts.join_equal.Given as goal

abbrev pub invariant-loop-alloc : goal.invariant-loop-alloc
invariant-loop-alloc g l = (items_in l.parts.items ≡ items_in l.initial.parts.items) × AreCounted l.parts.items

abbrev pub decreases-loop-alloc : goal.decreases-loop-alloc
decreases-loop-alloc g l = length l.parts.items
