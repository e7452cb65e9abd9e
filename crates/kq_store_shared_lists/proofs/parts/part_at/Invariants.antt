use Rattle.std.proofs.Common.{◌≡◌, ◌+◌, length, take}
use Rattle.kq_store_shared_lists.specs.Pieces.{items_in}
use Rattle.kq_store_shared_lists.proofs.parts.part_at.Given as goal

abbrev pub invariant-loop-i : goal.invariant-loop-i
invariant-loop-i g l = length (items_in (take l.i l.parts)) + l.rest ≡ l.at
