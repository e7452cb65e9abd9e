use Rattle.std.proofs.Common.{◌≡◌, map, take}
use Rattle.kq_value.specs.Tree.{items_of}
use Rattle.kq_value_conversions.proofs.Trees.{key_of}
use Rattle.kq_value_conversions.proofs.parts.keys.Given as goal

abbrev pub invariant-loop-member : goal.invariant-loop-member
invariant-loop-member l = items_of l.keys ≡ map key_of (take l.member-index l.member-items)
