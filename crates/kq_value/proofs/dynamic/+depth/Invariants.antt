use Rattle.std.proofs.Common.{◌≡◌, max, drop}
use Rattle.kq_value.specs.Seen.{trees_of, entries_of}
use Rattle.kq_value.specs.Tree.{trees_depth, entries_depth}
use Rattle.kq_value.proofs.dynamic.+depth.Given as goal

abbrev pub invariant-DynBag::depth-loop-member : goal.invariant-DynBag::depth-loop-member
invariant-DynBag::depth-loop-member l =
    entries_depth (entries_of l.member-items) ≡ max l.deepest (entries_depth (entries_of (drop l.member-index l.member-items)))

abbrev pub invariant-DynList::depth-loop-item : goal.invariant-DynList::depth-loop-item
invariant-DynList::depth-loop-item l = trees_depth (trees_of l.item-items) ≡ max l.deepest (trees_depth (trees_of (drop l.item-index l.item-items)))
