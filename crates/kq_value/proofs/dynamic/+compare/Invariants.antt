use Rattle.std.proofs.Common.{◌≡◌, drop}
use Rattle.kq_value.specs.Seen.{trees_of, entries_of}
use Rattle.kq_value.specs.TreeOrder.{trees_cmp, entries_cmp}
use Rattle.kq_value.proofs.dynamic.+compare.Given as goal

abbrev pub invariant-DynBag::cmp-loop-i : goal.invariant-DynBag::cmp-loop-i
invariant-DynBag::cmp-loop-i l =
    entries_cmp (entries_of l.self-inside.members.items) (entries_of l.other-inside.members.items)
    ≡ entries_cmp (entries_of (drop l.i l.self-inside.members.items)) (entries_of (drop l.i l.other-inside.members.items))

abbrev pub invariant-DynList::cmp-loop-i : goal.invariant-DynList::cmp-loop-i
invariant-DynList::cmp-loop-i l =
    trees_cmp (trees_of l.self-inside.items.items) (trees_of l.other-inside.items.items)
    ≡ trees_cmp (trees_of (drop l.i l.self-inside.items.items)) (trees_of (drop l.i l.other-inside.items.items))
