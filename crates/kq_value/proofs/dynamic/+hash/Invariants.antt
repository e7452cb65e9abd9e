use Rattle.std.proofs.Common.{◌≡◌, drop}
use Rattle.kq_value.specs.Seen.{trees_of, entries_of}
use Rattle.kq_value.specs.Hash.{trees_hash, entries_hash}
use Rattle.kq_value.proofs.dynamic.+hash.Given as goal

abbrev pub invariant-DynBag::hash_into-loop-member : goal.invariant-DynBag::hash_into-loop-member
invariant-DynBag::hash_into-loop-member l =
    entries_hash l.fn.state (entries_of l.member-items) ≡ entries_hash l.state (entries_of (drop l.member-index l.member-items))

abbrev pub invariant-DynList::hash_into-loop-item : goal.invariant-DynList::hash_into-loop-item
invariant-DynList::hash_into-loop-item l = trees_hash l.fn.state (trees_of l.item-items) ≡ trees_hash l.state (trees_of (drop l.item-index l.item-items))
