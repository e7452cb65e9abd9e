use Rattle.std.proofs.Common.{◌≡◌, drop}
use Rattle.kq_value.specs.Seen.{entries_of}
use Rattle.kq_value.specs.Bags.{value_at}
use Rattle.kq_value.proofs.dynamic.DynBag.get.Given as goal

abbrev pub invariant-loop-member : goal.invariant-loop-member
invariant-loop-member l = value_at l.key (entries_of l.member-items) ≡ value_at l.key (entries_of (drop l.member-index l.member-items))
