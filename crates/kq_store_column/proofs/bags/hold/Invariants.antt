use Rattle.std.proofs.Common.{◌≡◌, take}
use Rattle.kq_value.specs.Seen.{entries_of}
use Rattle.kq_store_column_view.specs.Bags.{entries_at}
use Rattle.kq_store_column.proofs.bags.hold.Given as goal

abbrev pub invariant-loop-i : goal.invariant-loop-i
invariant-loop-i l = entries_of (take l.i l.members) ≡ entries_at (take l.i l.parts) l.index
