use Rattle.std.proofs.Common.{◌≡◌, take}
use Rattle.kq_value.specs.Seen.{entries_of}
use Rattle.kq_store_column_view.specs.Bags.{entries_at}
use Rattle.kq_store_column_view.proofs.made.bag_of.Given as goal

abbrev pub invariant-loop-part : goal.invariant-loop-part
invariant-loop-part l = entries_of l.members.items ≡ entries_at (take l.part-index l.parts) l.index
