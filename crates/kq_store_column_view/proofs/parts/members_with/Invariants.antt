use Rattle.std.proofs.Common.{◌≡◌, ℕ, drop}
use Rattle.kq_value.specs.Bags.{value_at}
use Rattle.kq_store_column_view.specs.Bags.{entries_at}
use Rattle.kq_store_column_view.proofs.parts.members_with.Given as goal

abbrev pub invariant-loop-part : goal.invariant-loop-part
invariant-loop-part l = (i : ℕ) → value_at l.key (entries_at l.parts i) ≡ value_at l.key (entries_at (drop l.part-index l.parts) i)
