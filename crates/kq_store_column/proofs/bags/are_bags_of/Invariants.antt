use Rattle.std.proofs.Common.{◌≡◌, ◌<◌, ℕ, take}
use Rattle.kq_value.specs.Bags.{IsBag}
use Rattle.kq_store_column_view.specs.Bags.{bags_in, entries_at}
use Rattle.kq_store_column.proofs.bags.are_bags_of.Given as goal

abbrev pub invariant-loop-i : goal.invariant-loop-i
invariant-loop-i l = record { same : take l.i l.cells ≡ bags_in l.parts l.i; bags : (k : ℕ) → k < l.i → IsBag (entries_at l.parts k) }
