use Rattle.std.proofs.Common.{◌≡◌, ◌++◌, drop, map}
use Rattle.kq_value.specs.Seen.{trees_of}
use Rattle.kq_value.specs.Tree.{items_of}
use Rattle.kq_run_reshape.specs.MvExpand.{as_value}
use Rattle.kq_run_reshape.proofs.parts.copies.Given as goal

abbrev pub invariant-loop-item : goal.invariant-loop-item
invariant-loop-item l = map as_value (items_of (trees_of l.items)) ≡ l.values.items ++ map as_value (items_of (trees_of (drop l.item-index l.items)))
