use Rattle.std.proofs.Common.{◌≡◌, map, take}
use Rattle.kq_value.specs.Tree.{items_of}
use Rattle.kq_run_aggregates.specs.Holds.{tree_in}
use Rattle.kq_run_aggregates.proofs.set.Set.finish.Given as goal

abbrev pub invariant-loop-element : goal.invariant-loop-element
invariant-loop-element l = items_of l.items ≡ map tree_in (take l.element-index l.element-items)
