use Rattle.std.proofs.Common.{◌≡◌, not}
use Rattle.std.specs.List.{filter}
use Rattle.kq_catalog_indexes.specs.TagTrees.{is_right}
use Rattle.kq_catalog_indexes.proofs.tag_entry.parted.Given as goal

abbrev pub invariant-loop-entry : goal.invariant-loop-entry
invariant-loop-entry l = (l.left.items ≡ filter (λ e. not (is_right l.level e)) l.yielded) × (l.right.items ≡ filter (is_right l.level) l.yielded)
