use Rattle.std.proofs.Common.{◌≡◌, ◌<◌, ◌++◌, drop, map}
use Rattle.kq_value.specs.Seen.{entries_of}
use Rattle.kq_value.specs.Tree.{entries_depth}
use Rattle.kq_run_reshape.specs.MvExpand.{as_value, single_entries}
use Rattle.kq_run_reshape.proofs.parts.single_bags.Given as goal

abbrev pub invariant-loop-member : goal.invariant-loop-member
invariant-loop-member l =
    (map as_value (single_entries (entries_of l.members)) ≡ l.values.items ++ map as_value (single_entries (entries_of (drop l.member-index l.members))))
    × (entries_depth (entries_of (drop l.member-index l.members)) < 127)
