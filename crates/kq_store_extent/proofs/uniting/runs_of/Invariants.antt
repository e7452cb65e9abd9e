use Rattle.std.proofs.Common.{◌≡◌, map, take}
use Rattle.std.specs.Arc.{arc_value}
use Rattle.kq_store_extent.proofs.Walked.{ids_in}
use Rattle.kq_store_extent.proofs.uniting.runs_of.Given as goal

abbrev pub invariant-loop-extent : goal.invariant-loop-extent
invariant-loop-extent l = l.runs ≡ ids_in (take l.extent-index (map arc_value l.extents))
