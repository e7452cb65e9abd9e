use Rattle.std.proofs.Common.{◌≡◌, map, take}
use Rattle.std.specs.Arc.{arc_value}
use Rattle.kq_store_extent.specs.Seen.{ExtentView}
use Rattle.kq_engine_prepare.proofs.merges.ids_of.Given as goal

abbrev pub invariant-loop-extent : goal.invariant-loop-extent
invariant-loop-extent l = l.ids ≡ map (λ (e : ExtentView). e.id) (take l.extent-index (map arc_value l.extents))
