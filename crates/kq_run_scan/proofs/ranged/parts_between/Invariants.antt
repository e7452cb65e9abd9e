use Rattle.std.proofs.Common.{◌≡◌, map, take}
use Rattle.kq_store_extent.specs.Seen.{held_extents}
use Rattle.kq_run_scan.specs.Ranges.{places_between}
use Rattle.kq_run_scan.proofs.ranged.parts_between.Given as goal

abbrev pub invariant-loop-at : goal.invariant-loop-at
invariant-loop-at l = map (λ pairs. pairs.items) l.parts.items ≡ map (λ e. places_between l.above l.to 0 e.records) (take l.at (held_extents l.extents))
