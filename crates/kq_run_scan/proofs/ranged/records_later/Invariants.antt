use Rattle.std.proofs.Common.{◌≡◌, take}
use Rattle.kq_store_extent.specs.Seen.{held_extents}
use Rattle.kq_run_scan.specs.Ranges.{count_read}
use Rattle.kq_run_scan.proofs.ranged.records_later.Given as goal

abbrev pub invariant-loop-at : goal.invariant-loop-at
invariant-loop-at l = l.count ≡ count_read l.above (take l.at (held_extents l.extents))
