use Rattle.std.proofs.Common.{◌≡◌, ◌≤◌, ◌-◌, length, take}
use Rattle.kq_store_extent.specs.Seen.{held_extents, records_in}
use Rattle.kq_store_extent.proofs.table_extents.TableExtents.count_records.Given as goal

abbrev pub invariant-loop-at : goal.invariant-loop-at
invariant-loop-at l = record { within : l.at ≤ length (held_extents l.self); counted : l.count ≡ length (records_in (take l.at (held_extents l.self))) }

abbrev pub decreases-loop-at : goal.decreases-loop-at
decreases-loop-at l = l.len - l.at
