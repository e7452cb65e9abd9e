use Rattle.std.proofs.Common.{◌≡◌, ◌≤◌, ◌-◌, length, map, take}
use Rattle.kq_store_extent.specs.Seen.{held_extents}
use Rattle.kq_engine_show.specs.ExtentRows.{held_row}
use Rattle.kq_engine_show.proofs.extents.rows_of.Given as goal

abbrev pub invariant-loop-at : goal.invariant-loop-at
invariant-loop-at l = record { within : l.at ≤ length (held_extents l.extents); rows : l.rows ≡ map held_row (take l.at (held_extents l.extents)) }

abbrev pub decreases-loop-at : goal.decreases-loop-at
decreases-loop-at l = l.len - l.at
