use Rattle.std.proofs.Common.{◌≡◌, ◌≤◌, ◌-◌, length, map, take}
use Rattle.kq_store_extent.specs.Seen.{held_extents}
use Rattle.kq_store_extent.specs.Wide.{wide}
use Rattle.kq_store_extent.proofs.Walked.{rows_by}
use Rattle.kq_store_extent.proofs.table_extents.TableExtents.all_rows.Given as goal

abbrev pub invariant-loop-at : goal.invariant-loop-at
invariant-loop-at l = record { within : l.at ≤ length (held_extents l.self); added : l.rows ≡ rows_by (take l.at (map (wide l.fields) (held_extents l.self))) }

abbrev pub decreases-loop-at : goal.decreases-loop-at
decreases-loop-at l = l.len - l.at
