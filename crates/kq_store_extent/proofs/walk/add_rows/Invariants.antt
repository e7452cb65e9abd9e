use Rattle.std.proofs.Common.{◌≡◌, ◌++◌, map, take}
use Rattle.std.specs.Arc.{arc_value}
use Rattle.kq_store_extent.specs.Wide.{wide}
use Rattle.kq_store_extent.proofs.Walked.{rows_by}
use Rattle.kq_store_extent.proofs.walk.add_rows.Given as goal

abbrev pub invariant-loop-extent : goal.invariant-loop-extent
invariant-loop-extent l = l.rows ≡ l.initial.rows ++ rows_by (take l.extent-index (map (wide l.fields) (map arc_value l.extents)))
