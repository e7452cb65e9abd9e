use Rattle.std.proofs.Common.{◌≡◌, ◌++◌, [], map, take}
use Rattle.std.specs.Arc.{arc_value}
use Rattle.std.specs.List.{All}
use Rattle.kq_value.specs.Typed.{HasTypes}
use Rattle.kq_engine_show.specs.ExtentRows.{extent_columns, held_row}
use Rattle.kq_engine_show.proofs.extents.add_rows.Given as goal

abbrev pub invariant-loop-extent : goal.invariant-loop-extent
invariant-loop-extent l = record {
  empty : l.row.items ≡ [];
  typed : All (HasTypes extent_columns) l.rows;
  rows : l.rows ≡ l.initial.rows ++ map held_row (take l.extent-index (map arc_value l.extents));
}
