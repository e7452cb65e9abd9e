use Rattle.std.proofs.Common.{◌≡◌, ◌++◌, [], map, take}
use Rattle.std.specs.Arc.{arc_value}
use Rattle.std.specs.List.{All}
use Rattle.kq_value.specs.Typed.{HasTypes}
use Rattle.kq_catalog_journal.specs.History.{log}
use Rattle.kq_engine_show.specs.FailureRows.{failure_columns, failure_row}
use Rattle.kq_engine_show.proofs.failures.add_rows.Given as goal

abbrev pub invariant-loop-noted : goal.invariant-loop-noted
invariant-loop-noted l = record {
  empty : l.row.items ≡ [];
  typed : All (HasTypes failure_columns) l.rows;
  rows : l.rows ≡ l.initial.rows ++ map (failure_row (log l.snapshot.history)) (take l.noted-index (map arc_value l.failures));
}
