use Rattle.std.proofs.Common.{◌≡◌, ◌≤◌, ◌+◌, ◌++◌, [], drop, length, map}
use Rattle.std.specs.Arc.{arc_value}
use Rattle.std.specs.List.{All}
use Rattle.kq_value.specs.Typed.{HasTypes}
use Rattle.kq_catalog_journal.specs.History.{log}
use Rattle.kq_engine_show.specs.JournalRows.{journal_columns, rows_behind}
use Rattle.kq_engine_show.proofs.journal.add_rows.Given as goal

abbrev pub invariant-loop-i : goal.invariant-loop-i
invariant-loop-i l = record {
  empty : l.row.items ≡ [];
  typed : All (HasTypes journal_columns) l.rows;
  below : l.cursor ≤ l.place + l.i;
  count : l.cursor + length (log (drop l.i (map arc_value l.events))) ≡ l.initial.cursor + length (log (map arc_value l.events));
  rows : l.rows ++ rows_behind (log l.snapshot.history) (l.place + l.i) l.cursor (drop l.i (map arc_value l.events))
      ≡ l.initial.rows ++ rows_behind (log l.snapshot.history) l.place l.initial.cursor (map arc_value l.events);
}
