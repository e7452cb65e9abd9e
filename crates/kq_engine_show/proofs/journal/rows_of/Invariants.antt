use Rattle.std.proofs.Common.{◌≡◌, ◌≤◌, ◌-◌, ◌++◌, drop, length}
use Rattle.std.specs.List.{All}
use Rattle.kq_value.specs.Typed.{HasTypes}
use Rattle.kq_catalog_journal.specs.History.{log}
use Rattle.kq_engine_show.specs.JournalRows.{journal_columns, journal_rows, rows_behind}
use Rattle.kq_engine_show.proofs.journal.rows_of.Given as goal

abbrev pub invariant-loop-at : goal.invariant-loop-at
invariant-loop-at l = record {
  within : l.at ≤ length l.snapshot.history;
  below : l.cursor ≤ l.at;
  typed : All (HasTypes journal_columns) l.rows;
  rows : l.rows ++ rows_behind (log l.snapshot.history) l.at l.cursor (drop l.at l.snapshot.history) ≡ journal_rows l.snapshot.history;
}

abbrev pub decreases-loop-at : goal.decreases-loop-at
decreases-loop-at l = l.count - l.at
