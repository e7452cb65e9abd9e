use Rattle.std.proofs.Common.{◌≡◌, ◌≤◌, ◌+◌, drop, length}
use Rattle.kq_read_commands.specs.Widening.{new_columns}
use Rattle.kq_read_commands.proofs.columns.Columns.count_new.Given as goal

-- what was counted, and what is left to count
abbrev pub invariant-loop-column : goal.invariant-loop-column
invariant-loop-column l = record {
  counted : l.count + length (new_columns l.fields (drop l.column-index l.columns)) ≡ length (new_columns l.fields l.columns);
  few : l.count ≤ l.column-index;
}
