use Rattle.std.proofs.Common.{◌≡◌, ◌++◌, drop}
use Rattle.kq_read_commands.specs.Columns.{schema_of}
use Rattle.kq_read_commands.specs.Widening.{new_columns}
use Rattle.kq_read_commands.proofs.columns.Columns.new_columns.Given as goal

-- what was found, and what is left to find
abbrev pub invariant-loop-column : goal.invariant-loop-column
invariant-loop-column l = l.more.items ++ schema_of (new_columns l.fields (drop l.column-index l.columns)) ≡ schema_of (new_columns l.fields l.columns)
