use Rattle.std.proofs.Common.{◌≡◌, drop}
use Rattle.kq_read_commands.specs.Unsupported.{column_fault, first_of}
use Rattle.kq_read_commands.proofs.unsupported.first_column_fault.Given as goal

-- what is left has the answer of the whole
abbrev pub invariant-loop-column : goal.invariant-loop-column
invariant-loop-column l = first_of (column_fault l.text) (drop l.column-index l.columns) ≡ first_of (column_fault l.text) l.columns
