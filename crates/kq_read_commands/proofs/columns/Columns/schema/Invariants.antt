use Rattle.std.proofs.Common.{◌≡◌, take}
use Rattle.kq_read_commands.specs.Columns.{schema_of}
use Rattle.kq_read_commands.proofs.columns.Columns.schema.Given as goal

abbrev pub invariant-loop-column : goal.invariant-loop-column
invariant-loop-column l = l.fields.items ≡ schema_of (take l.column-index l.column-items)
