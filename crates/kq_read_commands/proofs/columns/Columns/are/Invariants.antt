use Rattle.std.proofs.Common.{◌≡◌, drop}
use Rattle.kq_read_commands.specs.Columns.{schema_of}
use Rattle.kq_value.specs.Schema.{same_fields}
use Rattle.kq_read_commands.proofs.columns.Columns.are.Given as goal

-- what is left has the answer of the whole
abbrev pub invariant-loop-i : goal.invariant-loop-i
invariant-loop-i l = same_fields (drop l.i l.fields) (schema_of (drop l.i l.self-inside.columns.items)) ≡ same_fields l.fields (schema_of l.self-inside.columns.items)
