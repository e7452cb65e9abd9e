use Rattle.std.proofs.Common.{◌≡◌, drop}
use Rattle.kq_read_commands.specs.Widening.{first_clash}
use Rattle.kq_read_commands.proofs.columns.Columns.first_clash.Given as goal

-- what is left has the answer of the whole
abbrev pub invariant-loop-column : goal.invariant-loop-column
invariant-loop-column l = first_clash l.fields (drop l.column-index l.columns) ≡ first_clash l.fields l.columns
