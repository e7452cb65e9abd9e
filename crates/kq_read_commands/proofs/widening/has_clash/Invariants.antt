use Rattle.std.proofs.Common.{◌≡◌, drop}
use Rattle.std.specs.List.{list_any}
use Rattle.kq_read_commands.specs.Widening.{is_clash}
use Rattle.kq_read_commands.proofs.widening.has_clash.Given as goal

-- what is left has the answer of the whole
abbrev pub invariant-loop-field : goal.invariant-loop-field
invariant-loop-field l = list_any (is_clash l.column) (drop l.field-index l.fields) ≡ list_any (is_clash l.column) l.fields
