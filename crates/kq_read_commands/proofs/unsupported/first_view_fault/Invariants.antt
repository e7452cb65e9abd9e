use Rattle.std.proofs.Common.{◌≡◌, drop}
use Rattle.kq_read_commands.specs.Unsupported.{view_fault, first_of}
use Rattle.kq_read_commands.proofs.unsupported.first_view_fault.Given as goal

-- what is left has the answer of the whole
abbrev pub invariant-loop-property : goal.invariant-loop-property
invariant-loop-property l = first_of (view_fault l.text) (drop l.property-index l.properties) ≡ first_of (view_fault l.text) l.properties
