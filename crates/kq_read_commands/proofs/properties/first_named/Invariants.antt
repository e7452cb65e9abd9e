use Rattle.std.proofs.Common.{◌≡◌, drop}
use Rattle.kq_read_commands.specs.Ingestions.{first_named}
use Rattle.kq_read_commands.proofs.properties.first_named.Given as goal

-- what is left has the answer of the whole
abbrev pub invariant-loop-property : goal.invariant-loop-property
invariant-loop-property l = first_named l.text l.name (drop l.property-index l.properties) ≡ first_named l.text l.name l.properties
