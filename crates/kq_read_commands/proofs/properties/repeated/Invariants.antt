use Rattle.std.proofs.Common.{◌≡◌, ◌∷◌}
use Rattle.kq_read_commands.specs.Ingestions.{repeated_of}
use Rattle.kq_read_commands.proofs.GivenTwice.{repeated_from}
use Rattle.kq_read_commands.proofs.properties.repeated.Given as goal

-- what is left has the answer of the whole
abbrev pub invariant-loop-i : goal.invariant-loop-i
invariant-loop-i l = repeated_from l.text l.first l.others l.i ≡ repeated_of l.text (l.first ∷ l.others)
