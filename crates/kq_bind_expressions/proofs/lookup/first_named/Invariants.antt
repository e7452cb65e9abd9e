use Rattle.std.proofs.Common.{◌≡◌, drop}
use Rattle.kq_bind_expressions.specs.Lookup.{first_named}
use Rattle.kq_bind_expressions.proofs.lookup.first_named.Given as goal

abbrev pub invariant-loop-i : goal.invariant-loop-i
invariant-loop-i l = first_named 0 l.fields l.name ≡ first_named l.i (drop l.i l.fields) l.name
