use Rattle.std.proofs.Common.{◌≡◌, map, drop}
use Rattle.kq_plan_functions.specs.Names.{first_named}
use Rattle.kq_plan_functions.specs.Seen.{named_of}
use Rattle.kq_plan_functions.proofs.names.first_named.Given as goal

abbrev pub invariant-loop-named : goal.invariant-loop-named
invariant-loop-named l = first_named (map named_of l.names) l.name ≡ first_named (map named_of (drop l.named-index l.names)) l.name
