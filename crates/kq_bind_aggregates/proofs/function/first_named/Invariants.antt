use Rattle.std.proofs.Common.{◌≡◌, map, drop}
use Rattle.kq_bind_aggregates.specs.Functions.{first_aggregate}
use Rattle.kq_bind_aggregates.specs.Seen.{named_of}
use Rattle.kq_bind_aggregates.proofs.function.first_named.Given as goal

abbrev pub invariant-loop-named : goal.invariant-loop-named
invariant-loop-named l = first_aggregate (map named_of l.names) l.name ≡ first_aggregate (map named_of (drop l.named-index l.names)) l.name
