use Rattle.std.proofs.Common.{◌≡◌, map, take}
use Rattle.std.specs.List.{All}
use Rattle.kq_run_groups.specs.Groups.{HasNoRows, shape_of}
use Rattle.kq_run_groups.proofs.gathered.all_fresh.Given as goal

abbrev pub invariant-loop-aggregate : goal.invariant-loop-aggregate
invariant-loop-aggregate l = record { shapes : map shape_of l.all.items ≡ take l.aggregate-index l.aggregates; fresh : All (HasNoRows l.count) l.all.items }
