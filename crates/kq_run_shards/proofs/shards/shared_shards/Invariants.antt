use Rattle.std.proofs.Common.{◌≡◌, take, map}
use Rattle.std.specs.Arc.{arc_value}
use Rattle.kq_run_shards.proofs.shards.shared_shards.Given as goal

abbrev pub invariant-loop-shard : goal.invariant-loop-shard
invariant-loop-shard l = map arc_value l.all.items ≡ map arc_value (take l.shard-index l.shards)
