use Rattle.std.proofs.Common.{◌≡◌, ◌∷◌, ◌-◌, map, replicate}
use Rattle.std.specs.Arc.{arc_value}
use Rattle.kq_run_shards.proofs.shards.empty_shards.Given as goal

abbrev pub invariant-loop-shard : goal.invariant-loop-shard
invariant-loop-shard l = map arc_value l.shards.items ≡ arc_value l.fn.first ∷ replicate (l._shard - 1) (arc_value l.none)
