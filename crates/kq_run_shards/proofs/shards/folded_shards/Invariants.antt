use Rattle.std.proofs.Common.{◌≡◌, ◌<◌, ℕ, length, map}
use Rattle.std.specs.Arc.{arc_value}
use Rattle.kq_run_shards.specs.Shards.{FoldsShard, shard_at}
use Rattle.kq_run_shards.proofs.shards.folded_shards.Given as goal

abbrev pub invariant-loop-shard : goal.invariant-loop-shard
invariant-loop-shard l = record {
  count : length l.all.items ≡ l.shard;
  each : (i : ℕ) → i < l.shard → FoldsShard l.width l.aggregates i l.delta (shard_at (map arc_value l.shards) i) (shard_at (map arc_value l.all.items) i);
}
