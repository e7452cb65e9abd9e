use Rattle.std.proofs.Common.{map}
use Rattle.std.specs.Arc.{arc_value}
use Rattle.kq_run_shards.proofs.Ending.{IsEnding}
use Rattle.kq_run_shards.proofs.shards.rows_of.Given as goal

abbrev pub invariant-loop-shard : goal.invariant-loop-shard
invariant-loop-shard l = IsEnding (map arc_value l.shards) l.shard-index l.rows
