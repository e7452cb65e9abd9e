use Rattle.std.proofs.Common.{◌≡◌, ◌<◌, length, map, take}
use Rattle.std.specs.List.{All, filter}
use Rattle.kq_store_rows.specs.Chunks.{row_at}
use Rattle.kq_run_shards.specs.Shards.{is_in}
use Rattle.kq_run_shards.proofs.shards.numbers_in.Given as goal

abbrev pub invariant-loop-group : goal.invariant-loop-group
invariant-loop-group l = record {
  within : All (λ n. n < length l.groups.keys) l.numbers.items;
  keys : map (row_at l.groups.keys) l.numbers.items ≡ filter (is_in l.shard) (take l.group l.groups.keys);
}
