use Rattle.std.proofs.Common.{List, map, ap, ◌∙◌, arith}
use Rattle.std.specs.List.{filter}
use Rattle.std.proofs.lemmas.List.{take_all}
use Rattle.kq_store_rows.specs.Chunks.{row_at}
use Rattle.kq_value.specs.declared.value.Value.{Value}
use Rattle.kq_run_shards.specs.Shards.{is_in}
use Rattle.kq_run_shards.proofs.Sharding.{once_in}
use Rattle.kq_run_shards.proofs.shards.numbers_in.Goals as goal

pub returns-clause-once : goal.returns-clause-once
returns-clause-once c =
    let keys = c.args.groups.now.keys in
    let test = c.loop-group-test.false in
    let count = c.len-group-end.ensures.count in
    once_in c.args.shard keys (map (row_at keys) c.loop-group.numbers.items)
    (c.loop-group.invariant.keys ∙ ap (λ (ks : List (List Value)). filter (is_in c.args.shard) ks) (take_all c.loop-group.group keys (omega (arith, test, count)))) c.len-group-end.ensures.apart
