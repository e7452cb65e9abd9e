use Rattle.std.proofs.Common.{◌≡◌, [], length, map, sym, ap, ◌∙◌, subst, rules}
use Rattle.std.specs.Arc.{arc_value}
use Rattle.kq_run_groups.specs.Groups.{Grouping}
use Rattle.kq_store_rows.specs.Chunks.{row_at}
use Rattle.kq_run_groups.specs.Merges.{Merges}
use Rattle.kq_run_shards.specs.Shards.{FoldsShard}
use Rattle.kq_run_shards.proofs.Sharding.{FoldsShard-new, FoldsShard-same, no_items}
use Rattle.kq_run_shards.proofs.shards.folded_shard.Goals as goal

pub returns-then-untouched : goal.returns-then-untouched
returns-then-untouched c =
    let old = arc_value c.args.old.now in
    let delta = c.args.delta.now in
    let count : length c.in_ok-numbers.numbers.items ≡ 0 = search rules in
    let none : c.in_ok-numbers.numbers.items ≡ [] = no_items c.in_ok-numbers.numbers.items count in
    subst (FoldsShard c.args.width c.args.aggregates.now c.args.shard delta old) (sym c.in_ok-try_clone.ensures)
    (FoldsShard-same c.args.width c.args.aggregates.now c.args.shard delta old c.requires.old (sym c.in_ok-numbers.ensures.keys ∙ ap (map (row_at delta.keys)) none))

pub returns : goal.returns
returns c =
    let old = arc_value c.args.old.now in
    let delta = c.args.delta.now in
    let ns = c.in_ok-numbers.numbers.items in
    subst (FoldsShard c.args.width c.args.aggregates.now c.args.shard delta old) (sym c.in_ok-new.ensures.ok)
    (FoldsShard-new c.args.width c.args.aggregates.now c.args.shard delta old c.in_ok-groups.groups c.merge.new.self c.merge_at.new.self ns c.requires.old c.in_ok-numbers.ensures.within c.in_ok-numbers.ensures.keys c.in_ok-groups.ensures
    (subst (λ (g : Grouping). Merges g c.in_ok-groups.groups c.merge.new.self) c.deref.ensures c.in_ok-merge.ensures)
    (rw c.as_slice.ensures.value at c.in_ok-merge_at.ensures))
