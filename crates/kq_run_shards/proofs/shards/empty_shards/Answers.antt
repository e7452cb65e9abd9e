use Rattle.std.proofs.Common.{◌≡◌, ◌≤◌, ◌-◌, ◌++◌, ◌∷◌, [], ℕ, map, replicate, ap, ◌∙◌, arith, rules}
use Rattle.std.specs.Arc.{arc_value}
use Rattle.std.proofs.lemmas.List.{map_push}
use Rattle.kq_run_groups.specs.Groups.{Grouping}
use Rattle.kq_run_shards.proofs.Sharding.{one_none}
use Rattle.kq_run_shards.proofs.shards.empty_shards.Goals as goal

pub loop-shard-preserved : goal.loop-shard-preserved
loop-shard-preserved c =
    let all = c.loop-shard.shards.items in
    let none = arc_value c.args.none.now in
    let some : 1 ≤ c.loop-shard._shard = search rules in
    ap (map arc_value) c.in_ok-push-2.ensures.items ∙ map_push arc_value all c.in_ok-try_clone.field-0 ∙ ap (λ (g : Grouping). map arc_value all ++ g ∷ []) c.in_ok-try_clone.ensures
    ∙ one_none (map arc_value all) (arc_value c.args.first) none c.loop-shard._shard some c.loop-shard.invariant

pub returns : goal.returns
returns c =
    let test = c.loop-shard-test.false in
    let end : c.loop-shard._shard ≤ 64 = search rules in
    let last : c.loop-shard._shard - 1 ≡ 63 = omega (arith, test, end) in
    c.loop-shard.invariant ∙ ap (λ (n : ℕ). arc_value c.args.first ∷ replicate n (arc_value c.args.none.now)) last
