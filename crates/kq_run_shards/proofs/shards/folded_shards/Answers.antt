use Rattle.std.proofs.Common.{◌≡◌, ◌<◌, ◌+◌, ◌++◌, ◌∷◌, [], List, ℕ, length, map, sym, ap, ◌∙◌, subst, arith}
use Rattle.std.specs.Arc.{arc_value}
use Rattle.std.proofs.lemmas.List.{get_or-map, length-map, length_push, map_push}
use Rattle.kq_run_groups.specs.Groups.{Grouping}
use Rattle.kq_run_shards.specs.Shards.{FoldsShard, IsShard, nobody, shard_at}
use Rattle.kq_run_shards.proofs.Sharding.{folded_more}
use Rattle.kq_run_shards.proofs.shards.folded_shards.Goals as goal

pub folded_shard-requires-clause-old : goal.folded_shard-requires-clause-old
folded_shard-requires-clause-old c =
    let shards = map arc_value c.args.shards.now in
    let i = c.loop-shard.shard in
    let test = c.loop-shard-test.true in
    let there : i < length shards = let n = length-map c.args.shards.now arc_value in omega (arith, test, n) in
    let at : shard_at shards i ≡ arc_value c.index-shards-shard.result = get_or-map arc_value c.args.shards.now i c.index-shards-shard.result nobody test ∙ ap arc_value (sym c.index-shards-shard.is) in
    subst (IsShard c.args.width c.args.aggregates.now i) at (c.requires.shards.each i there)

pub loop-shard-preserved : goal.loop-shard-preserved
loop-shard-preserved c =
    let shards = map arc_value c.args.shards.now in
    let i = c.loop-shard.shard in
    let test = c.loop-shard-test.true in
    let at : shard_at shards i ≡ arc_value c.index-shards-shard.result = get_or-map arc_value c.args.shards.now i c.index-shards-shard.result nobody test ∙ ap arc_value (sym c.index-shards-shard.is) in
    let all = c.loop-shard.all.items in
    let new = c.in_ok-folded_shard.field-0 in
    let items : map arc_value c.push.new.self.items ≡ map arc_value all ++ arc_value new ∷ [] = ap (map arc_value) c.in_ok-push.ensures.items ∙ map_push arc_value all new in
    record {
      count = ap length c.in_ok-push.ensures.items ∙ length_push all new ∙ ap (λ (n : ℕ). n + 1) c.loop-shard.invariant.count;
      each = λ j h.
          subst (λ (gs : List Grouping). FoldsShard c.args.width c.args.aggregates.now j c.args.delta.now (shard_at shards j) (shard_at gs j)) (sym items)
          (folded_more c.args.width c.args.aggregates.now c.args.delta.now shards (map arc_value all) i (arc_value new) (length-map all arc_value ∙ c.loop-shard.invariant.count) c.loop-shard.invariant.each
          (subst (λ (g : Grouping). FoldsShard c.args.width c.args.aggregates.now i c.args.delta.now g (arc_value new)) (sym at) c.in_ok-folded_shard.ensures) j h);
    }

pub returns : goal.returns
returns c =
    let test = c.loop-shard-test.false in
    let end = c.loop-shard.auto.shard-end in
    let olds = length-map c.args.shards.now arc_value in
    let news = length-map c.loop-shard.all.items arc_value in
    let count = c.loop-shard.invariant.count in
    record {
      count = omega (arith, test, end, olds, news, count);
      each = λ i h. c.loop-shard.invariant.each i (omega (arith, h, test, olds));
    }
