use Rattle.std.proofs.Common.{List, map, sym, subst}
use Rattle.std.specs.Arc.{arc_value}
use Rattle.kq_run_groups.specs.Grouped.{AggregateShape}
use Rattle.kq_run_groups.specs.Groups.{Grouping, Starts}
use Rattle.kq_run_groups.specs.Merges.{Lacks}
use Rattle.kq_run_shards.specs.Shards.{AreShards, all_of}
use Rattle.kq_run_shards.proofs.Sharding.{AreShards-empty, Starts-empty}
use Rattle.kq_run_shards.proofs.parted.Parted.empty.Goals as goal

pub invariant_of-result : goal.invariant_of-result
invariant_of-result c =
    let width = c.args.width in
    let aggregates = c.args.aggregates.items in
    let first = arc_value c.in_ok-first-2.first in
    let none = arc_value c.in_ok-none-2.none in
    let starts : Starts width aggregates first = subst (Starts width aggregates) (sym c.in_ok-first-2.ensures.ok) (subst (λ (gs : List AggregateShape). Starts width gs c.in_ok-first.first) c.as_slice.ensures.value c.in_ok-first.ensures) in
    let lacks : Lacks width aggregates none = subst (Lacks width aggregates) (sym c.in_ok-none-2.ensures.ok) (subst (λ (gs : List AggregateShape). Lacks width gs c.in_ok-none.none) c.as_slice-2.ensures.value c.in_ok-none.ensures) in
    rw (c.in_ok-aggregates.ensures.ok) (subst (AreShards width aggregates) (sym c.in_ok-shards.ensures) (AreShards-empty width aggregates first none starts lacks))

pub returns : goal.returns
returns c =
    let width = c.args.width in
    let aggregates = c.args.aggregates.items in
    let first = arc_value c.in_ok-first-2.first in
    let none = arc_value c.in_ok-none-2.none in
    let starts : Starts width aggregates first = subst (Starts width aggregates) (sym c.in_ok-first-2.ensures.ok) (subst (λ (gs : List AggregateShape). Starts width gs c.in_ok-first.first) c.as_slice.ensures.value c.in_ok-first.ensures) in
    let lacks : Lacks width aggregates none = subst (Lacks width aggregates) (sym c.in_ok-none-2.ensures.ok) (subst (λ (gs : List AggregateShape). Lacks width gs c.in_ok-none.none) c.as_slice-2.ensures.value c.in_ok-none.ensures) in
    let all : Starts width aggregates (all_of width (arc_value c.in_ok-aggregates.aggregates).items (map arc_value c.in_ok-shards.shards.items)) =
    rw (c.in_ok-aggregates.ensures.ok)
    (subst (λ (gs : List Grouping). Starts width aggregates (all_of width aggregates gs)) (sym c.in_ok-shards.ensures) (Starts-empty width aggregates first none starts lacks)) in
    all
