use Rattle.std.proofs.Common.{◌≡◌, map, sym, ap, ◌∙◌, subst}
use Rattle.std.specs.Arc.{arc_value}
use Rattle.kq_run_groups.specs.Groups.{Grouping, shape_of}
use Rattle.kq_run_groups.specs.Merges.{Merges}
use Rattle.kq_run_shards.specs.Shards.{AreFolded, all_of}
use Rattle.kq_run_shards.proofs.Beside.{shapes_from}
use Rattle.kq_run_shards.proofs.Sharding.{Merges-folded}
use Rattle.kq_run_shards.proofs.parted.Parted.folded.Goals as goal

pub folded_shards-requires-clause-shapes : goal.folded_shards-requires-clause-shapes
folded_shards-requires-clause-shapes c =
    let aggregates = (arc_value c.self.inside.aggregates).items in
    let shards = map arc_value c.self.inside.shards.items in
    let seen : all_of c.self.inside.width aggregates shards ≡ c.args.self.now = c.self.view_is in
    let same : map shape_of c.args.delta.now.states ≡ aggregates = c.requires.shapes ∙ ap (λ (g : Grouping). map shape_of g.states) (sym seen) ∙ shapes_from aggregates 0 shards in
    rw (c.as_slice.ensures.value, c.deref.ensures) same

pub returns : goal.returns
returns c =
    let width = c.self.inside.width in
    let aggregates = (arc_value c.self.inside.aggregates).items in
    let olds = map arc_value c.self.inside.shards.items in
    let news = map arc_value c.in_ok-shards.shards.items in
    let delta = c.args.delta.now in
    let seen : all_of width aggregates olds ≡ c.args.self.now = c.self.view_is in
    let folded : AreFolded width aggregates delta olds news = rw (c.as_slice.ensures.value, c.as_slice-2.ensures.value, c.deref.ensures) at c.in_ok-shards.ensures in
    let same : map shape_of delta.states ≡ aggregates = c.requires.shapes ∙ ap (λ (g : Grouping). map shape_of g.states) (sym seen) ∙ shapes_from aggregates 0 olds in
    let all : Merges delta (all_of width aggregates olds) (all_of width aggregates news) =
    Merges-folded width aggregates delta olds news c.self.invariant folded (c.requires.width ∙ ap (λ (g : Grouping). g.width) (sym seen)) same in
    let shared : Merges delta c.args.self.now (all_of width (arc_value c.in_ok-try_clone.field-0).items news) =
    rw (c.in_ok-try_clone.ensures) (subst (λ (g : Grouping). Merges delta g (all_of width aggregates news)) seen all) in
    shared
