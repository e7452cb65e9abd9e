use Rattle.std.proofs.Common.{◌≡◌, map, sym, ap, ◌∙◌, subst}
use Rattle.std.specs.Arc.{arc_value}
use Rattle.std.specs.List.{All}
use Rattle.kq_value.specs.Computed.{Answers}
use Rattle.kq_run_groups.specs.Groups.{EndsWide, Grouping, HasAllGroups, rows_from, shape_of}
use Rattle.kq_run_groups.proofs.Finishing.{EndsWide-Stands, Grouped-Stands, IsGrouped-from}
use Rattle.kq_run_shards.specs.Shards.{AreFinishable, all_of, rows_in}
use Rattle.kq_run_shards.proofs.Ending.{AreFinishable-shards, rows_of_all}
use Rattle.kq_run_shards.proofs.Sharding.{all_whole}
use Rattle.kq_run_shards.proofs.parted.Parted.rows.Goals as goal

pub rows_of-requires : goal.rows_of-requires
rows_of-requires c =
    let width = c.self.inside.width in
    let aggregates = (arc_value c.self.inside.aggregates).items in
    let shards = map arc_value c.self.inside.shards.items in
    let seen : all_of width aggregates shards ≡ c.args.self.now = c.self.view_is in
    let whole : HasAllGroups c.args.self.now = subst HasAllGroups seen (all_whole width aggregates shards c.self.invariant) in
    let ends : All EndsWide c.args.self.now.states = EndsWide-Stands c.requires.keys c.requires.args c.args.self.now c.requires.stands whole c.requires.fit in
    let finishable : AreFinishable shards = AreFinishable-shards width aggregates shards c.self.invariant (subst (λ (g : Grouping). All EndsWide g.states) (sym seen) ends) in
    rw (c.as_slice.ensures.value) finishable

pub returns-clause-rows : goal.returns-clause-rows
returns-clause-rows c =
    let width = c.self.inside.width in
    let aggregates = (arc_value c.self.inside.aggregates).items in
    let shards = map arc_value c.self.inside.shards.items in
    let seen : all_of width aggregates shards ≡ c.args.self.now = c.self.view_is in
    let same : rows_in shards ≡ rows_from c.args.self.now.states c.args.self.now.keys 0 = rows_of_all width aggregates shards c.self.invariant ∙ ap (λ (g : Grouping). rows_from g.states g.keys 0) seen in
    subst (λ o. Answers o c.rows_of.result) same (rw (c.as_slice.ensures.value) at c.rows_of.ensures)

pub returns-clause-grouped : goal.returns-clause-grouped
returns-clause-grouped c = λ keys args stands long.
    let width = c.self.inside.width in
    let aggregates = (arc_value c.self.inside.aggregates).items in
    let shards = map arc_value c.self.inside.shards.items in
    let seen : all_of width aggregates shards ≡ c.args.self.now = c.self.view_is in
    let same : rows_in shards ≡ rows_from c.args.self.now.states c.args.self.now.keys 0 = rows_of_all width aggregates shards c.self.invariant ∙ ap (λ (g : Grouping). rows_from g.states g.keys 0) seen in
    IsGrouped-from c.args.self.now.width (map shape_of c.args.self.now.states) keys args (rows_from c.args.self.now.states c.args.self.now.keys 0) c.rows_of.result
    (Grouped-Stands keys args c.args.self.now stands long) (subst (λ o. Answers o c.rows_of.result) same (rw (c.as_slice.ensures.value) at c.rows_of.ensures))
