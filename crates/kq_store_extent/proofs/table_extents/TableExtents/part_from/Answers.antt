use Rattle.std.proofs.Common.{◌≡◌, ◌+◌, ◌-◌, ◌<◌, length, map, ap, subst, arith, length-append}
use Rattle.std.specs.Arc.{arc_value}
use Rattle.kq_store_shared_lists.specs.Standing.{StandsAt}
use Rattle.kq_store_shared_lists.proofs.Rows.{StandsAt-left, StandsAt-right}
use Rattle.kq_store_extent.specs.Seen.{HeldExtents, held_extents}
use Rattle.kq_store_extent.proofs.table_extents.TableExtents.part_from.Goals as goal

pub part_from-requires : goal.part_from-requires
part_from-requires c = omega (arith, c.if-at-small.true, c.len-small.ensures.count)

pub part_from-requires-else-at-small : goal.part_from-requires-else-at-small
part_from-requires-else-at-small c =
    let v = ap (λ (h : HeldExtents). length (held_extents h)) c.self.view_is in
    let n = length-append c.self.inside.small c.self.inside.big in
    omega (arith, v, n, c.requires, c.if-at-small.false, c.len-small.ensures.count)

pub returns-then-at-small-clause-items : goal.returns-then-at-small-clause-items
returns-then-at-small-clause-items c =
    let within : c.args.at < length c.self.inside.small = omega (arith, c.if-at-small.true, c.len-small.ensures.count) in
    subst (λ (h : HeldExtents). StandsAt (held_extents h) c.args.at (map arc_value c.part_from.result.now)) c.self.view_is
    (StandsAt-left c.self.inside.small c.self.inside.big c.args.at (map arc_value c.part_from.result.now) within c.part_from.ensures.items)

pub returns-else-at-small-clause-items : goal.returns-else-at-small-clause-items
returns-else-at-small-clause-items c =
    let part = map arc_value c.part_from-else-at-small.result.now in
    let there : length c.self.inside.small + (c.args.at - c.len-small.result) ≡ c.args.at = omega (arith, c.if-at-small.false, c.len-small.ensures.count) in
    subst (λ (h : HeldExtents). StandsAt (held_extents h) c.args.at part) c.self.view_is
    (StandsAt-right c.self.inside.small c.self.inside.big c.args.at (c.args.at - c.len-small.result) part there c.part_from-else-at-small.ensures.items)
