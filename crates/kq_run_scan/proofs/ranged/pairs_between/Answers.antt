use Rattle.std.proofs.Common.{List, length, map, ap, sym, ◌∙◌, arith}
use Rattle.kq_store_extent.specs.Seen.{HeldExtents, held_extents}
use Rattle.kq_run_row_operators.specs.kq_eval_pieces.Operators.{Row}
use Rattle.kq_run_scan.specs.Lent.{rows_of}
use Rattle.kq_run_scan.specs.Pairs.{sources_beside}
use Rattle.kq_run_scan.specs.Unread.{rows_among}
use Rattle.kq_run_scan.proofs.InRange.{few_made, held_made, long_parts}
use Rattle.kq_run_scan.proofs.ranged.pairs_between.Goals as goal

pub over-requires : goal.over-requires
over-requires c =
    long_parts c.args.schema c.in_ok-others.others c.args.above c.args.to c.args.extents c.in_ok-parts.parts.items c.in_ok-parts.ensures
    ∙ ap (λ (held : HeldExtents). length (held_extents held)) (sym c.new-2.ensures)

pub unreachable-requires : goal.unreachable-requires
unreachable-requires c =
    let few = few_made c.args.schema c.in_ok-others.others c.args.above c.args.to c.args.extents c.in_ok-parts.parts.items c.in_ok-parts.ensures in
    omega (arith, few, c.in-None.ensures.none, c.requires)

pub returns : goal.returns
returns c =
    let others = c.in_ok-others.others in
    let parts = c.in_ok-parts.parts.items in
    ap (λ (sources : List (List Row)). rows_among sources) c.in-Some.ensures.some
    ∙ (λ t. rows_among (sources_beside (c.len-width.ensures.count t) 0 others (map rows_of (held_extents (c.new-2.ensures t))) (map (λ pairs. pairs.items) parts)))
    ∙ held_made c.args.schema others c.args.above c.args.to c.args.extents parts c.in_ok-parts.ensures
