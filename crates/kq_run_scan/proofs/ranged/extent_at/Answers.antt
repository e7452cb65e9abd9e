use Rattle.std.proofs.Common.{Some, ap, sym, ◌∙◌}
use Rattle.std.specs.Arc.{arc_value}
use Rattle.kq_store_extent.specs.Seen.{held_extents}
use Rattle.kq_store_extent.proofs.kq_store_shared_lists.Rows.{StandsAt-get}
use Rattle.kq_run_scan.proofs.ranged.extent_at.Goals as goal

pub returns : goal.returns
returns c =
    StandsAt-get arc_value (held_extents c.args.extents.now) c.args.at c.part_from.result.now c.index-part_from-0.result c.requires c.part_from.ensures.some c.index-part_from-0.is c.part_from.ensures.items
    ∙ ap Some (sym c.deref.ensures)
