use Rattle.std.proofs.Common.{◌∙◌, ap, Some, sym}
use Rattle.std.specs.Arc.{arc_value}
use Rattle.kq_store_shared_lists.proofs.Rows.{StandsAt-get}
use Rattle.kq_store_shared_lists.proofs.queue.SharedQueue.get.Goals as goal

pub returns : goal.returns
returns g c =
    StandsAt-get arc_value c.args.self.now c.args.at c.part_from.result.now c.index-part_from-0.result c.requires c.part_from.ensures.some c.index-part_from-0.is c.part_from.ensures.items
    ∙ ap Some (sym c.deref.ensures)
