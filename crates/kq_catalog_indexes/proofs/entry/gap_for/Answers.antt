use Rattle.kq_catalog_indexes.proofs.Indexed.{none_stands}
use Rattle.kq_catalog_indexes.proofs.entry.gap_for.Goals as goal

pub unreachable-requires : goal.unreachable-requires
unreachable-requires c = none_stands c.args.entries.now c.args.name.now c.in-Ok.field-0 c.requires.absent c.in-Ok.ensures.found
