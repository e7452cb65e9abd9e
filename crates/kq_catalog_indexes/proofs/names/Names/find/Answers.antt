use Rattle.std.proofs.Common.{sym}
use Rattle.kq_catalog_indexes.proofs.Indexed.{gap_place}
use Rattle.kq_catalog_indexes.proofs.names.Names.find.Goals as goal

pub returns-in-Err : goal.returns-in-Err
returns-in-Err c =
    let held = c.self.inside in
    rw (sym c.self.view_is) (sym (gap_place held.names.items held.entries.items c.args.name.now c.in-Err.field-0 c.self.invariant (rw c.as_slice.ensures.value at c.in-Err.ensures.gap)))
