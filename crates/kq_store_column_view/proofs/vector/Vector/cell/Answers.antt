use Rattle.kq_store_column_view.proofs.vector.Vector.cell.Goals as goal

pub returns-in-Parts : goal.returns-in-Parts
returns-in-Parts c = rw (c.in-Parts.is, ← c.deref-in-Parts.ensures.value) c.part_at.ensures
