use Rattle.kq_store_column_view.proofs.vector.Vector.found_lent.Goals as goal

pub returns-in-Words : goal.returns-in-Words
returns-in-Words c = rw c.in-Words.is c.words_at.ensures

pub returns-in-Picked : goal.returns-in-Picked
returns-in-Picked c = rw (c.in-Picked.is, ← c.deref.ensures.value) c.words_at-in-Picked.ensures

pub returns-in-Placed : goal.returns-in-Placed
returns-in-Placed c = rw (c.in-Placed.is, ← c.deref-in-Placed.ensures.value) c.places_at.ensures

pub returns-in-Parts : goal.returns-in-Parts
returns-in-Parts c = rw (c.in-Parts.is, ← c.deref-in-Parts.ensures.value) c.parts_among.ensures

pub returns-in-Bags : goal.returns-in-Bags
returns-in-Bags c = rw (c.in-Bags.is, ← c.deref-in-Bags.ensures.value) c.bags_at.ensures
