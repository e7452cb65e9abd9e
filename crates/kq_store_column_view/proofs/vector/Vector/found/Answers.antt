use Rattle.kq_store_column_view.proofs.vector.Vector.found.Goals as goal

pub returns-in-Longs : goal.returns-in-Longs
returns-in-Longs c = rw (c.in-Longs.is, ← c.deref.ensures.value) c.longs_at.ensures

pub returns-in-Moments : goal.returns-in-Moments
returns-in-Moments c = rw (c.in-Moments.is, ← c.deref-in-Moments.ensures.value) c.moments_at.ensures

pub returns-in-Spans : goal.returns-in-Spans
returns-in-Spans c = rw (c.in-Spans.is, ← c.deref-in-Spans.ensures.value) c.spans_at.ensures

pub returns-in-Truths : goal.returns-in-Truths
returns-in-Truths c = rw (c.in-Truths.is, ← c.deref-in-Truths.ensures.value) c.truths_at.ensures
