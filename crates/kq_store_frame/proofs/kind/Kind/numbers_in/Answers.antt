use Rattle.kq_store_frame.proofs.kind.Kind.numbers_in.Goals as goal

pub returns-in-Long : goal.returns-in-Long
returns-in-Long c = rw c.in-Long.is c.longs.ensures

pub returns-in-Moment : goal.returns-in-Moment
returns-in-Moment c = rw c.in-Moment.is c.moments.ensures

pub returns-in-Span : goal.returns-in-Span
returns-in-Span c = rw c.in-Span.is c.spans.ensures
