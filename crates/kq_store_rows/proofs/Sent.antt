-- Recorded rows may go to another thread, and many threads may share them.
use denote.Param.Send.{IsSend, IsSync, sendable}
use Rattle.std.proofs.Crossing.{crosses}
use Rattle.kq_store_rows.proofs.seen.Seen.TheLaws.TheKnot as knot
use Rattle.kq_store_rows.specs.contracts.recorded.RecordedRows as recorded

pub recorded_send : IsSend recorded.the_row
recorded_send = search (knot.crosses, crosses, sendable) depth 60 fits 20000

pub recorded_sync : IsSync recorded.the_row
recorded_sync = search (knot.crosses, crosses, sendable) depth 60 fits 20000
