-- Extents, drafts and the extents of a table may go to other threads, and many threads may share them.
use denote.Param.Send.{IsSend, IsSync, sendable}
use Rattle.std.proofs.Crossing.{crosses}
use Rattle.kq_store_column.proofs.Sent.{column_send, column_sync}
use Rattle.kq_store_shared_lists.proofs.Sent.{list_send, list_sync, queue_send, queue_sync}
use Rattle.kq_store_shared_lists.specs.contracts.list.SharedList as list
use Rattle.kq_store_shared_lists.specs.contracts.queue.SharedQueue as queue
use Rattle.kq_store_extent.specs.contracts.extent.Extent as extent
use Rattle.kq_store_extent.specs.contracts.draft.Draft as draft
use Rattle.kq_store_extent.specs.contracts.table_extents.TableExtents as held
use Rattle.kq_store_extent.specs.contracts.recorded.RecordedRows as recorded
use Rattle.kq_store_extent.proofs.seen.Seen.TheLaws.TheKnot as knot

pub recorded_send : IsSend recorded.the_row
recorded_send = search (knot.crosses, crosses, sendable) depth 60 fits 20000

pub recorded_sync : IsSync recorded.the_row
recorded_sync = search (knot.crosses, crosses, sendable) depth 60 fits 20000

pub extent_send : IsSend extent.the_row
extent_send = search (column_send, sendable, crosses) depth 40 fits 5000

pub extent_sync : IsSync extent.the_row
extent_sync = search (column_sync, sendable, crosses) depth 40 fits 5000

pub draft_send : IsSend draft.the_row
draft_send = search (column_send, recorded_send, sendable, crosses) depth 40 fits 5000

pub draft_sync : IsSync draft.the_row
draft_sync = search (column_sync, recorded_sync, sendable, crosses) depth 40 fits 5000

small_send : IsSend (queue.the_row extent.the_row)
small_send = queue_send extent.the_row extent_send extent_sync

small_sync : IsSync (queue.the_row extent.the_row)
small_sync = queue_sync extent.the_row extent_send extent_sync

big_send : IsSend (list.the_row extent.the_row)
big_send = list_send extent.the_row extent_send extent_sync

big_sync : IsSync (list.the_row extent.the_row)
big_sync = list_sync extent.the_row extent_send extent_sync

pub held_send : IsSend held.the_row
held_send = search (small_send, big_send, sendable, crosses) depth 40 fits 5000

pub held_sync : IsSync held.the_row
held_sync = search (small_sync, big_sync, sendable, crosses) depth 40 fits 5000
