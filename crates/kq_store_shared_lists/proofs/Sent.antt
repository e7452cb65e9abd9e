-- A list or a queue of items that may go to other threads and be shared by them may do both too.
-- A piece holds pieces by handles, which ask that what they hold may do both, so the lemmas on a piece have both premises.
use denote.RattleType.{RattleType}
use denote.Param.Send.{IsSend, IsSync, sendable}
use Rattle.std.proofs.Crossing.{crosses}
use Rattle.kq_store_shared_lists.proofs.piece.Piece.TheLaws.TheKnot as knot
use Rattle.kq_store_shared_lists.specs.contracts.piece.Piece as piece
use Rattle.kq_store_shared_lists.specs.contracts.parts.Part as part
use Rattle.kq_store_shared_lists.specs.contracts.list.SharedList as list
use Rattle.kq_store_shared_lists.specs.contracts.list.SharedList.TheInside as list_inside
use Rattle.kq_store_shared_lists.specs.contracts.queue.SharedQueue as queue
use Rattle.kq_store_shared_lists.specs.contracts.queue.SharedQueue.TheInside as queue_inside

piece_send : (T : RattleType) → IsSend T → IsSync T → IsSend (piece.the_field T).row
piece_send T send sync = knot.both_send-Piece T (search crosses) (search crosses) (λ h s y. search crosses) (λ h s y. search crosses) (search sendable) (search sendable)

piece_sync : (T : RattleType) → IsSend T → IsSync T → IsSync (piece.the_field T).row
piece_sync T send sync = knot.both_sync-Piece T (search crosses) (search crosses) (λ h s y. search crosses) (λ h s y. search crosses) (search sendable) (search sendable)

part_send : (T : RattleType) → IsSend T → IsSync T → IsSend (part.the_row T)
part_send T send sync = search (piece_send, piece_sync, sendable, crosses) depth 40 fits 5000

part_sync : (T : RattleType) → IsSend T → IsSync T → IsSync (part.the_row T)
part_sync T send sync = search (piece_send, piece_sync, sendable, crosses) depth 40 fits 5000

inside_send : (T : RattleType) → IsSend T → IsSync T → IsSend (list_inside.the_row T)
inside_send T send sync = search (part_send, sendable, crosses) depth 40 fits 5000

inside_sync : (T : RattleType) → IsSend T → IsSync T → IsSync (list_inside.the_row T)
inside_sync T send sync = search (part_sync, sendable, crosses) depth 40 fits 5000

pub list_send : (T : RattleType) → IsSend T → IsSync T → IsSend (list.the_row T)
list_send T send sync = search (inside_send, sendable) depth 40 fits 5000

pub list_sync : (T : RattleType) → IsSend T → IsSync T → IsSync (list.the_row T)
list_sync T send sync = search (inside_sync, sendable) depth 40 fits 5000

queue_inside_send : (T : RattleType) → IsSend T → IsSync T → IsSend (queue_inside.the_row T)
queue_inside_send T send sync = search (list_send, sendable) depth 40 fits 5000

queue_inside_sync : (T : RattleType) → IsSend T → IsSync T → IsSync (queue_inside.the_row T)
queue_inside_sync T send sync = search (list_sync, sendable) depth 40 fits 5000

pub queue_send : (T : RattleType) → IsSend T → IsSync T → IsSend (queue.the_row T)
queue_send T send sync = search (queue_inside_send, sendable) depth 40 fits 5000

pub queue_sync : (T : RattleType) → IsSend T → IsSync T → IsSync (queue.the_row T)
queue_sync T send sync = search (queue_inside_sync, sendable) depth 40 fits 5000
