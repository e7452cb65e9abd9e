use denote.Param.Send.{sendable}
use Rattle.std.proofs.Crossing.{crosses}
use Rattle.kq_run_parallel.proofs.Crossing.{counted_send, counting_sync}
use Rattle.kq_run_parallel.proofs.counted.count_in_parts.Goals as goal

pub halves-requires-sync-T : goal.halves-requires-sync-T
halves-requires-sync-T g c κs within = search (counting_sync, sendable, crosses) depth 60 fits 20000

pub halves-requires-send-T-Got : goal.halves-requires-send-T-Got
halves-requires-send-T-Got g c κs within = search (counted_send, sendable, crosses) depth 60 fits 20000
