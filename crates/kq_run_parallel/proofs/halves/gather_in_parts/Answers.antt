use denote.Param.Send.{sendable}
use Rattle.std.proofs.Crossing.{crosses}
use Rattle.kq_run_parallel.proofs.Crossing.{arrived_send, asked_sync}
use Rattle.kq_run_parallel.proofs.halves.gather_in_parts.Goals as goal

pub halves-requires-sync-T : goal.halves-requires-sync-T
halves-requires-sync-T g c κs within = search (asked_sync, sendable, crosses) depth 60 fits 20000

pub halves-requires-send-T-Got : goal.halves-requires-send-T-Got
halves-requires-send-T-Got g c κs within = search (arrived_send, sendable, crosses) depth 60 fits 20000
