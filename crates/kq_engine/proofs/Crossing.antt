-- The engine may be shared with another thread, and a pass may go to one, since its catalogue may.
use denote.Param.Send.{IsSend, IsSync, sendable}
use Rattle.std.proofs.Crossing.{crosses}
use Rattle.kq_lock.proofs.turn.Turn.TheSendSync as turn
use Rattle.kq_lock.proofs.pass.Pass.TheSendSync as pass
use Rattle.kq_catalog_journal.proofs.limits.Limits.TheSendSync as limits
use Rattle.kq_catalog.proofs.Sent.{catalog_send}
use Rattle.kq_engine.specs.contracts.shared.Shared as Shared
use Rattle.kq_engine.specs.contracts.shared.Shared.TheInside as Inside
use Rattle.kq_engine.specs.contracts.shared.Pass as Pass

inside_sync : IsSync Inside.the_row
inside_sync = search (turn.the_sync, limits.the_field_sync, catalog_send, sendable, crosses) depth 60 fits 20000

pub shared_sync : IsSync Shared.the_row
shared_sync = search (inside_sync, sendable) depth 60 fits 20000

pub pass_send : IsSend Pass.the_row
pass_send = search (pass.the_send, catalog_send, sendable) depth 20 fits 5000
