use Rattle.std.proofs.Common.{◌≡◌, take, map}
use Rattle.std.specs.Arc.{arc_value}
use Rattle.kq_store_shared_lists.proofs.piece.shared_handles.Given as goal

abbrev pub invariant-loop-handle : goal.invariant-loop-handle
invariant-loop-handle g l = map arc_value l.all.items ≡ map arc_value (take l.handle-index l.handles)
