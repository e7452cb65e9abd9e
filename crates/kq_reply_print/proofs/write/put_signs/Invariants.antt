use Rattle.std.proofs.Common.{◌≡◌, take}
use Rattle.kq_world.specs.Told.{Adds}
use Rattle.kq_value_formats.specs.Cells.{escaped}
use Rattle.kq_reply_print.proofs.write.put_signs.Given as goal

abbrev pub invariant-loop-byte : goal.invariant-loop-byte
invariant-loop-byte g l = record {
  out : Adds (g.K.Sink.accepted l.fn.sink) (g.K.Sink.accepted l.sink) (escaped (take l.byte-index l.name));
  faults : g.K.Sink.faults l.sink ≡ g.K.Sink.faults l.fn.sink;
}
