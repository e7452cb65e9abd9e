use Rattle.std.proofs.Common.{◌≡◌, length}
use Rattle.kq_value_formats.specs.Cells.{escaped}
use Rattle.kq_reply_print.proofs.Puts.{HasRest}
use Rattle.kq_reply_print.proofs.write.put_escaped.Given as goal

abbrev pub invariant-loop-rest : goal.invariant-loop-rest
invariant-loop-rest g l = record {
  has : HasRest (escaped l.name) (escaped l.rest) (g.K.Sink.accepted l.fn.sink) (g.K.Sink.accepted l.sink);
  faults : g.K.Sink.faults l.sink ≡ g.K.Sink.faults l.fn.sink;
}

abbrev pub decreases-loop-rest : goal.decreases-loop-rest
decreases-loop-rest g l = length l.rest
