use Rattle.std.proofs.Common.{rules, ◌++◌, codes}
use Rattle.kq_value_formats.specs.Cells.{escaped}
use Rattle.kq_reply_print.specs.Text.{cause_text}
use Rattle.kq_world.proofs.Told.{Adds-trans}
use Rattle.kq_reply_print.proofs.Puts.{puts-then, puts-cut, puts-part}
use Rattle.kq_reply_print.proofs.write.put_failed.Goals as goal

pub returns-in_err-put_named-clause-puts : goal.returns-in_err-put_named-clause-puts
returns-in_err-put_named-clause-puts g c = search (rules, puts-cut (g.K.Sink.accepted c.args.sink.now) (g.K.Sink.accepted c.put_named.new.sink) ((codes "PolicyFailed target " ++ escaped c.args.target.now) ++ (codes " cause ")) (cause_text c.args.cause) (puts-cut (g.K.Sink.accepted c.args.sink.now) (g.K.Sink.accepted c.put_named.new.sink) (codes "PolicyFailed target " ++ escaped c.args.target.now) (codes " cause ") c.in_err-put_named.ensures.puts))

pub returns-in_err-put_all-clause-puts : goal.returns-in_err-put_all-clause-puts
returns-in_err-put_all-clause-puts g c = search (rules, puts-cut (g.K.Sink.accepted c.args.sink.now) (g.K.Sink.accepted c.put_all.new.sink) ((codes "PolicyFailed target " ++ escaped c.args.target.now) ++ (codes " cause ")) (cause_text c.args.cause) (puts-part (g.K.Sink.accepted c.args.sink.now) (g.K.Sink.accepted c.put_named.new.sink) (g.K.Sink.accepted c.put_all.new.sink) (codes "PolicyFailed target " ++ escaped c.args.target.now) (codes " cause ") c.in_ok-put_named.ensures.puts c.in_err-put_all.ensures.puts))

pub returns-clause-puts : goal.returns-clause-puts
returns-clause-puts g c = search (rules, puts-then (g.K.Sink.accepted c.args.sink.now) (g.K.Sink.accepted c.put_all.new.sink) (g.K.Sink.accepted c.put_cause.new.sink) c.put_cause.result ((codes "PolicyFailed target " ++ escaped c.args.target.now) ++ (codes " cause ")) (cause_text c.args.cause) (Adds-trans (g.K.Sink.accepted c.args.sink.now) (g.K.Sink.accepted c.put_named.new.sink) (g.K.Sink.accepted c.put_all.new.sink) (codes "PolicyFailed target " ++ escaped c.args.target.now) (codes " cause ") c.in_ok-put_named.ensures.puts c.in_ok-put_all.ensures.puts) c.put_cause.ensures.puts)
