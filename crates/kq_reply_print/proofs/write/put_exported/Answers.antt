use Rattle.std.proofs.Common.{rules, ◌++◌, codes}
use Rattle.kq_reply_print.specs.Text.{counted}
use Rattle.kq_world.proofs.Told.{Adds-trans}
use Rattle.kq_reply_print.proofs.Puts.{puts-then, puts-cut, puts-part}
use Rattle.kq_reply_print.proofs.write.put_exported.Goals as goal

pub returns-in_err-put_counted-clause-puts : goal.returns-in_err-put_counted-clause-puts
returns-in_err-put_counted-clause-puts g c = search (rules, puts-cut (g.K.Sink.accepted c.args.sink.now) (g.K.Sink.accepted c.put_counted.new.sink) ((counted (codes "exported ") c.args.from) ++ (counted (codes " ") c.args.to)) (counted (codes " rows ") c.args.rows) (puts-cut (g.K.Sink.accepted c.args.sink.now) (g.K.Sink.accepted c.put_counted.new.sink) (counted (codes "exported ") c.args.from) (counted (codes " ") c.args.to) c.in_err-put_counted.ensures.puts))

pub returns-in_err-put_counted-2-clause-puts : goal.returns-in_err-put_counted-2-clause-puts
returns-in_err-put_counted-2-clause-puts g c = search (rules, puts-cut (g.K.Sink.accepted c.args.sink.now) (g.K.Sink.accepted c.put_counted-2.new.sink) ((counted (codes "exported ") c.args.from) ++ (counted (codes " ") c.args.to)) (counted (codes " rows ") c.args.rows) (puts-part (g.K.Sink.accepted c.args.sink.now) (g.K.Sink.accepted c.put_counted.new.sink) (g.K.Sink.accepted c.put_counted-2.new.sink) (counted (codes "exported ") c.args.from) (counted (codes " ") c.args.to) c.in_ok-put_counted.ensures.puts c.in_err-put_counted-2.ensures.puts))

pub returns-clause-puts : goal.returns-clause-puts
returns-clause-puts g c = search (rules, puts-then (g.K.Sink.accepted c.args.sink.now) (g.K.Sink.accepted c.put_counted-2.new.sink) (g.K.Sink.accepted c.put_counted-3.new.sink) c.put_counted-3.result ((counted (codes "exported ") c.args.from) ++ (counted (codes " ") c.args.to)) (counted (codes " rows ") c.args.rows) (Adds-trans (g.K.Sink.accepted c.args.sink.now) (g.K.Sink.accepted c.put_counted.new.sink) (g.K.Sink.accepted c.put_counted-2.new.sink) (counted (codes "exported ") c.args.from) (counted (codes " ") c.args.to) c.in_ok-put_counted.ensures.puts c.in_ok-put_counted-2.ensures.puts) c.put_counted-3.ensures.puts)
