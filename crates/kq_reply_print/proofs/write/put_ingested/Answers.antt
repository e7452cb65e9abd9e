use Rattle.std.proofs.Common.{rules, codes}
use Rattle.kq_reply_print.specs.Text.{counted}
use Rattle.kq_reply_print.proofs.Puts.{puts-then, puts-cut}
use Rattle.kq_reply_print.proofs.write.put_ingested.Goals as goal

pub returns-in_err-put_counted-clause-puts : goal.returns-in_err-put_counted-clause-puts
returns-in_err-put_counted-clause-puts g c = search (rules, puts-cut (g.K.Sink.accepted c.args.sink.now) (g.K.Sink.accepted c.put_counted.new.sink) (counted (codes "ingested ") c.args.cursor) (counted (codes " rows ") c.args.rows) c.in_err-put_counted.ensures.puts)

pub returns-clause-puts : goal.returns-clause-puts
returns-clause-puts g c = search (rules, puts-then (g.K.Sink.accepted c.args.sink.now) (g.K.Sink.accepted c.put_counted.new.sink) (g.K.Sink.accepted c.put_counted-2.new.sink) c.put_counted-2.result (counted (codes "ingested ") c.args.cursor) (counted (codes " rows ") c.args.rows) c.in_ok-put_counted.ensures.puts c.put_counted-2.ensures.puts)
