use Rattle.std.proofs.Common.{rules, ◌++◌, codes}
use Rattle.kq_reply_print.specs.Text.{counted, why_text}
use Rattle.kq_world.proofs.Told.{Adds-trans}
use Rattle.kq_reply_print.proofs.Puts.{puts-then, puts-cut, puts-part}
use Rattle.kq_reply_print.proofs.write.put_policy.Goals as goal

pub returns-in_err-put_counted-clause-puts : goal.returns-in_err-put_counted-clause-puts
returns-in_err-put_counted-clause-puts g c = search (rules, puts-cut (g.K.Sink.accepted c.args.sink.now) (g.K.Sink.accepted c.put_counted.new.sink) ((counted (codes "BadPolicy entry ") c.args.entry) ++ (codes " ")) (why_text c.args.why) (puts-cut (g.K.Sink.accepted c.args.sink.now) (g.K.Sink.accepted c.put_counted.new.sink) (counted (codes "BadPolicy entry ") c.args.entry) (codes " ") c.in_err-put_counted.ensures.puts))

pub returns-in_err-put_all-clause-puts : goal.returns-in_err-put_all-clause-puts
returns-in_err-put_all-clause-puts g c = search (rules, puts-cut (g.K.Sink.accepted c.args.sink.now) (g.K.Sink.accepted c.put_all.new.sink) ((counted (codes "BadPolicy entry ") c.args.entry) ++ (codes " ")) (why_text c.args.why) (puts-part (g.K.Sink.accepted c.args.sink.now) (g.K.Sink.accepted c.put_counted.new.sink) (g.K.Sink.accepted c.put_all.new.sink) (counted (codes "BadPolicy entry ") c.args.entry) (codes " ") c.in_ok-put_counted.ensures.puts c.in_err-put_all.ensures.puts))

pub returns-clause-puts : goal.returns-clause-puts
returns-clause-puts g c = search (rules, puts-then (g.K.Sink.accepted c.args.sink.now) (g.K.Sink.accepted c.put_all.new.sink) (g.K.Sink.accepted c.put_why.new.sink) c.put_why.result ((counted (codes "BadPolicy entry ") c.args.entry) ++ (codes " ")) (why_text c.args.why) (Adds-trans (g.K.Sink.accepted c.args.sink.now) (g.K.Sink.accepted c.put_counted.new.sink) (g.K.Sink.accepted c.put_all.new.sink) (counted (codes "BadPolicy entry ") c.args.entry) (codes " ") c.in_ok-put_counted.ensures.puts c.in_ok-put_all.ensures.puts) c.put_why.ensures.puts)
