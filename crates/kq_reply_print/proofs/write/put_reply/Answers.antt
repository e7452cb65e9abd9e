use Rattle.std.proofs.Common.{rules, codes}
use Rattle.kq_reply_print.specs.Text.{lines_of}
use Rattle.kq_reply_print.proofs.Puts.{puts-then, puts-cut}
use Rattle.kq_reply_print.proofs.write.put_reply.Goals as goal

pub returns-in_err-put_lines-clause-puts : goal.returns-in_err-put_lines-clause-puts
returns-in_err-put_lines-clause-puts g c = search (rules, puts-cut (g.K.Sink.accepted c.args.sink.now) (g.K.Sink.accepted c.put_lines.new.sink) (lines_of c.args.reply.now) (codes "\n") c.in_err-put_lines.ensures.puts)

pub returns-clause-puts : goal.returns-clause-puts
returns-clause-puts g c = search (rules, puts-then (g.K.Sink.accepted c.args.sink.now) (g.K.Sink.accepted c.put_lines.new.sink) (g.K.Sink.accepted c.put_all.new.sink) c.put_all.result (lines_of c.args.reply.now) (codes "\n") c.in_ok-put_lines.ensures.puts c.put_all.ensures.puts)
