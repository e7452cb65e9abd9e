use Rattle.std.proofs.Common.{rules, codes}
use Rattle.kq_reply_print.specs.Text.{refusal_text}
use Rattle.kq_reply_print.proofs.Puts.{puts-then, puts-cut}
use Rattle.kq_reply_print.proofs.write.put_refused.Goals as goal

pub returns-in_err-put_all-clause-puts : goal.returns-in_err-put_all-clause-puts
returns-in_err-put_all-clause-puts g c = search (rules, puts-cut (g.K.Sink.accepted c.args.sink.now) (g.K.Sink.accepted c.put_all.new.sink) (codes "refused ") (refusal_text c.args.refusal.now) c.in_err-put_all.ensures.puts)

pub returns-clause-puts : goal.returns-clause-puts
returns-clause-puts g c = search (rules, puts-then (g.K.Sink.accepted c.args.sink.now) (g.K.Sink.accepted c.put_all.new.sink) (g.K.Sink.accepted c.put_refusal.new.sink) c.put_refusal.result (codes "refused ") (refusal_text c.args.refusal.now) c.in_ok-put_all.ensures.puts c.put_refusal.ensures.puts)
