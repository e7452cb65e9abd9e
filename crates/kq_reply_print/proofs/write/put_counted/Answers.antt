use Rattle.std.proofs.Common.{◌≡◌, rules, subst, sym}
use Rattle.std.specs.Prelude.{decimal}
use Rattle.kq_world.specs.Outside.{PutsAll}
use Rattle.kq_reply_print.proofs.Puts.{puts-then, puts-cut}
use Rattle.kq_reply_print.proofs.write.put_counted.Goals as goal

pub returns-in_err-put_all-clause-puts : goal.returns-in_err-put_all-clause-puts
returns-in_err-put_all-clause-puts g c =
    search (rules, puts-cut (g.K.Sink.accepted c.args.sink.now) (g.K.Sink.accepted c.put_all.new.sink) c.args.words.now (decimal c.args.n) c.in_err-put_all.ensures.puts)

pub returns-clause-puts : goal.returns-clause-puts
returns-clause-puts g c =
    let printed : decimal c.args.n ≡ c.as_bytes.result.now = search (rules, c.as_bytes.ensures.value, c.format.ensures.text) in
    let digits : PutsAll (g.K.Sink.accepted c.put_all.new.sink) (g.K.Sink.accepted c.put_all-2.new.sink) c.put_all-2.result (decimal c.args.n) =
    subst (PutsAll (g.K.Sink.accepted c.put_all.new.sink) (g.K.Sink.accepted c.put_all-2.new.sink) c.put_all-2.result) (sym printed) c.put_all-2.ensures.puts in
    search (rules, puts-then (g.K.Sink.accepted c.args.sink.now) (g.K.Sink.accepted c.put_all.new.sink) (g.K.Sink.accepted c.put_all-2.new.sink) c.put_all-2.result c.args.words.now (decimal c.args.n) c.in_ok-put_all.ensures.puts digits)
