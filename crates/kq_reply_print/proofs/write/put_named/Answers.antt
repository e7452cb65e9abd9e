use Rattle.std.proofs.Common.{◌∙◌, rules, ap, ◌≡◌}
use Rattle.kq_value_formats.specs.Cells.{escaped}
use Rattle.kq_reply_print.proofs.Puts.{puts-then, puts-cut, puts-as}
use Rattle.kq_reply_print.proofs.write.put_named.Goals as goal

pub returns-in_err-put_all-clause-puts : goal.returns-in_err-put_all-clause-puts
returns-in_err-put_all-clause-puts g c =
    search (rules, puts-cut (g.K.Sink.accepted c.args.sink.now) (g.K.Sink.accepted c.put_all.new.sink) c.args.words.now (escaped c.args.name.now) c.in_err-put_all.ensures.puts)

pub returns-clause-puts : goal.returns-clause-puts
returns-clause-puts g c =
    let same : escaped c.as_bytes.result.now ≡ escaped c.args.name.now = ap escaped (c.as_bytes.ensures.value ∙ c.as_str.ensures) in
    puts-then (g.K.Sink.accepted c.args.sink.now) (g.K.Sink.accepted c.put_all.new.sink) (g.K.Sink.accepted c.put_escaped.new.sink) c.put_escaped.result c.args.words.now (escaped c.args.name.now) c.in_ok-put_all.ensures.puts
    (puts-as (g.K.Sink.accepted c.put_all.new.sink) (g.K.Sink.accepted c.put_escaped.new.sink) c.put_escaped.result _ _ same c.put_escaped.ensures.puts)
