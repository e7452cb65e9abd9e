use Rattle.std.proofs.Common.{rules, codes, subst}
use Rattle.kq_reply_print.specs.Text.{words_of, lines_of}
use Rattle.kq_reply_print.proofs.OneLine.{one-line}
use Rattle.kq_reply_print.proofs.Puts.{IsCut, puts-then, puts-cut, puts-as}
use Rattle.kq_reply_print.proofs.write.put_lines.Goals as goal

pub returns-in_err-put_words-clause-puts : goal.returns-in_err-put_words-clause-puts
returns-in_err-put_words-clause-puts g c =
    let old = g.K.Sink.accepted c.args.sink.now in
    let new = g.K.Sink.accepted c.put_words.new.sink in
    let part : IsCut old new (lines_of c.args.reply.now) =
    subst (IsCut old new) (one-line c.args.reply.now c.in_default.not-Rows) (puts-cut old new (words_of c.args.reply.now) (codes "\n") c.in_err-put_words.ensures.puts) in
    search (rules, part)

pub returns-clause-puts : goal.returns-clause-puts
returns-clause-puts g c =
    let old = g.K.Sink.accepted c.args.sink.now in
    let mid = g.K.Sink.accepted c.put_words.new.sink in
    let new = g.K.Sink.accepted c.put_all-2.new.sink in
    puts-as old new c.put_all-2.result _ _ (one-line c.args.reply.now c.in_default.not-Rows)
    (puts-then old mid new c.put_all-2.result (words_of c.args.reply.now) (codes "\n") c.in_ok-put_words.ensures.puts c.put_all-2.ensures.puts)
