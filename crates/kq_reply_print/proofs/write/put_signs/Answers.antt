use Rattle.std.proofs.Common.{rules, ◌+◌, ◌++◌, get_or, take, drop, sym, subst}
use Rattle.kq_value_formats.specs.Cells.{escaped, escaped_byte}
use Rattle.kq_reply_print.proofs.Escapes.{escaped-at}
use Rattle.kq_reply_print.proofs.Puts.{IsCut, puts-part, puts-cut}
use Rattle.kq_reply_print.proofs.write.put_signs.Goals as goal

pub returns-in_err-put_escape-clause-puts : goal.returns-in_err-put_escape-clause-puts
returns-in_err-put_escape-clause-puts g c =
    let name = c.args.name.now in
    let i = c.loop-byte.byte-index in
    let old = g.K.Sink.accepted c.args.sink.now in
    let mid = g.K.Sink.accepted c.loop-byte.sink in
    let new = g.K.Sink.accepted c.put_escape.new.sink in
    let sign = escaped_byte (get_or name i 0) in
    let before = escaped (take i name) in
    let rest = escaped (drop (i + 1) name) in
    let part : IsCut old new (before ++ sign ++ rest) =
    puts-cut old new (before ++ sign) rest (puts-part old mid new before sign c.loop-byte.invariant.out c.in_err-put_escape.ensures.puts) in
    let whole : IsCut old new (escaped name) =
    subst (IsCut old new) (sym (escaped-at name i c.loop-byte-test.true)) part in
    search (rules, whole)
