use Rattle.std.proofs.Common.{◌∙◌, arith}
use Rattle.std.proofs.lemmas.List.{take_all}
use Rattle.kq_store_column.specs.Cells.{column_of}
use Rattle.kq_store_column.proofs.Cellwise.{length-column_of}
use Rattle.kq_store_column.proofs.Coded.{coded_more, known_more}
use Rattle.kq_store_column.proofs.dictionary.Dictionary.build.Goals as goal

pub loop-i-preserved : goal.loop-i-preserved
loop-i-preserved c =
    let cells = column_of c.args.column c.args.rows.now in
    let words = c.loop-i.words.items in
    let codes = c.loop-i.codes.items in
    let v = c.cell_at.result.now in
    let inv = c.loop-i.invariant in
    let kept = c.in_ok-code.ensures.words in
    let got = c.in_ok-code.ensures.code in
    rw c.in_ok-push.ensures.items (record {
      known = known_more words _ codes c.in_ok-code.code v kept inv.known got;
      cells = coded_more words _ codes c.in_ok-code.code cells c.loop-i.i v kept inv.known inv.cells got c.cell_at.ensures;
    })

pub returns : goal.returns
returns c =
    let cells = column_of c.args.column c.args.rows.now in
    c.loop-i.invariant.cells ∙ take_all c.loop-i.i cells (omega (arith, length-column_of c.args.column c.args.rows.now))
