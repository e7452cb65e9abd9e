use Rattle.std.proofs.Common.{sym, arith}
use Rattle.std.proofs.lemmas.Option.{get_or_from_slice_get}
use Rattle.kq_export_csv.specs.Artefacts.{row_line}
use Rattle.kq_reply.proofs.Arranged.{ended-put}
use Rattle.kq_export_csv.proofs.rows.put_in_order.Goals as goal

pub loop-i-preserved : goal.loop-i-preserved
loop-i-preserved c =
    let row = sym (get_or_from_slice_get c.args.rows.now c.loop-i.i c.row.result.now c.row.result.now c.row.ensures) in
    (c.in_ok-put_row.ensures.between, ended-put row_line c.args.rows.now c.loop-i.i c.row.result.now c.args.text.now c.loop-i.text c.put_row.new.text c.push.new.self (omega arith) row c.loop-i.invariant.1 c.in_ok-put_row.ensures.text c.in_ok-push.ensures.ok)
