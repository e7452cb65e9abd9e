use Rattle.std.proofs.Common.{◌≡◌, ◌-◌, length, refl, sym, arith}
use Rattle.std.proofs.lemmas.Option.{get_or_from_slice_get}
use Rattle.kq_export_csv.specs.Artefacts.{row_line}
use Rattle.kq_reply.proofs.Cut.{lines-more}
use Rattle.kq_export_csv.proofs.rows.row_lines.Goals as goal

pub loop-i-preserved : goal.loop-i-preserved
loop-i-preserved c =
    let row = sym (get_or_from_slice_get c.args.rows.now c.loop-i.i c.row.result.now c.row.result.now c.row.ensures) in
    let size : c.len-in-loop-i.result - c.len-before.result ≡ length c.put_row.new.text - length c.loop-i.bytes = rw (c.len-in-loop-i.ensures, c.len-before.ensures) refl in
    (c.in_ok-put_row.ensures.between, lines-more row_line c.args.rows.now c.loop-i.i c.row.result.now c.loop-i.bytes c.put_row.new.text c.loop-i.sizes.items c.push.new.self.items _ (omega arith) row c.loop-i.invariant.1 c.in_ok-put_row.ensures.text c.in_ok-push.ensures.items size)
