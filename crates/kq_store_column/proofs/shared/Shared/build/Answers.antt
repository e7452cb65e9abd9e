use Rattle.std.proofs.Common.{◌∙◌, sym, arith}
use Rattle.std.proofs.lemmas.List.{take_all}
use Rattle.kq_store_column.specs.Cells.{column_of}
use Rattle.kq_store_column.proofs.Cellwise.{length-column_of, take_got}
use Rattle.kq_store_column.proofs.shared.Shared.build.Goals as goal

pub loop-i-preserved : goal.loop-i-preserved
loop-i-preserved c =
    let cells = column_of c.args.column c.args.rows.now in
    let i = c.loop-i.i in
    let v = c.cell_at.result.now in
    rw (c.in_ok-push.ensures.items, c.in_ok-clone_in.ensures, c.loop-i.invariant) (sym (take_got cells i v c.cell_at.ensures))

pub returns : goal.returns
returns c =
    let cells = column_of c.args.column c.args.rows.now in
    c.loop-i.invariant ∙ take_all c.loop-i.i cells (omega (arith, length-column_of c.args.column c.args.rows.now))
