use Rattle.std.proofs.Common.{◌≡◌, ℕ, Some, length, slice_get, ap, sym, ◌∙◌, arith}
use Rattle.kq_store_rows.specs.Chunks.{row_at}
use Rattle.kq_eval_pieces.proofs.Filled.{cell_next, cells_end}
use Rattle.kq_eval_pieces.proofs.copy.copy_row.Goals as goal

pub loop-cell-preserved : goal.loop-cell-preserved
loop-cell-preserved g c =
    let r = row_at (g.R.Relation.rows c.args.relation.now) c.args.i in
    let row = c.loop-cell.row.items in
    let n : c.len.result ≡ length row = omega (arith, c.len.ensures) in
    let got : slice_get r (length row) ≡ Some c.in-Some.cell = ap (λ (k : ℕ). slice_get r k) (sym n) ∙ sym c.in_ok-cell.ensures ∙ c.in-Some.is in
    rw c.in_ok-push.ensures.items (cell_next r row c.in-Some.cell c.loop-cell.invariant got)

pub returns : goal.returns
returns g c =
    let r = row_at (g.R.Relation.rows c.args.relation.now) c.args.i in
    let row = c.loop-cell.row.items in
    let n : c.len.result ≡ length row = omega (arith, c.len.ensures) in
    let is : c.in_ok-cell.field-0 ≡ slice_get r (length row) = c.in_ok-cell.ensures ∙ ap (λ (k : ℕ). slice_get r k) n in
    cells_end r row c.in_ok-cell.field-0 c.loop-cell.invariant is c.in_default.not-Some
