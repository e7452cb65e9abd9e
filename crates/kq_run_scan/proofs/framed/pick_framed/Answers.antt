use Rattle.std.proofs.Common.{◌≡◌, IfOk, IfSome, List, subst}
use Rattle.kq_value.specs.declared.value.Value.{Value}
use Rattle.kq_store_column_view.specs.Vectors.{cells_of}
use Rattle.kq_run_scan.proofs.Picked.{picked_rows}
use Rattle.kq_run_scan.proofs.framed.pick_framed.Goals as goal

pub returns-in-Some : goal.returns-in-Some
returns-in-Some c =
    subst (λ (cells : List Value). IfOk c.pick_cells.result (λ o. IfSome o (λ v. cells_of v ≡ cells)))
    (picked_rows c.args.frame.now c.args.j c.len.result c.args.places.now (cells_of c.in-Some.whole) c.len.ensures.count c.in-Some.ensures) c.pick_cells.ensures
