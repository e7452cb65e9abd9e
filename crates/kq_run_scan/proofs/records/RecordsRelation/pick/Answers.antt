use Rattle.std.proofs.Common.{◌≡◌, IfOk, IfSome, List, length, rules, subst}
use Rattle.std.proofs.lemmas.List.{length-map}
use Rattle.kq_value.specs.declared.value.Value.{Value}
use Rattle.kq_store_column_view.specs.Vectors.{cells_of}
use Rattle.kq_run_scan.specs.Lent.{extent_of, rows_of}
use Rattle.kq_run_scan.proofs.Picked.{picked_rows}
use Rattle.kq_run_scan.proofs.records.RecordsRelation.pick.Goals as goal

pub returns : goal.returns
returns c =
    let rows = rows_of (extent_of c.args.self.now) in
    let long : c.len.result ≡ length rows = search (rules, length-map) in
    subst (λ (cells : List Value). IfOk c.pick_cells.result (λ o. IfSome o (λ v. cells_of v ≡ cells)))
    (picked_rows rows c.args.j c.len.result c.args.places.now (cells_of c.in_ok-whole.whole) long c.in_ok-whole.ensures) c.pick_cells.ensures
