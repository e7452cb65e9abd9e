use Rattle.std.proofs.Common.{ap, ◌∙◌}
use Rattle.std.proofs.lemmas.Result.{IfOk-weaker}
use Rattle.kq_store_column_view.specs.Vectors.{cell_of}
use Rattle.kq_run_sort.specs.Orders.{Row}
use Rattle.kq_run_sort.proofs.Spots.{row_of_part}
use Rattle.kq_run_sort.proofs.columns.cell_at.Goals as goal

pub returns : goal.returns
returns c =
    let same = row_of_part c.args.parts.now c.args.spot c.index-parts-spot.result c.requires c.index-parts-spot.is in
    IfOk-weaker c.cell_in.result _ _ (λ v is. is ∙ ap (λ (r : Row). cell_of r c.args.j) same) c.cell_in.ensures
