use Rattle.std.proofs.Common.{◌∙◌, rules}
use Rattle.std.proofs.lemmas.Result.{IfOk-weaker}
use Rattle.kq_run_sort.proofs.Gathered.{column_cell, column_past}
use Rattle.kq_run_sort.proofs.columns.cell_in.Goals as goal

pub returns-then-j-len : goal.returns-then-j-len
returns-then-j-len c =
    let same = column_cell c.args.part.now c.args.j c.args.i c.index.result.now (search rules) c.index.ensures in
    IfOk-weaker c.cell.result _ _ (λ v is. is ∙ same) c.cell.ensures

pub returns-else-j-len : goal.returns-else-j-len
returns-else-j-len c = column_past c.args.part.now c.args.j c.args.i (search rules)
