use Rattle.std.proofs.Common.{◌≡◌, ◌++◌, ◌≤◌, drop, length}
use Rattle.kq_eval_columns.specs.Choices.{merged}
use Rattle.kq_store_column_view.specs.Vectors.{cells_of}
use Rattle.kq_eval_columns.proofs.choices.merged_cells.Given as goal

abbrev pub invariant-loop-k : goal.invariant-loop-k
invariant-loop-k l =
    let ys = cells_of l.y in
    let zs = cells_of l.z in
    (merged l.tests ys zs ≡ l.all.items ++ merged (drop l.k l.tests) (drop l.i ys) (drop l.j zs)) × (l.i ≤ length ys) × (l.j ≤ length zs)
