use Rattle.std.proofs.Common.{◌≡◌, ◌++◌, drop, map}
use Rattle.kq_value.specs.Computed.{Is, and_then, each}
use Rattle.kq_plan_expressions.specs.Terms.{column}
use Rattle.kq_store_column_view.specs.Vectors.{cells_of}
use Rattle.kq_run_scan.specs.kq_eval_row.Val.{surroundings}
use Rattle.kq_run_gather.specs.Grouping.{column_over}
use Rattle.kq_run_gather.proofs.grouping.all_columns.Given as goal

abbrev pub invariant-loop-number : goal.invariant-loop-number
invariant-loop-number g l =
    let f = column_over (surroundings l.now l.lets) (g.R.Relation.rows l.rows) in
    each f (map column l.numbers) ≡ and_then (each f (map column (drop l.number-index l.numbers))) (λ others. Is (map cells_of l.columns.items ++ others))
