use Rattle.std.proofs.Common.{◌≡◌, ◌++◌, drop, map}
use Rattle.kq_value.specs.Computed.{Is, and_then, each}
use Rattle.kq_plan_expressions.specs.Terms.{term_of}
use Rattle.kq_store_column_view.specs.Vectors.{cells_of}
use Rattle.kq_run_scan.specs.kq_eval_row.Val.{surroundings}
use Rattle.kq_run_gather.specs.Grouping.{column_over}
use Rattle.kq_run_gather.proofs.grouping.all_values.Given as goal

abbrev pub invariant-loop-expr : goal.invariant-loop-expr
invariant-loop-expr g l =
    let f = column_over (surroundings l.now l.lets) (g.R.Relation.rows l.rows) in
    each f (map term_of l.exprs) ≡ and_then (each f (map term_of (drop l.expr-index l.exprs))) (λ others. Is (map cells_of l.columns.items ++ others))
