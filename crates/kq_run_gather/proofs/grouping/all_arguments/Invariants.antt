use Rattle.std.proofs.Common.{◌≡◌, ◌++◌, drop, length, map}
use Rattle.kq_value.specs.Computed.{Is, and_then, each}
use Rattle.kq_run_groups.specs.Arguments.{rows_given}
use Rattle.kq_plan.specs.Plans.{aggregating_of}
use Rattle.kq_run_scan.specs.kq_eval_row.Val.{surroundings}
use Rattle.kq_run_gather.specs.Grouping.{arguments_over}
use Rattle.kq_run_gather.proofs.grouping.all_arguments.Given as goal

abbrev pub invariant-loop-aggregate : goal.invariant-loop-aggregate
invariant-loop-aggregate g l =
    let f = arguments_over (surroundings l.now l.lets) (g.R.Relation.rows l.rows) in
    each f (map aggregating_of l.aggregates) ≡ and_then (each f (map aggregating_of (drop l.aggregate-index l.aggregates))) (λ others. Is (rows_given (length (g.R.Relation.rows l.rows)) l.args.items ++ others))
