use Rattle.std.proofs.Common.{◌≡◌, ℤ, Err, Result, length, rules, subst, w64, to_z, of_z}
use Rattle.std.proofs.lemmas.Int.{to_z-of_z}
use Rattle.kq_value.specs.Computed.{Answers, AnswersAs}
use Rattle.kq_plan_expressions.specs.Terms.{term_of}
use Rattle.kq_run_groups.specs.Arguments.{rows_in}
use Rattle.kq_plan.specs.Plans.{aggregating_of}
use Rattle.kq_run_scan.specs.kq_eval_row.Val.{surroundings}
use Rattle.kq_run_gather.specs.Grouping.{arguments_over, one_argument}
use Rattle.kq_run_gather.proofs.Arguments.{none_taken}
use Rattle.kq_run_gather.proofs.grouping.other_argument.Goals as goal

pub returns-in-Count : goal.returns-in-Count
returns-in-Count g c = rw c.in-Count.is (none_taken (surroundings c.args.now c.args.lets.now) (g.R.Relation.rows c.args.rows.now))

pub returns-in_default : goal.returns-in_default
returns-in_default g c =
    let same : to_z w64 (of_z w64 c.args.now) ≡ c.args.now = search (rules, to_z-of_z) in
    let lets = c.args.lets.now in
    let rows = g.R.Relation.rows c.args.rows.now in
    let a = aggregating_of c.args.aggregate.now in
    let see = rows_in (length rows) in
    let again = surroundings (to_z w64 (of_z w64 c.args.now)) lets in
    subst (λ (z : ℤ). AnswersAs see (arguments_over (surroundings z lets) rows a) c.row_argument.result) same c.row_argument.ensures
