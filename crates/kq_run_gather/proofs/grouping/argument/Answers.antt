use Rattle.std.proofs.Common.{◌≡◌, ℤ, Err, Result, length, rules, sym, subst, w64, to_z, of_z}
use Rattle.std.proofs.lemmas.Int.{to_z-of_z}
use Rattle.kq_value.specs.Computed.{Answers, AnswersAs}
use Rattle.kq_plan_expressions.specs.Terms.{term_of}
use Rattle.kq_run_groups.specs.Arguments.{rows_in}
use Rattle.kq_plan.specs.Plans.{aggregating_of}
use Rattle.kq_run_scan.specs.kq_eval_row.Val.{surroundings}
use Rattle.kq_run_gather.specs.Grouping.{arguments_over, one_argument}
use Rattle.kq_run_gather.proofs.Arguments.{taken_alone}
use Rattle.kq_run_gather.proofs.grouping.argument.Goals as goal

pub returns-in-Some : goal.returns-in-Some
returns-in-Some g c =
    let same : to_z w64 (of_z w64 c.args.now) ≡ c.args.now = search (rules, to_z-of_z) in
    let lets = c.args.lets.now in
    let rows = g.R.Relation.rows c.args.rows.now in
    let a = aggregating_of c.args.aggregate.now in
    let see = rows_in (length rows) in
    let again = surroundings (to_z w64 (of_z w64 c.args.now)) lets in
    let e = term_of c.in-Some.expr.now in
    subst (λ (z : ℤ). AnswersAs see (arguments_over (surroundings z lets) rows a) c.column_argument.result) same
    (subst (λ d. AnswersAs see d c.column_argument.result) (sym (taken_alone a e again rows c.in-Some.ensures)) c.column_argument.ensures)

pub returns-in-None : goal.returns-in-None
returns-in-None g c =
    let same : to_z w64 (of_z w64 c.args.now) ≡ c.args.now = search (rules, to_z-of_z) in
    let lets = c.args.lets.now in
    let rows = g.R.Relation.rows c.args.rows.now in
    let a = aggregating_of c.args.aggregate.now in
    let see = rows_in (length rows) in
    let again = surroundings (to_z w64 (of_z w64 c.args.now)) lets in
    subst (λ (z : ℤ). AnswersAs see (arguments_over (surroundings z lets) rows a) c.other_argument.result) same c.other_argument.ensures
