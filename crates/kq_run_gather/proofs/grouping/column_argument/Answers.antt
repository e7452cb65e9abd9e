use Rattle.std.proofs.Common.{◌≡◌, ℤ, Err, length, rules, subst, w64, to_z, of_z}
use Rattle.std.proofs.lemmas.Int.{to_z-of_z}
use Rattle.kq_value.specs.Computed.{AnswersAs}
use Rattle.kq_plan_expressions.specs.Terms.{term_of}
use Rattle.kq_run_groups.specs.Arguments.{rows_in}
use Rattle.kq_store_column_view.specs.Vectors.{cells_of}
use Rattle.kq_run_scan.specs.kq_eval_row.Val.{surroundings}
use Rattle.kq_run_gather.specs.Grouping.{one_argument}
use Rattle.kq_run_gather.proofs.Arguments.{alone_fails}
use Rattle.kq_run_gather.proofs.grouping.column_argument.Goals as goal

pub returns-in-Err : goal.returns-in-Err
returns-in-Err g c =
    let same : to_z w64 (of_z w64 c.args.now) ≡ c.args.now = search (rules, to_z-of_z) in
    let e = term_of c.args.expr.now in
    let lets = c.args.lets.now in
    let rows = g.R.Relation.rows c.args.rows.now in
    let see = rows_in (length rows) in
    subst (λ (z : ℤ). AnswersAs see (one_argument e (surroundings z lets) rows) (Err c.in-Err.fault)) same (alone_fails cells_of see e (surroundings (to_z w64 (of_z w64 c.args.now)) lets) rows c.in-Err.fault c.in-Err.ensures.values)
