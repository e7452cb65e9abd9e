use Rattle.std.proofs.Common.{◌≡◌, ℤ, rules, subst, w64, to_z, of_z}
use Rattle.std.proofs.lemmas.Int.{to_z-of_z}
use Rattle.kq_value.specs.Computed.{AnswersAs}
use Rattle.kq_plan_expressions.specs.Terms.{Term, term_of}
use Rattle.kq_plan_expressions.specs.declared.expr.Expr.TheVariants.{Column}
use Rattle.kq_run_scan.specs.kq_eval_row.Val.{surroundings}
use Rattle.kq_store_column_view.specs.Vectors.{cells_of}
use Rattle.kq_run_gather.specs.Grouping.{column_over}
use Rattle.kq_run_gather.proofs.ArgumentColumns.{term_of_column}
use Rattle.kq_run_gather.proofs.grouping.one_column.Goals as goal

pub returns : goal.returns
returns g c =
    let same : to_z w64 (of_z w64 c.args.now) ≡ c.args.now = search (rules, to_z-of_z) in
    let lets = c.args.lets.now in
    let rows = g.R.Relation.rows c.args.rows.now in
    let n = c.args.number in
    subst (λ (t : Term). AnswersAs cells_of (column_over (surroundings c.args.now lets) rows t) c.vector_over.result) (term_of_column n)
    (subst (λ (z : ℤ). AnswersAs cells_of (column_over (surroundings z lets) rows (term_of (Column n))) c.vector_over.result) same c.vector_over.ensures.values)
