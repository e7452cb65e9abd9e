use Rattle.std.proofs.Common.{◌≡◌, ℤ, Err, Vec, Global, length, map, rules, subst, w64, to_z, of_z}
use Rattle.std.proofs.lemmas.Int.{to_z-of_z}
use Rattle.kq_value.specs.Computed.{AnswersAs, Is, each}
use Rattle.kq_run_groups.specs.Arguments.{rows_in}
use Rattle.kq_plan.specs.Plans.{aggregating_of}
use Rattle.kq_run_scan.specs.kq_eval_row.Val.{surroundings}
use Rattle.kq_store_column_view.specs.Vectors.{cells_of}
use Rattle.kq_store_column_view.specs.declared.vector.Vector.{Vector}
use Rattle.kq_run_gather.specs.Grouping.{column_over, terms_read}
use Rattle.kq_run_gather.proofs.ArgumentColumns.{columns_came, columns_fail}
use Rattle.kq_run_gather.proofs.grouping.row_argument.Goals as goal

pub returns-in-Ok : goal.returns-in-Ok
returns-in-Ok g c =
    let same : to_z w64 (of_z w64 c.args.now) ≡ c.args.now = search (rules, to_z-of_z) in
    let lets = c.args.lets.now in
    let rows = g.R.Relation.rows c.args.rows.now in
    let a = aggregating_of c.args.aggregate.now in
    let made = map cells_of c.in-Ok.columns.items in
    columns_came a (surroundings c.args.now lets) rows made (subst (λ (z : ℤ). each (column_over (surroundings z lets) rows) (terms_read a) ≡ Is made) same c.in-Ok.ensures)

pub returns-in-Err : goal.returns-in-Err
returns-in-Err g c =
    let same : to_z w64 (of_z w64 c.args.now) ≡ c.args.now = search (rules, to_z-of_z) in
    let lets = c.args.lets.now in
    let rows = g.R.Relation.rows c.args.rows.now in
    let a = aggregating_of c.args.aggregate.now in
    let see = rows_in (length rows) in
    let seen = λ (v : Vec Vector Global). map cells_of v.items in
    columns_fail seen see a (surroundings c.args.now lets) rows c.in-Err.fault (subst (λ (z : ℤ). AnswersAs seen (each (column_over (surroundings z lets) rows) (terms_read a)) (Err c.in-Err.fault)) same c.in-Err.ensures)
