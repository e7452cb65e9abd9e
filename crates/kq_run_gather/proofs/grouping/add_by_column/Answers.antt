use Rattle.std.proofs.Common.{◌≡◌, ◌∷◌, [], ℤ, Err, map, rules, subst, w64, to_z, of_z}
use Rattle.std.proofs.lemmas.Int.{to_z-of_z}
use Rattle.kq_plan_expressions.specs.Terms.{term_of}
use Rattle.kq_plan.specs.Plans.{aggregating_of}
use Rattle.kq_store_column_view.specs.Vectors.{cells_of}
use Rattle.kq_run_scan.specs.kq_eval_row.Val.{surroundings}
use Rattle.kq_run_gather.specs.Grouping.{ComeTo}
use Rattle.kq_run_gather.proofs.Arguments.{value_fails}
use Rattle.kq_run_gather.proofs.Regrouped.{keys_lost}
use Rattle.kq_run_gather.proofs.grouping.add_by_column.Goals as goal

pub returns-in-Err : goal.returns-in-Err
returns-in-Err g c =
    let same : to_z w64 (of_z w64 c.args.now) ≡ c.args.now = search (rules, to_z-of_z) in
    let e = term_of c.args.key.now in
    let gs = map aggregating_of c.args.aggregates.now in
    let lets = c.args.lets.now in
    let rows = g.R.Relation.rows c.args.piece.now in
    let old = c.args.groups.now in
    let again = surroundings (to_z w64 (of_z w64 c.args.now)) lets in
    subst (λ (z : ℤ). ComeTo (e ∷ []) gs (surroundings z lets) rows old old (Err c.in-Err.fault)) same
    (keys_lost (e ∷ []) gs again rows old old c.in-Err.fault (value_fails cells_of e again rows c.in-Err.fault c.in-Err.ensures.values))

pub returns-in-Ok : goal.returns-in-Ok
returns-in-Ok g c =
    let same : to_z w64 (of_z w64 c.args.now) ≡ c.args.now = search (rules, to_z-of_z) in
    let e = term_of c.args.key.now in
    let gs = map aggregating_of c.args.aggregates.now in
    let lets = c.args.lets.now in
    let rows = g.R.Relation.rows c.args.piece.now in
    subst (λ (z : ℤ). ComeTo (e ∷ []) gs (surroundings z lets) rows c.args.groups.now c.add_by_values.new.groups c.add_by_values.result) same (c.add_by_values.ensures e c.in-Ok.ensures.values)
