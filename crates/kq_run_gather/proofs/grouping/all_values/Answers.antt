use Rattle.std.proofs.Common.{◌≡◌, ◌+◌, ◌++◌, ◌∙◌, ◌∷◌, [], ℤ, List, Vec, Global, Err, ap, drop, map, rules, subst, sym, w64, to_z, of_z}
use Rattle.std.proofs.lemmas.Int.{to_z-of_z}
use Rattle.std.proofs.lemmas.List.{map-append}
use Rattle.std.proofs.lemmas.Result.{err_from_is_err_and}
use Rattle.kq_value.specs.Computed.{AnswersAs, Is, and_then, each}
use Rattle.kq_plan_expressions.specs.Terms.{term_of}
use Rattle.kq_run_scan.specs.kq_eval_row.Val.{surroundings}
use Rattle.kq_value.specs.declared.value.Value.{Value}
use Rattle.kq_store_column_view.specs.Vectors.{cells_of}
use Rattle.kq_store_column_view.specs.declared.vector.Vector.{Vector}
use Rattle.kq_run_gather.specs.Grouping.{column_over}
use Rattle.kq_run_gather.proofs.Arguments.{each_goes, each_stops}
use Rattle.kq_run_gather.proofs.KeyColumns.{seen_fails}
use Rattle.kq_run_gather.proofs.grouping.all_values.Goals as goal

pub returns-in_err-vector_over : goal.returns-in_err-vector_over
returns-in_err-vector_over g c =
    let same : to_z w64 (of_z w64 c.args.now) ≡ c.args.now = search (rules, to_z-of_z) in
    let lets = c.args.lets.now in
    let rows = g.R.Relation.rows c.args.rows.now in
    let all = c.args.exprs.now in
    let i = c.loop-expr.expr-index in
    let made = map cells_of c.loop-expr.columns.items in
    let one = c.expr-item.result in
    let met = c.in_err-vector_over.field-0.0 in
    let whole = subst (λ (z : ℤ). each (column_over (surroundings z lets) rows) (map term_of all) ≡ and_then (each (column_over (surroundings z lets) rows) (map term_of (drop i all))) (λ others. Is (made ++ others))) same c.loop-expr.invariant in
    let over = subst (λ (z : ℤ). AnswersAs cells_of (column_over (surroundings z lets) rows (term_of one)) (Err met)) same c.in_err-vector_over.ensures.values in
    let p = err_from_is_err_and c.from_residual-in_err-vector_over.result c.from_residual-in_err-vector_over.ensures.1 in
    rw (p.1, p.2) (each_stops (λ (v : Vec Vector Global). map cells_of v.items) term_of (column_over (surroundings c.args.now lets) rows) all i one made met c.loop-expr-test.true c.expr-item.is whole (seen_fails cells_of (column_over (surroundings c.args.now lets) rows (term_of one)) met over))

pub loop-expr-preserved : goal.loop-expr-preserved
loop-expr-preserved g c =
    let again = surroundings (to_z w64 (of_z w64 c.args.now)) c.args.lets.now in
    let rows = g.R.Relation.rows c.args.rows.now in
    let f = column_over again rows in
    let all = c.args.exprs.now in
    let i = c.loop-expr.expr-index in
    let had = c.loop-expr.columns.items in
    let a = c.in_ok-vector_over.field-0 in
    let one = c.expr-item.result in
    let more : map cells_of c.push.new.self.items ≡ map cells_of had ++ cells_of a ∷ [] = ap (map cells_of) c.in_ok-push.ensures.items ∙ map-append cells_of had (a ∷ []) in
    subst (λ (made : List (List Value)). each f (map term_of all) ≡ and_then (each f (map term_of (drop (i + 1) all))) (λ others. Is (made ++ others))) (sym more)
    (each_goes term_of f all i one (map cells_of had) (cells_of a) c.loop-expr-test.true c.expr-item.is c.loop-expr.invariant c.in_ok-vector_over.ensures.values)
