use Rattle.std.proofs.Common.{◌≡◌, ◌<◌, ◌+◌, ◌++◌, ◌∙◌, ◌∷◌, [], ℕ, ℤ, List, Vec, Global, Err, ap, drop, get_or, length, map, rules, subst, sym, w64, to_z, of_z}
use Rattle.std.proofs.lemmas.Int.{to_z-of_z}
use Rattle.std.proofs.lemmas.List.{get_or_default, map-append}
use Rattle.std.proofs.lemmas.Result.{err_from_is_err_and}
use Rattle.kq_value.specs.Computed.{AnswersAs, Is, and_then, each}
use Rattle.kq_plan_expressions.specs.Terms.{column}
use Rattle.kq_run_scan.specs.kq_eval_row.Val.{surroundings}
use Rattle.kq_value.specs.declared.value.Value.{Value}
use Rattle.kq_store_column_view.specs.Vectors.{cells_of}
use Rattle.kq_store_column_view.specs.declared.vector.Vector.{Vector}
use Rattle.kq_run_gather.specs.Grouping.{column_over}
use Rattle.kq_run_gather.proofs.Arguments.{each_goes, each_stops}
use Rattle.kq_run_gather.proofs.KeyColumns.{seen_fails}
use Rattle.kq_run_gather.proofs.grouping.all_columns.Goals as goal

pub returns-in_err-one_column : goal.returns-in_err-one_column
returns-in_err-one_column g c =
    let same : to_z w64 (of_z w64 c.args.now) ≡ c.args.now = search (rules, to_z-of_z) in
    let lets = c.args.lets.now in
    let rows = g.R.Relation.rows c.args.rows.now in
    let all = c.args.numbers.now in
    let i = c.loop-number.number-index in
    let within : i < length all = c.loop-number-test.true in
    let made = map cells_of c.loop-number.columns.items in
    let one : ℕ = get_or all i 0 in
    let at : one ≡ get_or all i one = sym (get_or_default all i one 0 within) in
    let met = c.in_err-one_column.field-0.0 in
    let whole = subst (λ (z : ℤ). each (column_over (surroundings z lets) rows) (map column all) ≡ and_then (each (column_over (surroundings z lets) rows) (map column (drop i all))) (λ others. Is (made ++ others))) same c.loop-number.invariant in
    let over = subst (λ (z : ℤ). AnswersAs cells_of (column_over (surroundings z lets) rows (column one)) (Err met)) same c.in_err-one_column.ensures in
    let p = err_from_is_err_and c.from_residual-in_err-one_column.result c.from_residual-in_err-one_column.ensures.1 in
    rw (p.1, p.2) (each_stops (λ (v : Vec Vector Global). map cells_of v.items) column (column_over (surroundings c.args.now lets) rows) all i one made met within at whole (seen_fails cells_of (column_over (surroundings c.args.now lets) rows (column one)) met over))

pub loop-number-preserved : goal.loop-number-preserved
loop-number-preserved g c =
    let again = surroundings (to_z w64 (of_z w64 c.args.now)) c.args.lets.now in
    let rows = g.R.Relation.rows c.args.rows.now in
    let f = column_over again rows in
    let all = c.args.numbers.now in
    let i = c.loop-number.number-index in
    let within : i < length all = c.loop-number-test.true in
    let had = c.loop-number.columns.items in
    let a = c.in_ok-one_column.field-0 in
    let one : ℕ = get_or all i 0 in
    let at : one ≡ get_or all i one = sym (get_or_default all i one 0 within) in
    let more : map cells_of c.push.new.self.items ≡ map cells_of had ++ cells_of a ∷ [] = ap (map cells_of) c.in_ok-push.ensures.items ∙ map-append cells_of had (a ∷ []) in
    subst (λ (made : List (List Value)). each f (map column all) ≡ and_then (each f (map column (drop (i + 1) all))) (λ others. Is (made ++ others))) (sym more)
    (each_goes column f all i one (map cells_of had) (cells_of a) within at c.loop-number.invariant c.in_ok-one_column.ensures)
