use Rattle.std.proofs.Common.{◌≡◌, ◌++◌, ◌∙◌, ℤ, Err, List, Vec, Global, ap, map, rules, subst, sym, w64, to_z, of_z}
use Rattle.std.proofs.lemmas.Int.{to_z-of_z}
use Rattle.kq_value.specs.Computed.{AnswersAs, Is, each}
use Rattle.kq_plan_expressions.specs.Terms.{Term, column, term_of}
use Rattle.kq_run_scan.specs.kq_eval_row.Val.{surroundings}
use Rattle.kq_plan.specs.Plans.{aggregating_of}
use Rattle.kq_value.specs.declared.value.Value.{Value}
use Rattle.kq_store_column_view.specs.Vectors.{cells_of}
use Rattle.kq_store_column_view.specs.declared.vector.Vector.{Vector}
use Rattle.kq_run_gather.specs.Grouping.{column_over, columns_taken, terms_read}
use Rattle.kq_run_gather.proofs.ArgumentColumns.{both_came, first_fails, second_fails}
use Rattle.kq_run_gather.proofs.grouping.arguments.Goals as goal

pub returns-in-Ok-all_columns : goal.returns-in-Ok-all_columns
returns-in-Ok-all_columns g c =
    let same : to_z w64 (of_z w64 c.args.now) ≡ c.args.now = search (rules, to_z-of_z) in
    let lets = c.args.lets.now in
    let rows = g.R.Relation.rows c.args.rows.now in
    let f = column_over (surroundings c.args.now lets) rows in
    let es = map term_of c.exprs_in.result.now in
    let js = map column c.columns_in.result.now in
    let us = map cells_of c.in-Ok.values.items in
    let vs = map cells_of c.in-Ok-all_columns.columns.items in
    let all = map cells_of c.in_ok-joined-in-Ok-all_columns.field-0.items in
    let first = subst (λ (z : ℤ). each (column_over (surroundings z lets) rows) es ≡ Is us) same c.in-Ok.ensures in
    let second = subst (λ (z : ℤ). each (column_over (surroundings z lets) rows) js ≡ Is vs) same c.in-Ok-all_columns.ensures in
    let terms : es ++ js ≡ terms_read (aggregating_of c.args.aggregate.now) = λ i. c.exprs_in.ensures i ++ map column (c.columns_in.ensures i) in
    subst (λ (ts : List Term). each f ts ≡ Is all) terms (both_came f es js us vs first second ∙ ap (λ (cs : List (List Value)). Is cs) (sym c.in_ok-joined-in-Ok-all_columns.ensures))

pub returns-in-Ok : goal.returns-in-Ok
returns-in-Ok g c =
    let same : to_z w64 (of_z w64 c.args.now) ≡ c.args.now = search (rules, to_z-of_z) in
    let lets = c.args.lets.now in
    let rows = g.R.Relation.rows c.args.rows.now in
    let f = column_over (surroundings c.args.now lets) rows in
    let es = map term_of c.exprs_in.result.now in
    let js = map column c.columns_in.result.now in
    let us = map cells_of c.in-Ok.values.items in
    let seen = λ (v : Vec Vector Global). map cells_of v.items in
    let met = c.in-Err-all_columns.fault in
    let first = subst (λ (z : ℤ). each (column_over (surroundings z lets) rows) es ≡ Is us) same c.in-Ok.ensures in
    let over = subst (λ (z : ℤ). AnswersAs seen (each (column_over (surroundings z lets) rows) js) (Err met)) same c.in-Err-all_columns.ensures in
    let terms : es ++ js ≡ terms_read (aggregating_of c.args.aggregate.now) = λ i. c.exprs_in.ensures i ++ map column (c.columns_in.ensures i) in
    subst (λ (ts : List Term). AnswersAs seen (each f ts) (Err met)) terms (second_fails f seen es js us met first over)

pub returns : goal.returns
returns g c =
    let same : to_z w64 (of_z w64 c.args.now) ≡ c.args.now = search (rules, to_z-of_z) in
    let lets = c.args.lets.now in
    let rows = g.R.Relation.rows c.args.rows.now in
    let f = column_over (surroundings c.args.now lets) rows in
    let a = aggregating_of c.args.aggregate.now in
    let es = map term_of c.exprs_in.result.now in
    let seen = λ (v : Vec Vector Global). map cells_of v.items in
    let met = c.in-Err.fault in
    let over = subst (λ (z : ℤ). AnswersAs seen (each (column_over (surroundings z lets) rows) es) (Err met)) same c.in-Err.ensures in
    subst (λ (ts : List Term). AnswersAs seen (each f ts) (Err met)) (λ i. c.exprs_in.ensures i ++ map column (columns_taken a)) (first_fails f seen es (map column (columns_taken a)) met over)
