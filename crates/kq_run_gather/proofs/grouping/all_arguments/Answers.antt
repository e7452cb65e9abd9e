use Rattle.std.proofs.Common.{◌≡◌, ◌+◌, ◌++◌, ◌∙◌, ◌∷◌, [], ℤ, List, Vec, Global, Err, ap, drop, length, map, rules, subst, sym, w64, to_z, of_z}
use Rattle.std.proofs.lemmas.Int.{to_z-of_z}
use Rattle.std.proofs.lemmas.List.{map-append}
use Rattle.std.proofs.lemmas.Result.{err_from_is_err_and}
use Rattle.kq_value.specs.Computed.{Answers, Is, and_then, each}
use Rattle.kq_run_groups.specs.Arguments.{rows_given, rows_in}
use Rattle.kq_run_groups.specs.declared.argument.Argument.{Argument}
use Rattle.kq_plan.specs.Plans.{aggregating_of}
use Rattle.kq_run_scan.specs.kq_eval_row.Val.{surroundings}
use Rattle.kq_run_gather.specs.Grouping.{arguments_over}
use Rattle.kq_run_scan.specs.kq_eval_pieces.Operators.{Row}
use Rattle.kq_run_gather.proofs.Arguments.{each_goes, each_stops}
use Rattle.kq_run_gather.proofs.grouping.all_arguments.Goals as goal

pub returns-in_err-argument : goal.returns-in_err-argument
returns-in_err-argument g c =
    let same : to_z w64 (of_z w64 c.args.now) ≡ c.args.now = search (rules, to_z-of_z) in
    let lets = c.args.lets.now in
    let rows = (g.R.Relation.rows c.args.rows.now) in
    let all = c.args.aggregates.now in
    let i = c.loop-aggregate.aggregate-index in
    let made = rows_given (length rows) c.loop-aggregate.args.items in
    let one = c.aggregate-item.result in
    let met = c.in_err-argument.field-0.0 in
    let whole = subst (λ (z : ℤ). each (arguments_over (surroundings z lets) rows) (map aggregating_of all) ≡ and_then (each (arguments_over (surroundings z lets) rows) (map aggregating_of (drop i all))) (λ others. Is (made ++ others))) same c.loop-aggregate.invariant in
    let over = subst (λ (z : ℤ). Answers (arguments_over (surroundings z lets) rows (aggregating_of one)) (Err met)) same c.in_err-argument.ensures in
    let p = err_from_is_err_and c.from_residual-in_err-argument.result c.from_residual-in_err-argument.ensures.1 in
    rw (p.1, p.2) (each_stops (λ (v : Vec Argument Global). rows_given (length rows) v.items) aggregating_of (arguments_over (surroundings c.args.now lets) rows) all i one made met c.loop-aggregate-test.true c.aggregate-item.is whole over)

pub loop-aggregate-preserved : goal.loop-aggregate-preserved
loop-aggregate-preserved g c =
    let again = surroundings (to_z w64 (of_z w64 c.args.now)) c.args.lets.now in
    let rows = (g.R.Relation.rows c.args.rows.now) in
    let n = length rows in
    let f = arguments_over again rows in
    let all = c.args.aggregates.now in
    let i = c.loop-aggregate.aggregate-index in
    let had = c.loop-aggregate.args.items in
    let a = c.in_ok-argument.field-0 in
    let one = c.aggregate-item.result in
    let more : rows_given n c.push.new.self.items ≡ rows_given n had ++ rows_in n a ∷ [] = ap (rows_given n) c.in_ok-push.ensures.items ∙ map-append (rows_in n) had (a ∷ []) in
    subst (λ (made : List (List Row)). each f (map aggregating_of all) ≡ and_then (each f (map aggregating_of (drop (i + 1) all))) (λ others. Is (made ++ others))) (sym more)
    (each_goes aggregating_of f all i one (rows_given n had) (rows_in n a) c.loop-aggregate-test.true c.aggregate-item.is c.loop-aggregate.invariant c.in_ok-argument.ensures)
