use Rattle.std.proofs.Common.{◌≡◌, ◌∙◌, ℕ, ℤ, List, Vec, Global, Err, Ok, ap, length, map, rules, subst, sym, w64, to_z, of_z}
use Rattle.std.proofs.lemmas.Int.{to_z-of_z}
use Rattle.std.proofs.lemmas.List.{length-map}
use Rattle.std.specs.List.{All}
use Rattle.kq_plan_expressions.specs.Terms.{term_of}
use Rattle.kq_run_groups.specs.Arguments.{rows_given, rows_in}
use Rattle.kq_run_groups.specs.Columns.{HaveLength, rows_of}
use Rattle.kq_run_groups.specs.Groups.{AddsRows}
use Rattle.kq_run_groups.specs.declared.argument.Argument.{Argument}
use Rattle.kq_plan.specs.Plans.{aggregating_of}
use Rattle.kq_store_column_view.specs.Vectors.{cells_of}
use Rattle.kq_store_column_view.specs.declared.vector.Vector.{Vector}
use Rattle.kq_run_scan.specs.kq_eval_row.Val.{surroundings}
use Rattle.kq_run_gather.specs.Grouping.{ComeTo, arguments_over, column_over}
use Rattle.kq_run_scan.specs.kq_eval_pieces.Operators.{Row}
use Rattle.kq_run_gather.proofs.Arguments.{args_along, length-each}
use Rattle.kq_run_gather.proofs.KeyColumns.{columns_long, keys_came, keys_fail}
use Rattle.kq_run_gather.proofs.Regrouped.{args_lost, come_to, keys_lost}
use Rattle.kq_run_gather.proofs.grouping.add_by_columns.Goals as goal

pub add_columns-requires-clause-wide : goal.add_columns-requires-clause-wide
add_columns-requires-clause-wide g c =
    let again = surroundings (to_z w64 (of_z w64 c.args.now)) c.args.lets.now in
    let rows = g.R.Relation.rows c.args.piece.now in
    let es = map term_of c.args.keys.now in
    let columns = c.in-Ok.columns.items in
    c.requires.width ∙ sym (length-map c.args.keys.now term_of) ∙ sym (length-each (column_over again rows) es (map cells_of columns) c.in-Ok.ensures) ∙ length-map columns cells_of ∙ ap length (sym c.as_slice-columns.ensures.value)

pub add_columns-requires-clause-beside : goal.add_columns-requires-clause-beside
add_columns-requires-clause-beside g c =
    let again = surroundings (to_z w64 (of_z w64 c.args.now)) c.args.lets.now in
    let rows = g.R.Relation.rows c.args.piece.now in
    let es = map term_of c.args.keys.now in
    let columns = c.in-Ok.columns.items in
    subst (λ (those : List Vector). HaveLength c.len.result (map cells_of those)) (sym c.as_slice-columns.ensures.value)
    (subst (λ (n : ℕ). HaveLength n (map cells_of columns)) (sym c.len.ensures.count) (columns_long es again rows (map cells_of columns) c.in-Ok.ensures))

pub add_columns-requires-clause-each : goal.add_columns-requires-clause-each
add_columns-requires-clause-each g c =
    let again = surroundings (to_z w64 (of_z w64 c.args.now)) c.args.lets.now in
    let gs = map aggregating_of c.args.aggregates.now in
    let rows = g.R.Relation.rows c.args.piece.now in
    let args = c.in-Ok-all_arguments.args.items in
    ap length c.as_slice.ensures.value ∙ sym (length-map args (rows_in (length rows))) ∙ length-each (arguments_over again rows) gs (rows_given (length rows) args) c.in-Ok-all_arguments.ensures ∙ length-map c.args.aggregates.now aggregating_of ∙ sym c.requires.each

pub add_columns-requires-clause-along : goal.add_columns-requires-clause-along
add_columns-requires-clause-along g c =
    let again = surroundings (to_z w64 (of_z w64 c.args.now)) c.args.lets.now in
    let rows = g.R.Relation.rows c.args.piece.now in
    let args = c.in-Ok-all_arguments.args.items in
    let m = c.len.result in
    let many : m ≡ length rows = c.len.ensures.count in
    subst (λ (those : List Argument). All (λ (some : List Row). length some ≡ m) (rows_given m those)) (sym c.as_slice.ensures.value)
    (subst (λ (n : ℕ). All (λ (some : List Row). length some ≡ m) (rows_given n args)) (sym many)
    (args_along (map aggregating_of c.args.aggregates.now) again rows (rows_given (length rows) args) m many c.in-Ok-all_arguments.ensures))

pub returns-in-Ok : goal.returns-in-Ok
returns-in-Ok g c =
    let same : to_z w64 (of_z w64 c.args.now) ≡ c.args.now = search (rules, to_z-of_z) in
    let es = map term_of c.args.keys.now in
    let gs = map aggregating_of c.args.aggregates.now in
    let lets = c.args.lets.now in
    let rows = g.R.Relation.rows c.args.piece.now in
    let old = c.args.groups.now in
    let met = c.in-Err-all_arguments.fault in
    let again = surroundings (to_z w64 (of_z w64 c.args.now)) lets in
    let columns = map cells_of c.in-Ok.columns.items in
    subst (λ (z : ℤ). ComeTo es gs (surroundings z lets) rows old old (Err met)) same
    (args_lost (λ (v : Vec Argument Global). rows_given (length rows) v.items) es gs again rows (rows_of (length rows) columns) old old met (keys_came es again rows columns c.in-Ok.ensures) c.in-Err-all_arguments.ensures)

pub returns : goal.returns
returns g c =
    let same : to_z w64 (of_z w64 c.args.now) ≡ c.args.now = search (rules, to_z-of_z) in
    let es = map term_of c.args.keys.now in
    let gs = map aggregating_of c.args.aggregates.now in
    let lets = c.args.lets.now in
    let rows = g.R.Relation.rows c.args.piece.now in
    let old = c.args.groups.now in
    let again = surroundings (to_z w64 (of_z w64 c.args.now)) lets in
    subst (λ (z : ℤ). ComeTo es gs (surroundings z lets) rows old old (Err c.in-Err.fault)) same
    (keys_lost es gs again rows old old c.in-Err.fault (keys_fail (λ (v : Vec Vector Global). map cells_of v.items) es again rows c.in-Err.fault c.in-Err.ensures))

pub returns-in-Ok-all_arguments : goal.returns-in-Ok-all_arguments
returns-in-Ok-all_arguments g c =
    let same : to_z w64 (of_z w64 c.args.now) ≡ c.args.now = search (rules, to_z-of_z) in
    let es = map term_of c.args.keys.now in
    let gs = map aggregating_of c.args.aggregates.now in
    let lets = c.args.lets.now in
    let rows = g.R.Relation.rows c.args.piece.now in
    let old = c.args.groups.now in
    let new = c.add_columns.new.self in
    let args = c.in-Ok-all_arguments.args.items in
    let again = surroundings (to_z w64 (of_z w64 c.args.now)) lets in
    let columns = c.in-Ok.columns.items in
    let keys = rows_of (length rows) (map cells_of columns) in
    let adds : AddsRows keys (rows_given (length rows) args) old new =
    subst (λ (n : ℕ). AddsRows (rows_of n (map cells_of columns)) (rows_given n args) old new) c.len.ensures.count
    (subst (λ (cs : List Vector). AddsRows (rows_of c.len.result (map cells_of cs)) (rows_given c.len.result args) old new) c.as_slice-columns.ensures.value
    (subst (λ (those : List Argument). AddsRows (rows_of c.len.result (map cells_of c.as_slice-columns.result.now)) (rows_given c.len.result those) old new) c.as_slice.ensures.value c.in_ok-add_columns-in-Ok-all_arguments.ensures)) in
    subst (λ (z : ℤ). ComeTo es gs (surroundings z lets) rows old new (Ok tt)) same (come_to es gs again rows keys (rows_given (length rows) args) old new (keys_came es again rows (map cells_of columns) c.in-Ok.ensures) c.in-Ok-all_arguments.ensures adds)
