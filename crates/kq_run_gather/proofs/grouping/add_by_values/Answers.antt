use Rattle.std.proofs.Common.{◌≡◌, ◌∙◌, ◌∷◌, [], ℕ, ℤ, List, Vec, Global, Err, Ok, ap, length, map, rules, subst, sym, w64, to_z, of_z}
use Rattle.std.proofs.lemmas.Int.{to_z-of_z}
use Rattle.std.proofs.lemmas.List.{length-map}
use Rattle.std.specs.List.{All}
use Rattle.kq_run_aggregates.specs.Alone.{each_alone}
use Rattle.kq_value.specs.Computed.{Is, each}
use Rattle.kq_run_groups.specs.Arguments.{rows_given, rows_in}
use Rattle.kq_run_groups.specs.Groups.{AddsRows}
use Rattle.kq_run_groups.specs.declared.argument.Argument.{Argument}
use Rattle.kq_plan.specs.Plans.{aggregating_of}
use Rattle.kq_store_column_view.specs.Vectors.{cells_of}
use Rattle.kq_run_scan.specs.kq_eval_row.Val.{meaning, surroundings}
use Rattle.kq_run_gather.specs.Grouping.{ComeTo, arguments_over}
use Rattle.kq_run_scan.specs.kq_eval_pieces.Operators.{Row, values_at}
use Rattle.kq_run_gather.proofs.Arguments.{alone_came, args_along, length-each, one_value}
use Rattle.kq_run_gather.proofs.Regrouped.{args_lost, come_to}
use Rattle.kq_run_gather.proofs.grouping.add_by_values.Goals as goal

pub add_column-requires-clause-each : goal.add_column-requires-clause-each
add_column-requires-clause-each g c =
    let again = surroundings (to_z w64 (of_z w64 c.args.now)) c.args.lets.now in
    let gs = map aggregating_of c.args.aggregates.now in
    let rows = g.R.Relation.rows c.args.piece.now in
    let args = c.in-Ok.args.items in
    ap length c.as_slice.ensures.value ∙ sym (length-map args (rows_in (length rows))) ∙ length-each (arguments_over again rows) gs (rows_given (length rows) args) c.in-Ok.ensures ∙ length-map c.args.aggregates.now aggregating_of ∙ sym c.requires.each

pub add_column-requires-clause-along : goal.add_column-requires-clause-along
add_column-requires-clause-along g c =
    let again = surroundings (to_z w64 (of_z w64 c.args.now)) c.args.lets.now in
    let rows = g.R.Relation.rows c.args.piece.now in
    let args = c.in-Ok.args.items in
    let m = length (cells_of c.args.values.now) in
    let many : m ≡ length rows = c.requires.along in
    subst (λ (those : List Argument). All (λ (some : List Row). length some ≡ m) (rows_given m those)) (sym c.as_slice.ensures.value)
    (subst (λ (n : ℕ). All (λ (some : List Row). length some ≡ m) (rows_given n args)) (sym many)
    (args_along (map aggregating_of c.args.aggregates.now) again rows (rows_given (length rows) args) m many c.in-Ok.ensures))

pub returns-in-Err : goal.returns-in-Err
returns-in-Err g c e values =
    let same : to_z w64 (of_z w64 c.args.now) ≡ c.args.now = search (rules, to_z-of_z) in
    let gs = map aggregating_of c.args.aggregates.now in
    let lets = c.args.lets.now in
    let rows = g.R.Relation.rows c.args.piece.now in
    let old = c.args.groups.now in
    let met = c.in-Err.fault in
    let again = surroundings (to_z w64 (of_z w64 c.args.now)) lets in
    let cells = cells_of c.args.values.now in
    let is : each (meaning e again) rows ≡ Is cells = subst (λ (z : ℤ). each (meaning e (surroundings z lets)) rows ≡ Is cells) (sym same) values in
    let came : each (values_at (e ∷ []) again) rows ≡ Is (each_alone cells) = one_value e again rows ∙ alone_came e again rows cells is in
    subst (λ (z : ℤ). ComeTo (e ∷ []) gs (surroundings z lets) rows old old (Err met)) same
    (args_lost (λ (v : Vec Argument Global). rows_given (length rows) v.items) (e ∷ []) gs again rows (each_alone cells) old old met came c.in-Err.ensures)

pub returns-in_ok-add_column-in-Ok : goal.returns-in_ok-add_column-in-Ok
returns-in_ok-add_column-in-Ok g c e values =
    let same : to_z w64 (of_z w64 c.args.now) ≡ c.args.now = search (rules, to_z-of_z) in
    let gs = map aggregating_of c.args.aggregates.now in
    let lets = c.args.lets.now in
    let rows = g.R.Relation.rows c.args.piece.now in
    let old = c.args.groups.now in
    let new = c.add_column.new.self in
    let args = c.in-Ok.args.items in
    let again = surroundings (to_z w64 (of_z w64 c.args.now)) lets in
    let cells = cells_of c.args.values.now in
    let is : each (meaning e again) rows ≡ Is cells = subst (λ (z : ℤ). each (meaning e (surroundings z lets)) rows ≡ Is cells) (sym same) values in
    let came : each (values_at (e ∷ []) again) rows ≡ Is (each_alone cells) = one_value e again rows ∙ alone_came e again rows cells is in
    let many : length cells ≡ length rows = c.requires.along in
    let adds : AddsRows (each_alone cells) (rows_given (length rows) args) old new =
    subst (λ (n : ℕ). AddsRows (each_alone cells) (rows_given n args) old new) many
    (subst (λ (those : List Argument). AddsRows (each_alone cells) (rows_given (length cells) those) old new) c.as_slice.ensures.value c.in_ok-add_column-in-Ok.ensures) in
    subst (λ (z : ℤ). ComeTo (e ∷ []) gs (surroundings z lets) rows old new (Ok tt)) same (come_to (e ∷ []) gs again rows (each_alone cells) (rows_given (length rows) args) old new came c.in-Ok.ensures adds)
