use Rattle.std.proofs.Common.{◌≡◌, ◌∙◌, [], ℕ, ℤ, List, Vec, Global, Err, Ok, ap, length, map, replicate, rules, subst, sym, w64, to_z, of_z}
use Rattle.std.proofs.lemmas.Int.{to_z-of_z}
use Rattle.std.proofs.lemmas.List.{length-map}
use Rattle.std.specs.List.{All}
use Rattle.kq_run_groups.specs.Arguments.{rows_given, rows_in}
use Rattle.kq_run_groups.specs.Groups.{AddsRows}
use Rattle.kq_run_groups.specs.declared.argument.Argument.{Argument}
use Rattle.kq_plan.specs.Plans.{aggregating_of}
use Rattle.kq_run_scan.specs.kq_eval_row.Val.{surroundings}
use Rattle.kq_run_gather.specs.Grouping.{ComeTo, arguments_over}
use Rattle.kq_run_scan.specs.kq_eval_pieces.Operators.{Row}
use Rattle.kq_run_gather.proofs.Arguments.{args_along, length-each, no_values}
use Rattle.kq_run_gather.proofs.Regrouped.{args_lost, come_to}
use Rattle.kq_run_gather.proofs.grouping.add_without_keys.Goals as goal

pub add_without_keys-requires-clause-each : goal.add_without_keys-requires-clause-each
add_without_keys-requires-clause-each g c =
    let again = surroundings (to_z w64 (of_z w64 c.args.now)) c.args.lets.now in
    let gs = map aggregating_of c.args.aggregates.now in
    let rows = g.R.Relation.rows c.args.piece.now in
    let args = c.in-Ok.args.items in
    ap length c.as_slice.ensures.value ∙ sym (length-map args (rows_in (length rows))) ∙ length-each (arguments_over again rows) gs (rows_given (length rows) args) c.in-Ok.ensures ∙ length-map c.args.aggregates.now aggregating_of ∙ sym c.requires.each

pub add_without_keys-requires-clause-along : goal.add_without_keys-requires-clause-along
add_without_keys-requires-clause-along g c =
    let again = surroundings (to_z w64 (of_z w64 c.args.now)) c.args.lets.now in
    let rows = g.R.Relation.rows c.args.piece.now in
    let args = c.in-Ok.args.items in
    let m = c.len.result in
    let many : m ≡ length rows = c.len.ensures.count in
    subst (λ (those : List Argument). All (λ (some : List Row). length some ≡ m) (rows_given m those)) (sym c.as_slice.ensures.value)
    (subst (λ (n : ℕ). All (λ (some : List Row). length some ≡ m) (rows_given n args)) (sym many)
    (args_along (map aggregating_of c.args.aggregates.now) again rows (rows_given (length rows) args) m many c.in-Ok.ensures))

pub returns-in-Err : goal.returns-in-Err
returns-in-Err g c =
    let same : to_z w64 (of_z w64 c.args.now) ≡ c.args.now = search (rules, to_z-of_z) in
    let gs = map aggregating_of c.args.aggregates.now in
    let lets = c.args.lets.now in
    let rows = g.R.Relation.rows c.args.piece.now in
    let old = c.args.groups.now in
    let met = c.in-Err.fault in
    let again = surroundings (to_z w64 (of_z w64 c.args.now)) lets in
    subst (λ (z : ℤ). ComeTo [] gs (surroundings z lets) rows old old (Err met)) same
    (args_lost (λ (v : Vec Argument Global). rows_given (length rows) v.items) [] gs again rows _ old old met (no_values again rows) c.in-Err.ensures)

pub returns-in_ok-add_without_keys-in-Ok : goal.returns-in_ok-add_without_keys-in-Ok
returns-in_ok-add_without_keys-in-Ok g c =
    let same : to_z w64 (of_z w64 c.args.now) ≡ c.args.now = search (rules, to_z-of_z) in
    let gs = map aggregating_of c.args.aggregates.now in
    let lets = c.args.lets.now in
    let rows = g.R.Relation.rows c.args.piece.now in
    let old = c.args.groups.now in
    let new = c.add_without_keys.new.self in
    let args = c.in-Ok.args.items in
    let again = surroundings (to_z w64 (of_z w64 c.args.now)) lets in
    let keys = replicate (length rows) [] in
    let adds : AddsRows keys (rows_given (length rows) args) old new =
    subst (λ (n : ℕ). AddsRows (replicate n []) (rows_given n args) old new) c.len.ensures.count
    (subst (λ (those : List Argument). AddsRows (replicate c.len.result []) (rows_given c.len.result those) old new) c.as_slice.ensures.value c.in_ok-add_without_keys-in-Ok.ensures) in
    subst (λ (z : ℤ). ComeTo [] gs (surroundings z lets) rows old new (Ok tt)) same (come_to [] gs again rows keys (rows_given (length rows) args) old new (no_values again rows) c.in-Ok.ensures adds)
