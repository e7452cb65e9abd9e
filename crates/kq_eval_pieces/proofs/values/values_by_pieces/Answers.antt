use Rattle.std.proofs.Common.{◌≡◌, ◌≤◌, ◌-◌, ℤ, Err, subst, length, arith, rules, w64, to_z, of_z, Vec, Global}
use Rattle.std.proofs.lemmas.Int.{to_z-of_z}
use Rattle.std.proofs.lemmas.List.{length-append}
use Rattle.std.proofs.lemmas.Result.{err_from_is_err_and}
use Rattle.kq_value.specs.declared.value.Value.{Value}
use Rattle.kq_value.specs.Computed.{AnswersAs, each}
use Rattle.kq_store_column_view.specs.Vectors.{cells_of}
use Rattle.kq_plan_expressions.specs.Terms.{term_of}
use Rattle.kq_eval_columns.specs.kq_eval_row.Val.{meaning, surroundings}
use Rattle.kq_eval_pieces.proofs.Laws.{piece_more, piece_faults}
use Rattle.kq_eval_pieces.proofs.values.values_by_pieces.Goals as goal

pub returns-in_err-piece-clause-values : goal.returns-in_err-piece-clause-values
returns-in_err-piece-clause-values g c =
    let again = to_z w64 (of_z w64 c.args.now) in
    let same : again ≡ c.args.now = search (rules, to_z-of_z) in
    let f = λ (z : ℤ). meaning (term_of c.args.expr.now) (surroundings z c.args.lets.now) in
    let see = λ (v : Vec Value Global). v.items in
    let rows = g.R.Relation.rows c.args.relation.now in
    let fault = c.in_err-piece.field-0.0 in
    let low : c.loop-from.from ≤ c.min-to.result = omega arith in
    let fails = piece_faults (f again) see cells_of (each (f again) rows) rows c.loop-from.from c.min-to.result c.loop-from.values.items fault low c.loop-from.invariant.2 c.in_err-piece.ensures.values in
    let p = err_from_is_err_and c.from_residual.result c.from_residual.ensures.1 in
    rw (p.1, p.2) (subst (λ (z : ℤ). AnswersAs see (each (f z) rows) (Err fault)) same fails)

pub loop-from-preserved : goal.loop-from-preserved
loop-from-preserved g c =
    let f = meaning (term_of c.args.expr.now) (surroundings (to_z w64 (of_z w64 c.args.now)) c.args.lets.now) in
    let rows = g.R.Relation.rows c.args.relation.now in
    let from = c.loop-from.from in
    let to = c.min-to.result in
    let low : from ≤ to = omega arith in
    let high : to ≤ length rows = omega arith in
    let vs = cells_of c.in_ok-piece.piece in
    let count : length vs ≡ to - from = c.in_ok-piece.ensures.beside in
    let made = c.loop-from.values.items in
    (high, rw (c.in_ok-push_cells.ensures, length-append) (omega arith), rw c.in_ok-push_cells.ensures (piece_more f (each f rows) rows from to made vs low c.loop-from.invariant.2 c.in_ok-piece.ensures.values))
