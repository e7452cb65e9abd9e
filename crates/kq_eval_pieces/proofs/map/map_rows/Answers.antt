use Rattle.std.proofs.Common.{◌≡◌, ◌≤◌, ℕ, ℤ, Err, List, length, map, arith, rules, subst, sym, w64, to_z, of_z, Vec, Global}
use Rattle.std.proofs.lemmas.Int.{to_z-of_z}
use Rattle.std.proofs.lemmas.Result.{err_from_is_err_and}
use Rattle.std.specs.List.{All}
use Rattle.kq_value.specs.declared.value.Value.{Value}
use Rattle.kq_value.specs.Computed.{AnswersAs, each}
use Rattle.kq_plan_expressions.specs.Terms.{term_of}
use Rattle.kq_store_rows.specs.Chunks.{HasWidth}
use Rattle.kq_eval_columns.specs.kq_eval_row.Val.{surroundings}
use Rattle.kq_eval_pieces.specs.declared.sources.Source.{Source}
use Rattle.kq_eval_pieces.specs.Operators.{values_at}
use Rattle.kq_eval_pieces.specs.Pieces.{piece_of}
use Rattle.kq_eval_pieces.specs.Sources.{rows_from}
use Rattle.kq_eval_pieces.proofs.Laws.{answers_seen, piece_more, piece_faults}
use Rattle.kq_eval_pieces.proofs.map.map_rows.Goals as goal

pub returns-in_err-sources : goal.returns-in_err-sources
returns-in_err-sources g c =
    let again = to_z w64 (of_z w64 c.args.now) in
    let same : again ≡ c.args.now = search (rules, to_z-of_z) in
    let f = λ (z : ℤ). values_at (map term_of c.args.exprs.now) (surroundings z c.args.lets.now) in
    let rows = g.R.Relation.rows c.args.relation.now in
    let from = c.loop-from.from in
    let to = c.min-to.result in
    let saw = λ (v : Vec Source Global). rows_from v.items 0 (piece_of rows from to) in
    let see = λ (rs : List (List Value)). rs in
    let fault = c.in_err-sources.field-0.0 in
    let low : from ≤ to = omega arith in
    let fails = piece_faults (f again) see saw (each (f again) rows) rows from to c.loop-from.mapped fault low c.loop-from.invariant.1 c.in_err-sources.ensures.rows in
    let p = err_from_is_err_and c.from_residual.result c.from_residual.ensures.1 in
    rw (p.1, p.2) (answers_seen (each (f c.args.now) rows) fault (subst (λ (z : ℤ). AnswersAs see (each (f z) rows) (Err fault)) same fails))

pub loop-from-preserved : goal.loop-from-preserved
loop-from-preserved g c =
    let f = values_at (map term_of c.args.exprs.now) (surroundings (to_z w64 (of_z w64 c.args.now)) c.args.lets.now) in
    let rows = g.R.Relation.rows c.args.relation.now in
    let from = c.loop-from.from in
    let to = c.min-to.result in
    let low : from ≤ to = omega arith in
    let high : to ≤ length rows = omega arith in
    let made = c.loop-from.mapped in
    let vs = rows_from c.in_ok-sources.sources.items 0 (piece_of rows from to) in (
      high,
      rw c.in_ok-push_rows.ensures.ok (piece_more f (each f rows) rows from to made vs low c.loop-from.invariant.1 c.in_ok-sources.ensures.rows),
      subst (λ (w : ℕ). All (HasWidth {T = Value} w) c.push_rows.new.mapped) c.in_ok-sources.ensures.wide c.in_ok-push_rows.ensures.wide,
    )

pub push_rows-requires-clause-wide : goal.push_rows-requires-clause-wide
push_rows-requires-clause-wide g c = subst (λ (w : ℕ). All (HasWidth {T = Value} w) c.loop-from.mapped) (sym c.in_ok-sources.ensures.wide) c.loop-from.invariant.2
