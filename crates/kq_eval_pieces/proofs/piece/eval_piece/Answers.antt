use Rattle.std.proofs.Common.{◌≡◌, ◌-◌, ℕ, ℤ, List, map, ap, ◌∙◌, subst, rules, w64, to_z, of_z}
use Rattle.std.proofs.lemmas.Int.{to_z-of_z}
use Rattle.std.specs.List.{concat, range_with_len}
use Rattle.kq_value.specs.declared.value.Value.{Value}
use Rattle.kq_value.specs.Computed.{Computed, AnswersAs, each}
use Rattle.kq_eval_columns.specs.Vectors.{rows_at}
use Rattle.kq_store_column_view.specs.Vectors.{cells_of}
use Rattle.kq_plan_expressions.specs.declared.expr.Expr.{Expr}
use Rattle.kq_plan_expressions.specs.Terms.{term_of}
use Rattle.kq_eval_columns.specs.kq_eval_row.Val.{meaning, surroundings, val}
use Rattle.kq_eval_pieces.specs.Pieces.{Hold, columns_read, piece_of}
use Rattle.kq_eval_pieces.proofs.Laws.{answered_long}
use Rattle.kq_eval_pieces.proofs.Standing.{piece_long, reads_one, stands_for}
use Rattle.kq_eval_pieces.proofs.piece.eval_piece.Goals as goal

pub returns : goal.returns
returns g c =
    let same : to_z w64 (of_z w64 c.args.now) ≡ c.args.now = search (rules, to_z-of_z) in
    let e = c.args.expr.now in
    let s = surroundings c.args.now c.args.lets.now in
    let rows = piece_of (g.R.Relation.rows c.args.relation.now) c.args.from c.args.to in
    let long = piece_long (g.R.Relation.rows c.args.relation.now) c.args.from c.args.to c.requires.0 c.requires.1 in
    let columns = c.in_ok-columns.columns.items in
    let read : c.deref.result.now ≡ columns_read e = c.deref.ensures.value ∙ c.in_ok-reads.ensures ∙ ap (λ (es : List Expr). concat (map columns_read es)) c.from_ref.ensures.value ∙ reads_one e in
    let held = subst (λ (js : List ℕ). Hold columns rows js) read c.in_ok-columns.ensures in
    let count = c.args.to - c.args.from in
    let is : each (val e s) (rows_at c.deref-2.result.now (range_with_len 0 count)) ≡ each (meaning (term_of e) s) rows =
    ((λ j. each (val e s) (rows_at (c.deref-2.ensures.value j) (range_with_len 0 count)))
    ∙ stands_for e s columns rows count long held) in
    let values = subst (λ (o : Computed (List Value)). AnswersAs cells_of o c.eval_first.result) is (subst (λ (z : ℤ). AnswersAs cells_of (each (val e (surroundings z c.args.lets.now)) (rows_at c.deref-2.result.now (range_with_len 0 count))) c.eval_first.result) same c.eval_first.ensures) in
    record { values = values; beside = answered_long (meaning (term_of e) s) cells_of rows (c.args.to - c.args.from) c.eval_first.result long values }
