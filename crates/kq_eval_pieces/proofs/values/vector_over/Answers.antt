use Rattle.std.proofs.Common.{◌≡◌, ◌-◌, ℕ, ℤ, IfOk, List, length, ap, sym, ◌∙◌, subst, arith, rules, w64, to_z, of_z}
use Rattle.std.proofs.lemmas.Int.{to_z-of_z}
use Rattle.std.proofs.lemmas.List.{take_all}
use Rattle.kq_value.specs.declared.value.Value.{Value}
use Rattle.kq_value.specs.Computed.{AnswersAs, Is, each}
use Rattle.kq_plan_expressions.specs.Terms.{Term, term_of}
use Rattle.kq_store_column_view.specs.Vectors.{cells_of}
use Rattle.kq_eval_columns.specs.kq_eval_row.Val.{meaning, surroundings}
use Rattle.kq_eval_pieces.specs.Pieces.{piece_of}
use Rattle.kq_eval_pieces.proofs.Mapped.{column_whole}
use Rattle.kq_eval_pieces.proofs.Standing.{column_long}
use Rattle.kq_eval_pieces.proofs.values.vector_over.Goals as goal

pub returns-in_ok-column_in-in-Some-clause-values : goal.returns-in_ok-column_in-in-Some-clause-values
returns-in_ok-column_in-in-Some-clause-values g c =
    let s = surroundings c.args.now c.args.lets.now in
    let rows = g.R.Relation.rows c.args.relation.now in
    ap (λ (t : Term). each (meaning t s) rows) c.in-Some.ensures ∙ column_whole s c.in-Some.j rows c.len.result c.len.ensures.count ∙ ap Is (sym c.in_ok-column_in-in-Some.ensures)

pub returns-in_ok-column_in-in-Some-clause-beside : goal.returns-in_ok-column_in-in-Some-clause-beside
returns-in_ok-column_in-in-Some-clause-beside g c =
    ap length c.in_ok-column_in-in-Some.ensures ∙ column_long c.in-Some.j (g.R.Relation.rows c.args.relation.now) c.len.result c.len.ensures.count

pub returns-in-None : goal.returns-in-None
returns-in-None g c =
    let same : to_z w64 (of_z w64 c.args.now) ≡ c.args.now = search (rules, to_z-of_z) in
    let rows = g.R.Relation.rows c.args.relation.now in
    let n = c.len-in-None.result in
    let all : piece_of rows 0 n ≡ rows = take_all (n - 0) rows (omega arith) in
    let long : n - 0 ≡ length rows = omega arith in
    record {
      values = subst (λ (rs : List (List Value)). AnswersAs cells_of (each (meaning (term_of c.args.expr.now) (surroundings c.args.now c.args.lets.now)) rs) c.eval_piece.result) all
          (subst (λ (z : ℤ). AnswersAs cells_of (each (meaning (term_of c.args.expr.now) (surroundings z c.args.lets.now)) (piece_of rows 0 n)) c.eval_piece.result) same c.eval_piece.ensures.values);
      beside = subst (λ (k : ℕ). IfOk c.eval_piece.result (λ v. length (cells_of v) ≡ k)) long c.eval_piece.ensures.beside;
    }
