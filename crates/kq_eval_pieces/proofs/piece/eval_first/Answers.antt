use Rattle.std.proofs.Common.{◌≡◌, ℕ, ℤ, List, ◌∙◌, subst, rules, w64, to_z, of_z}
use Rattle.std.proofs.lemmas.Int.{to_z-of_z}
use Rattle.kq_value.specs.Computed.{AnswersAs, each}
use Rattle.kq_eval_columns.specs.Vectors.{rows_at}
use Rattle.kq_store_column_view.specs.Vectors.{cells_of}
use Rattle.kq_eval_columns.specs.kq_eval_row.Val.{surroundings, val}
use Rattle.kq_eval_pieces.proofs.piece.eval_first.Goals as goal

pub returns : goal.returns
returns c =
    let same : to_z w64 (of_z w64 c.args.now) ≡ c.args.now = search (rules, to_z-of_z) in
    let e = c.args.expr.now in
    let lets = c.args.lets.now in
    let columns = c.args.columns.now in
    let answered = λ (z : ℤ) (places : List ℕ). AnswersAs cells_of (each (val e (surroundings z lets)) (rows_at columns places)) c.eval_owned.result in
    subst (answered c.args.now) (c.deref.ensures.value ∙ c.in_ok-places.ensures) (subst (λ (z : ℤ). answered z c.deref.result.now) same c.eval_owned.ensures)
