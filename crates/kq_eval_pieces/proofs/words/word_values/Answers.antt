use Rattle.std.proofs.Common.{◌≡◌, ℤ, List, length, refl, sym, ap, ◌∙◌, subst, rules, w64, to_z, of_z}
use Rattle.std.proofs.lemmas.Int.{to_z-of_z}
use Rattle.kq_value.specs.declared.value.Value.{Value}
use Rattle.kq_value.specs.Computed.{Is, each}
use Rattle.kq_eval_columns.specs.Vectors.{rows_at}
use Rattle.kq_eval_columns.specs.kq_eval_row.Val.{surroundings, val}
use Rattle.kq_store_column_view.specs.Vectors.{cells_of}
use Rattle.kq_eval_pieces.proofs.ByWord.{by_word}
use Rattle.kq_eval_pieces.proofs.words.word_values.Goals as goal

pub returns-in-Ok : goal.returns-in-Ok
returns-in-Ok c =
    let same : to_z w64 (of_z w64 c.args.now) ≡ c.args.now = search (rules, to_z-of_z) in
    let e = c.args.expr.now in
    let s = surroundings c.args.now c.args.lets.now in
    let words = c.args.words.now in
    let values = cells_of c.in_ok-owned-in-Ok.field-0 in
    let places = c.deref-2.ensures.value ∙ c.in_ok-places.ensures in
    let answered = subst (λ (z : ℤ). each (val e (surroundings z c.args.lets.now)) (rows_at c.deref.result.now c.deref-2.result.now) ≡ Is (cells_of c.in-Ok.values)) same c.in-Ok.ensures in
    let came = (λ j. each (val e s) (rows_at (sym c.deref.ensures.value j) (sym places j))) ∙ answered ∙ ap (λ (vs : List Value). Is vs) (sym c.in_ok-owned-in-Ok.ensures) in
    by_word e s c.args.column words values c.in_ok-columns.columns.items (length words) refl c.requires c.in_ok-columns.ensures came
