use Rattle.std.proofs.Common.{◌≡◌, ℤ, Option, Some, subst, rules, w64, to_z, of_z}
use Rattle.std.proofs.lemmas.Int.{to_z-of_z}
use Rattle.std.specs.Prelude.{IfSome}
use Rattle.kq_eval_columns.specs.kq_eval_row.Val.{surroundings}
use Rattle.kq_store_column_view.specs.Vectors.{cells_of}
use Rattle.kq_store_column_view.specs.declared.vector.Vector.{Vector}
use Rattle.kq_eval_pieces.specs.Words.{AreByWord}
use Rattle.kq_eval_pieces.proofs.words.values_by.Goals as goal

pub returns-in_ok-picked-in-Some : goal.returns-in_ok-picked-in-Some
returns-in_ok-picked-in-Some c =
    let same : to_z w64 (of_z w64 c.args.now) ≡ c.args.now = search (rules, to_z-of_z) in
    let e = c.args.expr.now in
    let lets = c.args.lets.now in
    let answered = λ (z : ℤ) (o : Option Vector). IfSome o (λ (v : Vector). AreByWord e (surroundings z lets) c.args.column c.args.words.now (cells_of v)) in
    let by = subst (λ (z : ℤ). answered z (Some c.in-Some.values)) same (subst (answered (to_z w64 (of_z w64 c.args.now))) c.in-Some.is c.in_ok-values.ensures) in
    record { values = cells_of c.in-Some.values; by = by; are = c.in_ok-picked-in-Some.ensures }
