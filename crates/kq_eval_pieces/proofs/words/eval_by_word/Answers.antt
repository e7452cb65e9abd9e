use Rattle.std.proofs.Common.{◌≡◌, ℕ, ℤ, Option, Vec, Global, length, map, refl, ap, ◌∙◌, subst, rules, w64, to_z, of_z}
use Rattle.std.proofs.lemmas.Int.{to_z-of_z}
use Rattle.std.proofs.lemmas.Result.{IfOk-weaker}
use Rattle.std.specs.Prelude.{IfOk, IfSome}
use Rattle.kq_eval_columns.specs.kq_eval_row.Val.{surroundings}
use Rattle.kq_store_column_view.specs.Vectors.{cells_of}
use Rattle.kq_store_column_view.specs.declared.vector.Vector.{Vector}
use Rattle.kq_eval_pieces.specs.Words.{AreByCodes, AreCodesAt, ReadsWords}
use Rattle.kq_eval_pieces.specs.declared.worded.Worded.{Worded}
use Rattle.kq_eval_pieces.proofs.ByWord.{by_codes_if}
use Rattle.kq_eval_pieces.proofs.words.eval_by_word.Goals as goal

pub returns-in-Some-2 : goal.returns-in-Some-2
returns-in-Some-2 c =
    let same : to_z w64 (of_z w64 c.args.now) ≡ c.args.now = search (rules, to_z-of_z) in
    let e = c.args.expr.now in
    let s = surroundings c.args.now c.args.lets.now in
    let read = c.in-Some.read in
    let found = c.in-Some-2.codes.items in
    let reads = subst (λ (o : Option Worded). IfSome o (λ (w : Worded). ReadsWords e c.args.columns.now w)) c.in-Some.is c.in_ok-read.ensures in
    let codes = subst (λ (o : Option (Vec ℕ Global)). IfSome o (λ (v : Vec ℕ Global). AreCodesAt read.codes.now c.args.places.now (length read.words.now) v.items)) c.in-Some-2.is c.in_ok-codes.ensures in
    let by = subst (λ (z : ℤ). IfOk c.values_by.result (λ (o : Option Vector). IfSome o (λ (v : Vector). AreByCodes e (surroundings z c.args.lets.now) read.column read.words.now c.deref.result.now (cells_of v)))) same c.values_by.ensures in
    let at = rw c.deref.ensures.value at by in
    IfOk-weaker c.values_by.result _ _ (λ o are. by_codes_if e s c.args.columns.now read o c.args.places.now found (length read.words.now) refl reads codes are) at
