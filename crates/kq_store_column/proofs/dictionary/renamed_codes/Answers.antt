use Rattle.std.proofs.Common.{◌≡◌, ◌<◌, ℕ, List, All, Result, Ok, Err, Option, Some, None, IfOk, IfSome, OnOk, Vec, Global, get_or, length, map}
use Rattle.kq_value.specs.declared.value.Value.{Value}
use Rattle.kq_store_column_view.specs.Vectors.{cell_of}
use Rattle.kq_store_column.specs.Built.{AreCoded}
use Rattle.kq_store_column.proofs.Joined.{coded_again}
use Rattle.kq_store_column.proofs.dictionary.renamed_codes.Goals as goal

again : {E : Type 0} (words others : List Value) (new old : List ℕ) (r : Result (Option (Vec ℕ Global)) E) → AreCoded words new others
    → IfOk r (λ found. IfSome found (λ (codes : Vec ℕ Global). All (λ c. c < length new) old)) → IfOk r (λ found. IfSome found (λ codes. codes.items ≡ map (λ c. get_or new c 0) old))
    → IfOk r (λ found. IfSome found (λ codes. AreCoded words codes.items (map (cell_of others) old)))
again words others new old (Err e) coded known is = tt
again words others new old (Ok None) coded known is = tt
again words others new old (Ok (Some codes)) coded known is = coded_again words others new old codes.items coded known is

on_ok : {T E : Type 0} (r : Result T E) (P : Type 0) → P → OnOk r P
on_ok (Ok x) P p = p
on_ok (Err e) P p = tt

pub returns-in-Some : goal.returns-in-Some
returns-in-Some c = record {
  codes = again _ c.args.lent.now c.deref.result.now c.args.old.now c.renamed.result (rw c.deref.ensures.value (rw c.in-Some.is at c.in_ok-new.ensures.codes)) c.renamed.ensures.known c.renamed.ensures.codes;
  words = on_ok c.renamed.result _ c.in_ok-new.ensures.words;
}
