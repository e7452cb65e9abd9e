use Rattle.std.proofs.Common.{◌≡◌, ℤ, List, ap, map, subst, ◌∙◌}
use Rattle.std.specs.Prelude.{IfSome}
use Rattle.std.proofs.lemmas.Result.{IfOk-weaker}
use Rattle.std.proofs.lemmas.Simd.{map-map}
use Rattle.kq_store_frame.specs.Series.{cell_by}
use Rattle.kq_run_sort.specs.Parts.{part_column}
use Rattle.kq_run_sort.proofs.Gathered.{numbers_if}
use Rattle.kq_run_sort.proofs.columns.numbers_at.Goals as goal
use denote.Ref.{Bor}

pub returns-in-Some : goal.returns-in-Some
returns-in-Some c =
    let parts = c.args.parts.now in
    let k = c.args.kind in
    let now = λ (xs : Bor (List ℤ)). xs.now in
    let lent = c.deref.result.now in
    let found = subst (λ o. IfSome o (λ v. map (λ (xs : Bor (List ℤ)). map (cell_by k) xs.now) v.items ≡ map (part_column c.args.j) parts)) c.in-Some.is c.in_ok-slices.ensures in
    let are : map (map (cell_by k)) (map now lent) ≡ map (part_column c.args.j) parts = map-map (map (cell_by k)) now lent ∙ ap (map (λ (xs : Bor (List ℤ)). map (cell_by k) xs.now)) c.deref.ensures.value ∙ found in
    IfOk-weaker c.gathered.result _ _ (λ o is. numbers_if k (map now lent) parts c.args.j c.args.places.now o are is) c.gathered.ensures
