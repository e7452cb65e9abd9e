-- One number more.
use Rattle.std.proofs.Common.{◌≡◌, ◌+◌, ℕ, ℤ, pos, Bool, true, false, ◌||◌, List, [], ◌∷◌, ◌++◌, Option, Some, None, IfSome, is_none, is_some, not, unwrap_or, length, map, take, refl, sym, ap, ◌∙◌, arith, rules, slice_get, FitsSigned, w32}
use Rattle.std.proofs.lemmas.List.{map_push}
use Rattle.kq_value.specs.declared.ty.Ty.{Ty}
use Rattle.kq_value.specs.declared.value.Value.{Value}
use Rattle.kq_store_column_view.specs.Numbers.{marked, number_cell}
use Rattle.kq_store_column_view.proofs.Masked.{mark}
use Rattle.kq_store_column.proofs.Cellwise.{take_got}

marked-push : (ns : List Bool) (zs : List ℤ) (b : Bool) (z : ℤ) → length ns ≡ length zs → marked (ns ++ b ∷ []) (zs ++ z ∷ []) ≡ marked ns zs ++ mark b z ∷ []
marked-push [] [] true z h = refl
marked-push [] [] false z h = refl
marked-push [] (y ∷ zs) b z h = absurd (omega arith)
marked-push (n ∷ ns) [] b z h = absurd (omega arith)
marked-push (true ∷ ns) (y ∷ zs) b z h = ap (λ (os : List (Option ℤ)). None ∷ os) (marked-push ns zs b z (omega arith))
marked-push (false ∷ ns) (y ∷ zs) b z h = ap (λ (os : List (Option ℤ)). Some y ∷ os) (marked-push ns zs b z (omega arith))

marked_plain-push : (zs : List ℤ) (z : ℤ) → marked [] (zs ++ z ∷ []) ≡ marked [] zs ++ Some z ∷ []
marked_plain-push [] z = refl
marked_plain-push (y ∷ zs) z = ap (λ (os : List (Option ℤ)). Some y ∷ os) (marked_plain-push zs z)

mark_back : (o : Option ℤ) → mark (is_none o) (unwrap_or o (pos 0)) ≡ o
mark_back None = refl
mark_back (Some z) = refl

some_back : (o : Option ℤ) → is_none o ≡ false → Some (unwrap_or o (pos 0)) ≡ o
some_back None h = absurd (cc)
some_back (Some z) h = refl

pub marked_more : (ns : List Bool) (zs : List ℤ) (o : Option ℤ) → length ns ≡ length zs → marked (ns ++ is_none o ∷ []) (zs ++ unwrap_or o (pos 0) ∷ []) ≡ marked ns zs ++ o ∷ []
marked_more ns zs o h = marked-push ns zs (is_none o) (unwrap_or o (pos 0)) h ∙ (λ i. marked ns zs ++ mark_back o i ∷ [])

-- the cells of the rows so far and of one more
pub cells_more : (t : Ty) (ns : List Bool) (zs : List ℤ) (o : Option ℤ) (cells : List Value) (i : ℕ) (v : Value) → length ns ≡ length zs → map (number_cell t) (marked ns zs) ≡ take i cells
    → slice_get cells i ≡ Some v → number_cell t o ≡ v → map (number_cell t) (marked (ns ++ is_none o ∷ []) (zs ++ unwrap_or o (pos 0) ∷ [])) ≡ take (i + 1) cells
cells_more t ns zs o cells i v h so_far got stands =
    ap (map (number_cell t)) (marked_more ns zs o h) ∙ map_push (number_cell t) (marked ns zs) o ∙ (λ j. so_far j ++ stands j ∷ []) ∙ sym (take_got cells i v got)

pub plain_more : (ns : List Bool) (zs : List ℤ) (o : Option ℤ) → length ns ≡ length zs → is_none o ≡ false → marked ns zs ≡ marked [] zs
    → marked (ns ++ is_none o ∷ []) (zs ++ unwrap_or o (pos 0) ∷ []) ≡ marked [] (zs ++ unwrap_or o (pos 0) ∷ [])
plain_more ns zs o h some is = marked_more ns zs o h ∙ (λ j. is j ++ sym (some_back o some) j ∷ []) ∙ sym (marked_plain-push zs (unwrap_or o (pos 0)))

pub fits_or_zero : (o : Option ℤ) → IfSome o (FitsSigned w32) → FitsSigned w32 (unwrap_or o (pos 0))
fits_or_zero None h = search rules
fits_or_zero (Some z) h = h

pub or_false : (a b : Bool) → (a || b) ≡ false → (a ≡ false) × (b ≡ false)
or_false true b h = absurd (cc)
or_false false b h = (refl, h)

pub none_is : (o : Option ℤ) (b : Bool) → is_some o ≡ not b → b ≡ is_none o
none_is None true h = refl
none_is None false h = absurd (cc)
none_is (Some z) true h = absurd (cc)
none_is (Some z) false h = refl
