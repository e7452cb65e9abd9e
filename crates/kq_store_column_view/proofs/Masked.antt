-- Numbers with marks of nulls, read as cells.
use Rattle.std.proofs.Common.{◌≡◌, ◌<◌, ◌≤◌, ℕ, zero, suc, ℤ, pos, Bool, true, false, List, [], ◌∷◌, Option, Some, None, unwrap_or, length, map, get_or, refl, sym, ap, ◌∙◌, arith, slice_get}
use Rattle.std.proofs.lemmas.List.{get_or_default, length-map}
use Rattle.kq_value.specs.declared.ty.Ty.{Ty}
use Rattle.kq_value.specs.declared.ty.Ty.TheVariants as ty
use Rattle.kq_value.specs.declared.value.Value.{Value}
use Rattle.kq_value.specs.declared.value.Value.TheVariants.{Null}
use Rattle.kq_store_column_view.specs.Numbers.{marked, number_cell, AreNumbers}
use Rattle.kq_store_column_view.specs.Vectors.{cell_of}

-- a number, but none where it is marked
abbrev pub mark : Bool → ℤ → Option ℤ
mark true z = None
mark false z = Some z

pub length-marked : (ns : List Bool) (zs : List ℤ) → length (marked ns zs) ≡ length zs
length-marked [] [] = refl
length-marked [] (y ∷ zs) = ap suc (length-marked [] zs)
length-marked (n ∷ ns) [] = refl
length-marked (true ∷ ns) (y ∷ zs) = ap suc (length-marked ns zs)
length-marked (false ∷ ns) (y ∷ zs) = ap suc (length-marked ns zs)

pub length-cells : (t : Ty) (ns : List Bool) (zs : List ℤ) → length (map (number_cell t) (marked ns zs)) ≡ length zs
length-cells t ns zs = length-map (marked ns zs) (number_cell t) ∙ length-marked ns zs

-- with no marks none is null
pub plain : (t : Ty) (f : ℤ → Value) → ((z : ℤ) → number_cell t (Some z) ≡ f z) → (zs : List ℤ) → map f zs ≡ map (number_cell t) (marked [] zs)
plain t f same [] = refl
plain t f same (z ∷ zs) = λ i. sym (same z) i ∷ plain t f same zs i

-- the same of a type that is known, where no mark was kept
pub plain_of : (t u : Ty) (f : ℤ → Value) → ((z : ℤ) → number_cell t (Some z) ≡ f z) → (ns : List Bool) (zs : List ℤ) → u ≡ t → length ns ≤ 0 → map f zs ≡ map (number_cell u) (marked ns zs)
plain_of t u f same [] zs is none = plain t f same zs ∙ (λ i. map (number_cell (sym is i)) (marked [] zs))
plain_of t u f same (n ∷ ns) zs is none = absurd (omega arith)

got_plain : (f : Option ℤ → Value) (zs : List ℤ) (i : ℕ) (z : ℤ) → i < length zs → get_or zs i z ≡ z → slice_get (map f (marked [] zs)) i ≡ Some (f (Some z))
got_plain f [] i z h is = absurd (omega arith)
got_plain f (y ∷ zs) zero z h is = ap (λ (x : ℤ). Some (f (Some x))) is
got_plain f (y ∷ zs) (suc i) z h is = got_plain f zs i z (omega arith) is

got_masked : (f : Option ℤ → Value) (ns : List Bool) (zs : List ℤ) (i : ℕ) (z : ℤ) (b : Bool) → length ns ≡ length zs → i < length zs → get_or ns i b ≡ b → get_or zs i z ≡ z → slice_get (map f (marked ns zs)) i ≡ Some (f (mark b z))
got_masked f [] [] i z b long h null is = absurd (omega arith)
got_masked f [] (y ∷ zs) i z b long h null is = absurd (omega arith)
got_masked f (n ∷ ns) [] i z b long h null is = absurd (omega arith)
got_masked f (true ∷ ns) (y ∷ zs) zero z b long h null is = rw (← null) refl
got_masked f (false ∷ ns) (y ∷ zs) zero z b long h null is = rw (← null) (ap (λ (x : ℤ). Some (f (Some x))) is)
got_masked f (true ∷ ns) (y ∷ zs) (suc i) z b long h null is = got_masked f ns zs i z b (omega arith) (omega arith) null is
got_masked f (false ∷ ns) (y ∷ zs) (suc i) z b long h null is = got_masked f ns zs i z b (omega arith) (omega arith) null is

pub got_null : (t : Ty) (ns : List Bool) (zs : List ℤ) (i : ℕ) → AreNumbers t ns zs → i < length ns → get_or ns i true ≡ true → slice_get (map (number_cell t) (marked ns zs)) i ≡ Some (Null t)
got_null t ns zs i are within null =
    let long = are.marks (omega arith) in
    got_masked (number_cell t) ns zs i (get_or zs i (pos 0)) true long (omega arith) null (get_or_default zs i _ (pos 0) (omega arith))

pub got_number : (t : Ty) (ns : List Bool) (zs : List ℤ) (i : ℕ) (z : ℤ) → AreNumbers t ns zs → i < length zs → get_or zs i z ≡ z → (i < length ns → get_or ns i false ≡ false) → slice_get (map (number_cell t) (marked ns zs)) i ≡ Some (number_cell t (Some z))
got_number t [] zs i z are within is null = got_plain (number_cell t) zs i z within is
got_number t (n ∷ ns) zs i z are within is null =
    let long = are.marks (omega arith) in
    got_masked (number_cell t) (n ∷ ns) zs i z false long within (null (omega arith)) is

-- the cell that stands at a place
pub cell_got : (cells : List Value) (i : ℕ) (v : Value) → slice_get cells i ≡ Some v → v ≡ cell_of cells i
cell_got cells i v got = sym (ap (λ (o : Option Value). unwrap_or o (Null ty.Long)) got)

-- past the end stands a null
pub cell_past : (cells : List Value) (i : ℕ) → length cells ≤ i → Null ty.Long ≡ cell_of cells i
cell_past [] zero h = refl
cell_past [] (suc i) h = refl
cell_past (v ∷ cells) zero h = absurd (omega arith)
cell_past (v ∷ cells) (suc i) h = cell_past cells i (omega arith)
