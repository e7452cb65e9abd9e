-- Terms that have the types of columns, and columns that are found by their names.
use Rattle.std.proofs.Common.{◌≡◌, ◌≢◌, ℕ, zero, suc, ◌+◌, Bool, true, false, cond, List, [], ◌∷◌, ◌++◌, All, Option, Some, None, Ok, refl, sym, ap, ◌∙◌, subst, arith, zero-add, add-zero}
use Rattle.std.specs.Prelude.{nat_eq, slice_set}
use Rattle.std.specs.Cmp.Lexicographic.{pointwise}
use Rattle.std.specs.List.{zip}
use Rattle.kq_bind_columns.specs.Chosen.{has_number, place_in, without, renamed}
use Rattle.kq_bind_columns.specs.Laying.{Columns, as_they_are, laid_at, laid, all_laid}
use Rattle.kq_bind_expressions.specs.Lookup.{first_named}
use Rattle.kq_bind_expressions.specs.Verdicts.{Fault, or_fault, unknown}
use Rattle.kq_plan_expressions.specs.HasType.{IsPlace}
use Rattle.kq_plan_expressions.specs.Terms.{Term, column}
use Rattle.kq_read_grammar.specs.declared.expression.Name.{Name}
use Rattle.kq_plan.specs.Fits.{IsTyped, AreTyped, type_at}
use Rattle.kq_read_meanings.specs.Names.{name_said, name_place}
use Rattle.kq_value.specs.declared.schema.Field.{Field}
use Rattle.kq_value.specs.declared.ty.Ty.{Ty}
use Rattle.kq_value.specs.declared.ty.Ty.TheVariants as ty
use Rattle.kq_value.specs.Ty.{same_ty}
use Rattle.kq_value.proofs.Fields.{same_ty-Decides}

-- ---- types that are the same

pub same_is : (a b : Ty) → same_ty a b ≡ true → a ≡ b
same_is a b e = (same_ty-Decides a b).0 e

pub differs : (a b : Ty) → same_ty a b ≡ false → a ≢ b
differs a b e same = let s = (same_ty-Decides a b).1 same in absurd (cc)

pub found_ok : {A : Type 0} (g : Fault) (o : Option A) (x : A) → or_fault g o ≡ Ok x → o ≡ Some x
found_ok g (Some y) x e = cc
found_ok g None x e = absurd (cc)

-- ---- keys

abbrev pub IsNoDynamic : Field → Type 0
IsNoDynamic c = c.ty ≢ ty.Dynamic

abbrev pub IfKey : Bool → Ty → Type 0
IfKey true t = t ≢ ty.Dynamic
IfKey false t = Unit {0}

abbrev pub IfKeys : Bool → List Field → Type 0
IfKeys true fs = All IsNoDynamic fs
IfKeys false fs = Unit {0}

-- ---- terms for columns

-- one more behind
pub typed_behind : (lets from : List Field) (es : List Term) (fs : List Field) (e : Term) (f : Field) → AreTyped lets from es fs → IsTyped lets from e f.ty
    → AreTyped lets from (es ++ e ∷ []) (fs ++ f ∷ [])
typed_behind lets from [] [] e f h is = (is, tt)
typed_behind lets from [] (g ∷ fs) e f h is = absurd h
typed_behind lets from (x ∷ es) [] e f h is = absurd h
typed_behind lets from (x ∷ es) (g ∷ fs) e f h is = (h.0, typed_behind lets from es fs e f h.1 is)

-- one in place of another
typed_at : (lets from : List Field) (es : List Term) (fs : List Field) (i : ℕ) (e : Term) (f : Field) → AreTyped lets from es fs → IsTyped lets from e f.ty
    → AreTyped lets from (slice_set es i e) (slice_set fs i f)
typed_at lets from [] [] i e f h is = tt
typed_at lets from [] (g ∷ fs) i e f h is = absurd h
typed_at lets from (x ∷ es) [] i e f h is = absurd h
typed_at lets from (x ∷ es) (g ∷ fs) zero e f h is = (is, h.1)
typed_at lets from (x ∷ es) (g ∷ fs) (suc i) e f h is = (h.0, typed_at lets from es fs i e f h.1 is)

laid_typed : (lets from : List Field) (p : Columns) (x : Term × Field) → AreTyped lets from p.0 p.1 → IsTyped lets from x.0 x.1.ty
    → AreTyped lets from (laid p x).0 (laid p x).1
laid_typed lets from p x h is = by (first_named 0 p.1 x.1.name) where
  by : (o : Option (ℕ × Ty)) → AreTyped lets from (laid_at p x o).0 (laid_at p x o).1
  by (Some k) = typed_at lets from p.0 p.1 k.0 x.0 x.1 h is
  by None = typed_behind lets from p.0 p.1 x.0 x.1 h is

-- what is made is laid over what comes
pub all_laid_typed : (lets from : List Field) (p : Columns) (es : List Term) (fs : List Field) → AreTyped lets from p.0 p.1 → AreTyped lets from es fs
    → AreTyped lets from (all_laid p (zip es fs)).0 (all_laid p (zip es fs)).1
all_laid_typed lets from p [] [] h is = h
all_laid_typed lets from p [] (f ∷ fs) h is = absurd is
all_laid_typed lets from p (e ∷ es) [] h is = absurd is
all_laid_typed lets from p (e ∷ es) (f ∷ fs) h is = all_laid_typed lets from (laid p (e, f)) es fs (laid_typed lets from p (e, f) h is.0) is.1

-- ---- columns as they are

-- from number i on, these columns stand there
abbrev pub StandAt : List Field → ℕ → List Field → Type 0
StandAt all i cs = (j : ℕ) (t : Ty) → IsPlace cs j t → IsPlace all (j + i) t

pub stand_next : (all : List Field) (i : ℕ) (c : Field) (cs : List Field) → StandAt all i (c ∷ cs) → StandAt all (suc i) cs
stand_next all i c cs h j t is = let n : suc j + i ≡ j + suc i = omega arith in subst (λ k. IsPlace all k t) n (h (suc j) t is)

pub stands_first : (all : List Field) (i : ℕ) (c : Field) (cs : List Field) → StandAt all i (c ∷ cs) → IsPlace all i c.ty
stands_first all i c cs h = subst (λ k. IsPlace all k c.ty) (zero-add i) (h 0 c.ty refl)

pub stand_all : (cs : List Field) → StandAt cs 0 cs
stand_all cs j t is = subst (λ k. IsPlace cs k t) (sym (add-zero j)) is

are_typed : (lets all : List Field) (i : ℕ) (cs : List Field) → StandAt all i cs → AreTyped lets all (as_they_are i cs) cs
are_typed lets all i [] h = tt
are_typed lets all i (c ∷ cs) h = ((stands_first all i c cs h, tt), are_typed lets all (suc i) cs (stand_next all i c cs h))

pub as_they_are_typed : (lets cs : List Field) → AreTyped lets cs (as_they_are 0 cs) cs
as_they_are_typed lets cs = are_typed lets cs 0 cs (stand_all cs)

rest_typed : (lets all : List Field) (i : ℕ) (cs : List Field) (is : List ℕ) → StandAt all i cs → AreTyped lets all (without i cs is).0 (without i cs is).1
rest_typed lets all i [] is h = tt
rest_typed lets all i (c ∷ cs) is h = by (has_number is i) (rest_typed lets all (suc i) cs is (stand_next all i c cs h)) where
  by : (b : Bool) → AreTyped lets all (without (suc i) cs is).0 (without (suc i) cs is).1
      → AreTyped lets all (cond b (without (suc i) cs is) (column i ∷ (without (suc i) cs is).0, c ∷ (without (suc i) cs is).1)).0
      (cond b (without (suc i) cs is) (column i ∷ (without (suc i) cs is).0, c ∷ (without (suc i) cs is).1)).1
  by true more = more
  by false more = ((stands_first all i c cs h, tt), more)

pub without_typed : (lets cs : List Field) (is : List ℕ) → AreTyped lets cs (without 0 cs is).0 (without 0 cs is).1
without_typed lets cs is = rest_typed lets cs 0 cs is (stand_all cs)

pub renamed_typed : (lets from : List Field) (es : List Term) (i : ℕ) (cs : List Field) (is : List ℕ) (names : List (List ℕ)) → AreTyped lets from es cs
    → AreTyped lets from es (renamed i cs is names)
renamed_typed lets from [] i [] is names h = tt
renamed_typed lets from [] i (c ∷ cs) is names h = absurd h
renamed_typed lets from (e ∷ es) i [] is names h = absurd h
renamed_typed lets from (e ∷ es) i (c ∷ cs) is names h = (h.0, renamed_typed lets from es (suc i) cs is names h.1)

-- ---- columns that are found

pub place_type : (cs : List Field) (i : ℕ) (t : Ty) → IsPlace cs i t → type_at cs i ≡ Some t
place_type [] i t h = absurd h
place_type (c ∷ cs) zero t h = ap (λ (u : Ty). Some u) h
place_type (c ∷ cs) (suc i) t h = place_type cs i t h

found_from : (j : ℕ) (cs : List Field) (w : List ℕ) (p : ℕ × Ty) → first_named j cs w ≡ Some p → (i : ℕ) × (p.0 ≡ i + j) × (type_at cs i ≡ Some p.1)
found_from j [] w p e = absurd (cc)
found_from j (c ∷ cs) w p e = by (pointwise nat_eq c.name w) (λ g. found_from (suc j) cs w p g) e
  where
    by : (b : Bool) → (first_named (suc j) cs w ≡ Some p → (i : ℕ) × (p.0 ≡ i + suc j) × (type_at cs i ≡ Some p.1))
        → cond b (Some (j, c.ty)) (first_named (suc j) cs w) ≡ Some p → (i : ℕ) × (p.0 ≡ i + j) × (type_at (c ∷ cs) i ≡ Some p.1)
    by true more g = let is : (j, c.ty) ≡ p = cc in (0, sym (ap (λ (z : ℕ × Ty). z.0) is) ∙ sym (zero-add j), ap (λ (z : ℕ × Ty). Some z.1) is)
    by false more g = let r = more g in let n : r.0 + suc j ≡ suc r.0 + j = omega arith in (suc r.0, r.1 ∙ n, r.2)

pub found_type : (cs : List Field) (w : List ℕ) (p : ℕ × Ty) → first_named 0 cs w ≡ Some p → type_at cs p.0 ≡ Some p.1
found_type cs w p e =
    let r = found_from 0 cs w p e in
    let is : r.0 ≡ p.0 = sym (r.1 ∙ add-zero r.0) in
    subst (λ i. type_at cs i ≡ Some p.1) is r.2

pub place_found : (text : List ℕ) (cs : List Field) (n : Name) (p : ℕ × Ty) → place_in text cs n ≡ Ok p → type_at cs p.0 ≡ Some p.1
place_found text cs n p e = found_type cs (name_said text n) p (found_ok (unknown (name_place n)) (first_named 0 cs (name_said text n)) p e)
