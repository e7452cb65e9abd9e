-- Columns of different names, one after another, and what keeps them so.
use Rattle.std.proofs.Common.{◌≡◌, ◌≢◌, ℕ, zero, suc, ◌+◌, ◌^◌, ◌<◌, Bool, true, false, ◌||◌, cond, List, [], ◌∷◌, ◌++◌, length, length-append, Some, None, refl, sym, ap, ◌∙◌, subst, arith}
use Rattle.std.specs.Prelude.{nat_eq, slice_get, slice_set}
use Rattle.std.specs.Cmp.Lexicographic.{pointwise, same_text, other_text}
use Rattle.kq_bind_columns.specs.Items.{field}
use Rattle.kq_bind_columns.specs.Naming.{is_taken, free_name}
use Rattle.kq_bind_columns.proofs.Free.{free_name-free}
use Rattle.kq_bind_expressions.specs.Lookup.{first_named}
use Rattle.kq_value.specs.declared.schema.Field.{Field}
use Rattle.kq_value.specs.declared.ty.Ty.{Ty}
use Rattle.kq_bind_query.specs.Different.{AreDifferent}

-- ---- names that are the same

abbrev pub same : List ℕ → List ℕ → Bool
same a b = pointwise nat_eq a b

pub same_text_is : (a b : List ℕ) → same a b ≡ true → a ≡ b
same_text_is a b e = same_text a b (sym e)

pub other_text_is : (a b : List ℕ) → same a b ≡ false → a ≢ b
other_text_is a b e = other_text a b (sym e)

pub not_both : (b : Bool) → b ≡ true → b ≡ false → ⊥
not_both b t f = absurd (cc)

pub is_false : (b : Bool) → (b ≡ true → ⊥) → b ≡ false
is_false true h = absurd (h refl)
is_false false h = refl

pub is_true : (b : Bool) → (b ≡ false → ⊥) → b ≡ true
is_true true h = refl
is_true false h = absurd (h refl)

pub same_self : (a : List ℕ) → same a a ≡ true
same_self a = is_true (same a a) (λ e. other_text_is a a e refl)

pub are_same : (a b : List ℕ) → a ≡ b → same a b ≡ true
are_same a b e = subst (λ z. same a z ≡ true) e (same_self a)

pub are_apart : (a b : List ℕ) → a ≢ b → same a b ≡ false
are_apart a b n = is_false (same a b) (λ e. n (same_text_is a b e))

pub neither : (a b : Bool) → (a || b) ≡ false → (a ≡ false) × (b ≡ false)
neither false b h = (refl, h)
neither true b h = absurd (cc)

pub none_of : (a b : Bool) → a ≡ false → b ≡ false → (a || b) ≡ false
none_of a b e f = rw (e, f) refl

pub or_else : (a b : Bool) → b ≡ true → (a || b) ≡ true
or_else true b h = refl
or_else false b h = h

pub or_first : (a b : Bool) → a ≡ true → (a || b) ≡ true
or_first true b h = refl
or_first false b h = absurd (cc)

pub taken_append : (cs ds : List Field) (name : List ℕ) → is_taken (cs ++ ds) name ≡ (is_taken cs name || is_taken ds name)
taken_append [] ds name = refl
taken_append (c ∷ cs) ds name = by (same c.name name) (taken_append cs ds name) where
  by : (b : Bool) → is_taken (cs ++ ds) name ≡ (is_taken cs name || is_taken ds name) → (b || is_taken (cs ++ ds) name) ≡ ((b || is_taken cs name) || is_taken ds name)
  by true e = refl
  by false e = e

-- ---- columns of different names

abbrev pub Apart : List Field → Type 0
Apart [] = Unit {0}
Apart (c ∷ cs) = (is_taken cs c.name ≡ false) × Apart cs

pub one_apart : (c : Field) → Apart (c ∷ [])
one_apart c = (refl, tt)

pub apart_behind : (cs : List Field) (f : Field) → Apart cs → is_taken cs f.name ≡ false → Apart (cs ++ f ∷ [])
apart_behind [] f h free = (refl, tt)
apart_behind (c ∷ cs) f h free =
    let k = neither (same c.name f.name) (is_taken cs f.name) free in
    let other : same f.name c.name ≡ false = are_apart f.name c.name (λ e. other_text_is c.name f.name k.0 (sym e)) in
    let rest : (same f.name c.name || false) ≡ false = none_of (same f.name c.name) false other refl in
    let here : is_taken (cs ++ f ∷ []) c.name ≡ false = taken_append cs (f ∷ []) c.name ∙ none_of (is_taken cs c.name) (same f.name c.name || false) h.0 rest in
    (here, apart_behind cs f h.1 k.1)

-- a column that is there has a name that is taken
pub there_taken : (cs : List Field) (i : ℕ) (c : Field) → slice_get cs i ≡ Some c → is_taken cs c.name ≡ true
there_taken [] i c e = absurd (cc)
there_taken (d ∷ cs) zero c e =
    let is : d ≡ c = cc in or_first (same d.name c.name) (is_taken cs c.name) (are_same d.name c.name (ap (λ (z : Field). z.name) is))
there_taken (d ∷ cs) (suc i) c e = or_else (same d.name c.name) (is_taken cs c.name) (there_taken cs i c e)

pub apart_different : (cs : List Field) → Apart cs → AreDifferent cs
apart_different [] h i j c d e f is = absurd (cc)
apart_different (x ∷ cs) h zero zero c d e f is = refl
apart_different (x ∷ cs) h zero (suc j) c d e f is =
    let same : x ≡ c = cc in
    let one : x.name ≡ d.name = ap (λ (z : Field). z.name) same ∙ is in
    absurd (not_both (is_taken cs d.name) (there_taken cs j d f) (subst (λ n. is_taken cs n ≡ false) one h.0))
apart_different (x ∷ cs) h (suc i) zero c d e f is =
    let same : x ≡ d = cc in
    let one : x.name ≡ c.name = ap (λ (z : Field). z.name) same ∙ sym is in
    absurd (not_both (is_taken cs c.name) (there_taken cs i c e) (subst (λ n. is_taken cs n ≡ false) one h.0))
apart_different (x ∷ cs) h (suc i) (suc j) c d e f is = ap (λ n. suc n) (apart_different cs h.1 i j c d e f is)

-- a name that is taken is that of a column
pub taken_there : (cs : List Field) (name : List ℕ) → is_taken cs name ≡ true → (i : ℕ) × (c : Field) × (slice_get cs i ≡ Some c) × (c.name ≡ name)
taken_there [] name e = absurd (cc)
taken_there (c ∷ cs) name e = by (same c.name name) refl (taken_there cs name) e where
  by : (b : Bool) → same c.name name ≡ b → (is_taken cs name ≡ true → (i : ℕ) × (d : Field) × (slice_get cs i ≡ Some d) × (d.name ≡ name))
      → (b || is_taken cs name) ≡ true → (i : ℕ) × (d : Field) × (slice_get (c ∷ cs) i ≡ Some d) × (d.name ≡ name)
  by true is more g = (0, c, refl, same_text_is c.name name is)
  by false is more g = let r = more g in (suc r.0, r.1, r.2, r.3)

pub different_apart : (cs : List Field) → AreDifferent cs → Apart cs
different_apart [] h = tt
different_apart (c ∷ cs) h = (is_false (is_taken cs c.name) no_more, different_apart cs rest) where
  rest : AreDifferent cs
  rest i j x y e f is = let more : suc i ≡ suc j = h (suc i) (suc j) x y e f is in omega (arith, more)

  no_more : is_taken cs c.name ≡ true → ⊥
  no_more e = let r = taken_there cs c.name e in let is : 0 ≡ suc r.0 = h 0 (suc r.0) c r.1 refl r.2 (sym r.3) in absurd (omega (arith, is))

-- ---- one in place of another of its name

abbrev pub NamedAt : List Field → ℕ → List ℕ → Type 0
NamedAt [] i name = ⊥
NamedAt (c ∷ cs) zero name = c.name ≡ name
NamedAt (c ∷ cs) (suc i) name = NamedAt cs i name

taken_set : (cs : List Field) (i : ℕ) (f : Field) (name : List ℕ) → NamedAt cs i f.name → is_taken (slice_set cs i f) name ≡ is_taken cs name
taken_set [] i f name h = absurd h
taken_set (c ∷ cs) zero f name h = ap (λ n. same n name || is_taken cs name) (sym h)
taken_set (c ∷ cs) (suc i) f name h = ap (λ b. same c.name name || b) (taken_set cs i f name h)

pub set_apart : (cs : List Field) (i : ℕ) (f : Field) → NamedAt cs i f.name → Apart cs → Apart (slice_set cs i f)
set_apart [] i f h k = absurd h
set_apart (c ∷ cs) zero f h k = (subst (λ n. is_taken cs n ≡ false) h k.0, k.1)
set_apart (c ∷ cs) (suc i) f h k = (taken_set cs i f c.name h ∙ k.0, set_apart cs i f h k.1)

found_at : (j : ℕ) (cs : List Field) (name : List ℕ) (p : ℕ × Ty) → first_named j cs name ≡ Some p → (i : ℕ) × (p.0 ≡ i + j) × NamedAt cs i name
found_at j [] name p e = absurd (cc)
found_at j (c ∷ cs) name p e = by (same c.name name) refl (λ g. found_at (suc j) cs name p g) e where
  by : (b : Bool) → same c.name name ≡ b → (first_named (suc j) cs name ≡ Some p → (i : ℕ) × (p.0 ≡ i + suc j) × NamedAt cs i name)
      → cond b (Some (j, c.ty)) (first_named (suc j) cs name) ≡ Some p → (i : ℕ) × (p.0 ≡ i + j) × NamedAt (c ∷ cs) i name
  by true is more g = let at : (j, c.ty) ≡ p = cc in let n : p.0 ≡ j = sym (ap (λ (z : ℕ × Ty). z.0) at) in (0, omega (arith, n), same_text_is c.name name is)
  by false is more g = let r = more g in (suc r.0, omega (arith, r.1), r.2)

pub found_named : (cs : List Field) (name : List ℕ) (p : ℕ × Ty) → first_named 0 cs name ≡ Some p → NamedAt cs p.0 name
found_named cs name p e = let r = found_at 0 cs name p e in let is : r.0 ≡ p.0 = omega (arith, r.1) in subst (λ i. NamedAt cs i name) is r.2

unfound_from : (j : ℕ) (cs : List Field) (name : List ℕ) → first_named j cs name ≡ None → is_taken cs name ≡ false
unfound_from j [] name e = refl
unfound_from j (c ∷ cs) name e = by (same c.name name) (λ g. unfound_from (suc j) cs name g) e where
  by : (b : Bool) → (first_named (suc j) cs name ≡ None → is_taken cs name ≡ false) → cond b (Some (j, c.ty)) (first_named (suc j) cs name) ≡ None
      → (b || is_taken cs name) ≡ false
  by true more g = absurd (cc)
  by false more g = more g

pub unfound : (cs : List Field) (name : List ℕ) → first_named 0 cs name ≡ None → is_taken cs name ≡ false
unfound cs name e = unfound_from 0 cs name e

-- ---- free names

-- different, where there are no more than a vector holds
abbrev pub IfFew : List Field → Type 0
IfFew fs = length fs < 2 ^ 63 → Apart fs

pub few_behind : (fs : List Field) (f : Field) → IfFew fs → (length fs + 1 < 2 ^ 63 → is_taken fs f.name ≡ false) → IfFew (fs ++ f ∷ [])
few_behind fs f h free few =
    let n : length fs + 1 < 2 ^ 63 = omega (arith, few, length-append fs (f ∷ [])) in
    apart_behind fs f (h (omega (arith, n))) (free n)

pub free_behind : (fs : List Field) (base : List ℕ) (t : Ty) → IfFew fs → IfFew (fs ++ field (free_name fs [] base) t ∷ [])
free_behind fs base t h = few_behind fs (field (free_name fs [] base) t) h (λ n. free_name-free fs [] base (omega (arith, n)))
