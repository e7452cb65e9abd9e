-- Which columns a union has, and that each column of its arms fills one.
use Rattle.std.proofs.Common.{◌≡◌, ◌⊎◌, inl, inr, ℕ, zero, suc, ◌+◌, Bool, true, false, ◌||◌, ◌&&◌, cond, List, [], ◌∷◌, Option, Some, None, refl, sym, ap, ◌∙◌, subst, arith}
use Rattle.std.specs.Prelude.{slice_get}
use Rattle.std.specs.List.{filter}
use Rattle.kq_bind_clauses.specs.Unions.{has_column, place_behind, put_behind_name, with_column, with_columns, all_columns, in_all, union_sources, of_type, filling}
use Rattle.kq_bind_columns.specs.Naming.{is_taken}
use Rattle.kq_bind_expressions.specs.Lookup.{first_named}
use Rattle.kq_value.specs.declared.schema.Field.{Field}
use Rattle.kq_value.specs.declared.ty.Ty.{Ty}
use Rattle.kq_value.specs.Schema.{same_field}
use Rattle.kq_value.specs.Ty.{same_ty}
use Rattle.kq_value.proofs.Fields.{same_ty-Decides, same_field-Decides}
use Rattle.kq_bind_query.specs.Different.{AreDifferent}
use Rattle.kq_bind_query.specs.United.{Has, IsOfAll, IsOfSome, FillsOne}
use Rattle.kq_bind_query.proofs.Apart.{same, same_text_is, are_same, not_both, is_false, or_first, or_else, there_taken, Apart, different_apart}
use Rattle.kq_bind_query.proofs.Together.{Among, has_among, among_has, has_insert, Single, FirstApart, sources_single, field_parts}

-- ---- columns that are there

pub there_among : (cs : List Field) (i : ℕ) (f : Field) → slice_get cs i ≡ Some f → Among cs f
there_among [] i f e = absurd (cc)
there_among (c ∷ cs) zero f e = let is : c ≡ f = cc in inl is
there_among (c ∷ cs) (suc i) f e = inr (there_among cs i f e)

pub among_there : (cs : List Field) (f : Field) → Among cs f → Has cs f
among_there [] f h = absurd h
among_there (c ∷ cs) f (inl h) = record { number = 0; there = ap (λ (z : Field). Some z) h }
among_there (c ∷ cs) f (inr h) = let r = among_there cs f h in record { number = suc r.number; there = r.there }

has_is : (cs : List Field) (f : Field) → Has cs f → has_column cs f ≡ true
has_is cs f h = among_has cs f (there_among cs h.number f h.there)

is_has : (cs : List Field) (f : Field) → has_column cs f ≡ true → Has cs f
is_has cs f e = among_there cs f (has_among cs f e)

-- ---- the columns of all arms

has_with : (cs : List Field) (f g : Field) → has_column (with_column cs f) g ≡ (same_field g f || has_column cs g)
has_with cs f g = by (has_column cs f) (same_field g f) refl refl where
  by : (b c : Bool) → has_column cs f ≡ b → same_field g f ≡ c → has_column (cond b cs (put_behind_name cs f)) g ≡ (c || has_column cs g)
  by false c e i = has_insert cs (place_behind cs f.name) f g ∙ ap (λ z. z || has_column cs g) i
  by true false e i = refl
  by true true e i = subst (λ (z : Field). has_column cs z ≡ true) (sym ((same_field-Decides g f).0 i)) e

turned : (a b c : Bool) → (a || (b || c)) ≡ ((b || a) || c)
turned true true c = refl
turned true false c = refl
turned false true c = refl
turned false false c = refl

has_more : (cs fs : List Field) (g : Field) → has_column (with_columns cs fs) g ≡ (has_column fs g || has_column cs g)
has_more cs [] g = refl
has_more cs (f ∷ fs) g =
    has_more (with_column cs f) fs g ∙ ap (λ z. has_column fs g || z) (has_with cs f g) ∙ turned (has_column fs g) (same_field g f) (has_column cs g)

either_one : (a b : Bool) → (a || b) ≡ true → (a ≡ true) ⊎ (b ≡ true)
either_one true b e = inl refl
either_one false b e = inr e

arm_first : (a : List Field) (arms : List (List Field)) → Has (a ∷ arms) a
arm_first a arms = record { number = 0; there = refl }

arm_later : (a b : List Field) (arms : List (List Field)) → Has arms b → Has (a ∷ arms) b
arm_later a b arms h = record { number = suc h.number; there = h.there }

some_later : (a : List Field) (arms : List (List Field)) (g : Field) → IsOfSome arms g → IsOfSome (a ∷ arms) g
some_later a arms g h = record { arm = h.arm; among = arm_later a h.arm arms h.among; has = h.has }

comes_from : (cs : List Field) (arms : List (List Field)) (g : Field) → has_column (all_columns cs arms) g ≡ true
    → (has_column cs g ≡ true) ⊎ IsOfSome arms g
comes_from cs [] g e = inl e
comes_from cs (a ∷ arms) g e = by (comes_from (with_columns cs a) arms g e) where
  own : (has_column a g ≡ true) ⊎ (has_column cs g ≡ true) → (has_column cs g ≡ true) ⊎ IsOfSome (a ∷ arms) g
  own (inl i) = inr (record { arm = a; among = arm_first a arms; has = is_has a g i })
  own (inr i) = inl i

  by : (has_column (with_columns cs a) g ≡ true) ⊎ IsOfSome arms g → (has_column cs g ≡ true) ⊎ IsOfSome (a ∷ arms) g
  by (inl i) = own (either_one (has_column a g) (has_column cs g) (sym (has_more cs a g) ∙ i))
  by (inr h) = inr (some_later a arms g h)

stays : (cs : List Field) (arms : List (List Field)) (g : Field) → has_column cs g ≡ true → has_column (all_columns cs arms) g ≡ true
stays cs [] g e = e
stays cs (a ∷ arms) g e = stays (with_columns cs a) arms g (has_more cs a g ∙ or_else (has_column a g) (has_column cs g) e)

goes_in : (cs : List Field) (arms : List (List Field)) (g : Field) (i : ℕ) (arm : List Field) → slice_get arms i ≡ Some arm → has_column arm g ≡ true
    → has_column (all_columns cs arms) g ≡ true
goes_in cs [] g i arm e h = absurd (cc)
goes_in cs (a ∷ arms) g zero arm e h =
    let is : a ≡ arm = cc in
    stays (with_columns cs a) arms g (has_more cs a g ∙ or_first (has_column a g) (has_column cs g) (subst (λ (z : List Field). has_column z g ≡ true) (sym is) h))
goes_in cs (a ∷ arms) g (suc i) arm e h = goes_in (with_columns cs a) arms g i arm e h

no_true : false ≡ true → ⊥
no_true e = cc

-- an outer union has the columns of any arm
pub outer_some : (arms : List (List Field)) (f : Field) → Has (union_sources false arms) f → IsOfSome arms f
outer_some arms f h = by (comes_from [] arms f (has_is (all_columns [] arms) f h)) where
  by : (false ≡ true) ⊎ IsOfSome arms f → IsOfSome arms f
  by (inl e) = absurd (no_true e)
  by (inr s) = s

pub some_outer : (arms : List (List Field)) (f : Field) → IsOfSome arms f → Has (union_sources false arms) f
some_outer arms f s = is_has (all_columns [] arms) f (goes_in [] arms f s.among.number s.arm s.among.there (has_is s.arm f s.has))

-- ---- the columns that all arms have

both_true : (a b : Bool) → (a && b) ≡ true → (a ≡ true) × (b ≡ true)
both_true true b e = (refl, e)
both_true false b e = absurd (cc)

true_both : (a b : Bool) → a ≡ true → b ≡ true → (a && b) ≡ true
true_both true b e f = f
true_both false b e f = absurd (cc)

all_have : (arms : List (List Field)) (f : Field) → in_all arms f ≡ true → IsOfAll arms f
all_have [] f e arm h = let no = h.there in absurd (cc)
all_have (a ∷ arms) f e arm h = let p = both_true (has_column a f) (in_all arms f) e in by p.0 (all_have arms f p.1) h.number h.there where
  by : has_column a f ≡ true → IsOfAll arms f → (n : ℕ) → slice_get (a ∷ arms) n ≡ Some arm → Has arm f
  by own rest zero is = let same : a ≡ arm = cc in subst (λ (z : List Field). Has z f) same (is_has a f own)
  by own rest (suc n) is = rest arm (record { number = n; there = is })

have_all : (arms : List (List Field)) (f : Field) → IsOfAll arms f → in_all arms f ≡ true
have_all [] f h = refl
have_all (a ∷ arms) f h =
    true_both (has_column a f) (in_all arms f) (has_is a f (h a (arm_first a arms))) (have_all arms f (λ b at. h b (arm_later a b arms at)))

pub filtered_from : (p : Field → Bool) (cs : List Field) (f : Field) → Among (filter p cs) f → Among cs f × (p f ≡ true)
filtered_from p [] f h = absurd h
filtered_from p (c ∷ cs) f h = by (p c) refl h (filtered_from p cs f) where
  by : (b : Bool) → p c ≡ b → Among (cond b (c ∷ filter p cs) (filter p cs)) f → (Among (filter p cs) f → Among cs f × (p f ≡ true))
      → Among (c ∷ cs) f × (p f ≡ true)
  by true is (inl e) more = (inl e, subst (λ (z : Field). p z ≡ true) e is)
  by true is (inr at) more = let r = more at in (inr r.0, r.1)
  by false is at more = let r = more at in (inr r.0, r.1)

filtered_to : (p : Field → Bool) (cs : List Field) (f : Field) → Among cs f → p f ≡ true → Among (filter p cs) f
filtered_to p [] f h e = absurd h
filtered_to p (c ∷ cs) f (inl h) e = by (p c) (subst (λ (z : Field). p z ≡ true) (sym h) e) where
  by : (b : Bool) → b ≡ true → Among (cond b (c ∷ filter p cs) (filter p cs)) f
  by true is = inl h
  by false is = absurd (cc)
filtered_to p (c ∷ cs) f (inr h) e = by (p c) (filtered_to p cs f h e) where
  by : (b : Bool) → Among (filter p cs) f → Among (cond b (c ∷ filter p cs) (filter p cs)) f
  by true more = inr more
  by false more = more

-- an inner union has the columns of every arm
pub inner_all : (a : List Field) (arms : List (List Field)) (f : Field) → Has (union_sources true (a ∷ arms)) f → IsOfAll (a ∷ arms) f
inner_all a arms f h =
    let at = filtered_from (in_all arms) a f (there_among (union_sources true (a ∷ arms)) h.number f h.there) in
    all_have (a ∷ arms) f (true_both (has_column a f) (in_all arms f) (among_has a f at.0) at.1)

pub all_inner : (a : List Field) (arms : List (List Field)) (f : Field) → IsOfAll (a ∷ arms) f → Has (union_sources true (a ∷ arms)) f
all_inner a arms f h =
    let own = h a (arm_first a arms) in
    let rest = have_all arms f (λ b at. h b (arm_later a b arms at)) in
    among_there (union_sources true (a ∷ arms)) f (filtered_to (in_all arms) a f (there_among a own.number f own.there) rest)

-- ---- what fills them

single_places : (cs : List Field) (i j : ℕ) (f : Field) → Single cs → slice_get cs i ≡ Some f → slice_get cs j ≡ Some f → i ≡ j
single_places [] i j f h e g = absurd (cc)
single_places (c ∷ cs) zero zero f h e g = refl
single_places (c ∷ cs) zero (suc j) f h e g =
    let is : c ≡ f = cc in
    absurd (not_both (has_column cs f) (among_has cs f (there_among cs j f g)) (subst (λ (z : Field). has_column cs z ≡ false) is h.0))
single_places (c ∷ cs) (suc i) zero f h e g =
    let is : c ≡ f = cc in
    absurd (not_both (has_column cs f) (among_has cs f (there_among cs i f e)) (subst (λ (z : Field). has_column cs z ≡ false) is h.0))
single_places (c ∷ cs) (suc i) (suc j) f h e g = ap (λ n. suc n) (single_places cs i j f h.1 e g)

-- the first of a name is the one, where names are different
first_is : (j : ℕ) (cs : List Field) (i : ℕ) (c : Field) → Apart cs → slice_get cs i ≡ Some c → first_named j cs c.name ≡ Some (i + j, c.ty)
first_is j [] i c h e = absurd (cc)
first_is j (d ∷ cs) zero c h e =
    let is : d ≡ c = cc in
    let named : same d.name c.name ≡ true = are_same d.name c.name (ap (λ (z : Field). z.name) is) in
    let n : j ≡ 0 + j = omega arith in
    ap (λ b. cond b (Some (j, d.ty)) (first_named (suc j) cs c.name)) named ∙ ap (λ (z : Field). Some (j, z.ty)) is ∙ ap (λ k. Some (k, c.ty)) n
first_is j (d ∷ cs) (suc i) c h e =
    let other : same d.name c.name ≡ false =
    is_false (same d.name c.name) (λ is. not_both (is_taken cs c.name) (there_taken cs i c e) (subst (λ n. is_taken cs n ≡ false) (same_text_is d.name c.name is) h.0)) in
    let n : i + suc j ≡ suc i + j = omega arith in
    ap (λ b. cond b (Some (j, d.ty)) (first_named (suc j) cs c.name)) other ∙ first_is (suc j) cs i c h.1 e ∙ ap (λ k. Some (k, c.ty)) n

found_column : (j : ℕ) (cs : List Field) (name : List ℕ) (p : ℕ × Ty) → first_named j cs name ≡ Some p
    → (i : ℕ) × (c : Field) × (p.0 ≡ i + j) × (slice_get cs i ≡ Some c) × (c.name ≡ name) × (c.ty ≡ p.1)
found_column j [] name p e = absurd (cc)
found_column j (c ∷ cs) name p e = by (same c.name name) refl (found_column (suc j) cs name p) e where
  by : (b : Bool) → same c.name name ≡ b
      → (first_named (suc j) cs name ≡ Some p → (i : ℕ) × (d : Field) × (p.0 ≡ i + suc j) × (slice_get cs i ≡ Some d) × (d.name ≡ name) × (d.ty ≡ p.1))
      → cond b (Some (j, c.ty)) (first_named (suc j) cs name) ≡ Some p
      → (i : ℕ) × (d : Field) × (p.0 ≡ i + j) × (slice_get (c ∷ cs) i ≡ Some d) × (d.name ≡ name) × (d.ty ≡ p.1)
  by true is more g =
      let at : (j, c.ty) ≡ p = cc in
      let n : p.0 ≡ j = sym (ap (λ (z : ℕ × Ty). z.0) at) in
      (0, c, omega (arith, n), refl, same_text_is c.name name is, ap (λ (z : ℕ × Ty). z.1) at)
  by false is more g = let r = more g in (suc r.0, r.1, omega (arith, r.2), r.3, r.4, r.5)

filling_at : (arm sources : List Field) (k : ℕ) (f : Field) → slice_get sources k ≡ Some f
    → slice_get (filling arm sources) k ≡ Some (of_type f.ty (first_named 0 arm f.name))
filling_at arm [] k f e = absurd (cc)
filling_at arm (g ∷ sources) zero f e =
    let is : g ≡ f = cc in ap (λ (z : Field). Some (of_type z.ty (first_named 0 arm z.name))) is
filling_at arm (g ∷ sources) (suc k) f e = filling_at arm sources k f e

filling_of : (arm sources : List Field) (k : ℕ) (o : Option ℕ) → slice_get (filling arm sources) k ≡ Some o
    → (f : Field) × (slice_get sources k ≡ Some f) × (of_type f.ty (first_named 0 arm f.name) ≡ o)
filling_of arm [] k o e = absurd (cc)
filling_of arm (g ∷ sources) zero o e = (g, refl, (cc))
filling_of arm (g ∷ sources) (suc k) o e = filling_of arm sources k o e

typed_number : (t : Ty) (o : Option (ℕ × Ty)) (i : ℕ) → of_type t o ≡ Some i → (p : ℕ × Ty) × (o ≡ Some p) × (p.0 ≡ i) × (p.1 ≡ t)
typed_number t None i e = absurd (cc)
typed_number t (Some p) i e = by (same_ty p.1 t) refl e where
  by : (b : Bool) → same_ty p.1 t ≡ b → cond b (Some p.0) None ≡ Some i → (q : ℕ × Ty) × (Some p ≡ Some q) × (q.0 ≡ i) × (q.1 ≡ t)
  by true is g = (p, refl, (cc), (same_ty-Decides p.1 t).0 is)
  by false is g = absurd (cc)

number_typed : (t : Ty) (i : ℕ) → of_type t (Some (i, t)) ≡ Some i
number_typed t i = ap (λ b. cond b (Some i) None) ((same_ty-Decides t t).1 refl)

same_some : (a b : Field) → Some a ≡ Some b → a ≡ b
same_some a b e = cc

-- each column of an arm that the union has fills one of its columns
pub fills_one : (arm sources : List Field) (i : ℕ) (c : Field) → AreDifferent arm → Single sources → slice_get arm i ≡ Some c → Has sources c
    → FillsOne arm sources i c
fills_one arm sources i c different single at has = record {
  place = has.number;
  source = has.there;
  fills = filling_at arm sources has.number c has.there ∙ ap (λ (o : Option (ℕ × Ty)). Some (of_type c.ty o)) found ∙ ap (λ (o : Option ℕ). Some o) (number_typed c.ty i);
  only = one;
} where
  found : first_named 0 arm c.name ≡ Some (i, c.ty)
  found = let n : i + 0 ≡ i = omega arith in first_is 0 arm i c (different_apart arm different) at ∙ ap (λ k. Some (k, c.ty)) n

  one : (k : ℕ) → slice_get (filling arm sources) k ≡ Some (Some i) → k ≡ has.number
  one k e =
      let f = filling_of arm sources k (Some i) e in
      let p = typed_number f.0.ty (first_named 0 arm f.0.name) i f.2 in
      let q = found_column 0 arm f.0.name p.0 p.1 in
      let n : q.0 ≡ i = omega (arith, q.2, p.2) in
      let here : slice_get arm i ≡ Some q.1 = subst (λ m. slice_get arm m ≡ Some q.1) n q.3 in
      let same : q.1 ≡ c = same_some q.1 c (sym here ∙ at) in
      let is : f.0 ≡ c = field_parts f.0 q.1 (sym q.4) (sym p.3 ∙ sym q.5) ∙ same in
      single_places sources k has.number c single (f.1 ∙ ap (λ (z : Field). Some z) is) has.there

-- ---- unions

first_apart : (arms : List (List Field)) → ((a : List Field) → Has arms a → AreDifferent a) → FirstApart arms
first_apart [] h = tt
first_apart (a ∷ arms) h = different_apart a (h a (arm_first a arms))

pub union_fills : (inner : Bool) (arms : List (List Field)) (arm : List Field) (i : ℕ) (c : Field) → ((a : List Field) → Has arms a → AreDifferent a)
    → Has arms arm → slice_get arm i ≡ Some c → Has (union_sources inner arms) c → FillsOne arm (union_sources inner arms) i c
union_fills inner arms arm i c different among at has =
    fills_one arm (union_sources inner arms) i c (different arm among) (sources_single inner arms (first_apart arms different)) at has
