-- The columns of a union stand in the places of its sources, under their names or under names with their types.
use Rattle.std.proofs.Common.{◌≡◌, ◌⊎◌, inl, inr, ℕ, zero, suc, ◌+◌, Bool, true, false, ◌||◌, ◌&&◌, not, cond, List, [], ◌∷◌, ◌++◌, length, Some, refl, sym, ap, ◌∙◌, subst}
use Rattle.std.specs.Prelude.{slice_get, decimal}
use Rattle.kq_bind_clauses.specs.Unions.{is_mixed, keep_names, typed_name, names_made, union_columns}
use Rattle.kq_bind_columns.specs.Items.{field}
use Rattle.kq_bind_columns.specs.Naming.{is_taken, numbered, free_name, first_free}
use Rattle.kq_value.specs.declared.schema.Field.{Field}
use Rattle.kq_value.specs.Ty.{same_ty}
use Rattle.kq_value.proofs.Fields.{same_ty-Decides}
use Rattle.kq_bind_query.specs.United.{IsOfOneType, IsSuffixed, base_name, StandsInUnion}
use Rattle.kq_bind_query.proofs.Apart.{same, same_text_is, are_same, not_both, or_first, or_else, taken_append, taken_there}
use Rattle.kq_bind_query.proofs.Filled.{there_among, among_there, filtered_from}
use Rattle.kq_bind_query.proofs.Suffixed.{taken_named, found}
use Rattle.kq_bind_query.proofs.Together.{Among, mixed_there}

-- ---- names of several types

not_mixed : (sources : List Field) (f : Field) → IsOfOneType sources f → is_mixed sources f ≡ false
not_mixed sources f h = none sources (λ g at. h g (among_there sources g at)) where
  none : (cs : List Field) → ((g : Field) → Among cs g → g.name ≡ f.name → g.ty ≡ f.ty) → is_mixed cs f ≡ false
  none [] k = refl
  none (c ∷ cs) k = by (same c.name f.name) (same_ty c.ty f.ty) refl refl (none cs (λ g at. k g (inr at))) where
    by : (a b : Bool) → same c.name f.name ≡ a → same_ty c.ty f.ty ≡ b → is_mixed cs f ≡ false → ((a && not b) || is_mixed cs f) ≡ false
    by false b e g more = more
    by true true e g more = more
    by true false e g more = absurd (not_both (same_ty c.ty f.ty) ((same_ty-Decides c.ty f.ty).1 (k c (inl refl) (same_text_is c.name f.name e))) g)

mixed_not : (sources : List Field) (f : Field) → (IsOfOneType sources f → ⊥) → is_mixed sources f ≡ true
mixed_not sources f h = by (is_mixed sources f) refl where
  all : is_mixed sources f ≡ false → IsOfOneType sources f
  all e g has name = one (same_ty g.ty f.ty) refl where
    one : (b : Bool) → same_ty g.ty f.ty ≡ b → g.ty ≡ f.ty
    one true is = (same_ty-Decides g.ty f.ty).0 is
    one false is =
        let other : g.ty ≡ f.ty → ⊥ = λ t. not_both (same_ty g.ty f.ty) ((same_ty-Decides g.ty f.ty).1 t) is in
        absurd (not_both (is_mixed sources f) (mixed_there sources f g (there_among sources has.number g has.there) name other) e)

  by : (b : Bool) → is_mixed sources f ≡ b → b ≡ true
  by true e = refl
  by false e = absurd (h (all e))

-- ---- names that a union has

-- each name that the first have, the second have too
abbrev IsIn : List Field → List Field → Type 0
IsIn cs ds = (name : List ℕ) → is_taken cs name ≡ true → is_taken ds name ≡ true

rest_in : (c : Field) (cs ds : List Field) → IsIn (c ∷ cs) ds → IsIn cs ds
rest_in c cs ds h name e = h name (or_else (same c.name name) (is_taken cs name) e)

more_in : (taken : List Field) (c : Field) (cs ds : List Field) → IsIn taken ds → IsIn (c ∷ cs) ds → IsIn (taken ++ c ∷ []) ds
more_in taken c cs ds h k name e = by (is_taken taken name) (same c.name name) refl refl (sym (taken_append taken (c ∷ []) name) ∙ e) where
  by : (a b : Bool) → is_taken taken name ≡ a → same c.name name ≡ b → (a || (b || false)) ≡ true → is_taken ds name ≡ true
  by true b e f g = h name e
  by false true e f g = k name (or_first (same c.name name) (is_taken cs name) f)
  by false false e f g = absurd (cc)

-- a column that keeps its name is there
kept_there : (every taken fs : List Field) (g : Field) → Among fs g → is_mixed every g ≡ false → is_taken (names_made every taken fs) g.name ≡ true
kept_there every taken [] g h e = absurd h
kept_there every taken (f ∷ fs) g (inl h) e = by (is_mixed every f) (subst (λ (z : Field). is_mixed every z ≡ false) (sym h) e) where
  by : (b : Bool) → b ≡ false
      → is_taken (cond b (field (typed_name taken f) f.ty ∷ names_made every (taken ++ field (typed_name taken f) f.ty ∷ []) fs) (f ∷ names_made every taken fs)) g.name ≡ true
  by true is = absurd (cc)
  by false is = or_first (same f.name g.name) (is_taken (names_made every taken fs) g.name) (are_same f.name g.name (ap (λ (z : Field). z.name) h))
kept_there every taken (f ∷ fs) g (inr h) e =
    by (is_mixed every f) (kept_there every (taken ++ field (typed_name taken f) f.ty ∷ []) fs g h e) (kept_there every taken fs g h e)
  where
    by : (b : Bool) → is_taken (names_made every (taken ++ field (typed_name taken f) f.ty ∷ []) fs) g.name ≡ true
        → is_taken (names_made every taken fs) g.name ≡ true
        → is_taken (cond b (field (typed_name taken f) f.ty ∷ names_made every (taken ++ field (typed_name taken f) f.ty ∷ []) fs) (f ∷ names_made every taken fs)) g.name ≡ true
    by true one two = or_else (same (typed_name taken f) g.name) (is_taken (names_made every (taken ++ field (typed_name taken f) f.ty ∷ []) fs) g.name) one
    by false one two = or_else (same f.name g.name) (is_taken (names_made every taken fs) g.name) two

not_false : (b : Bool) → not b ≡ true → b ≡ false
not_false false e = refl
not_false true e = absurd (cc)

keep_in : (sources : List Field) → IsIn (keep_names sources) (union_columns sources)
keep_in sources name e =
    let r = taken_there (keep_names sources) name e in
    let at = filtered_from (λ f. not (is_mixed sources f)) sources r.1 (there_among (keep_names sources) r.0 r.1 r.2) in
    subst (λ n. is_taken (union_columns sources) n ≡ true) r.3
    (kept_there sources (keep_names sources) sources r.1 at.0 (not_false (is_mixed sources r.1) at.1))

-- ---- the columns themselves

-- a name that is made free among columns that the union has
named_so : (taken columns : List Field) (base : List ℕ) → IsIn taken columns → (free_name taken [] base ≡ base) ⊎ IsSuffixed columns base (free_name taken [] base)
named_so taken columns base h = by (is_taken taken base) refl where
  none_more : (b : Bool) → (b || false) ≡ true → b ≡ true
  none_more true e = refl
  none_more false e = absurd (cc)

  by : (b : Bool) → is_taken taken base ≡ b
      → (cond b (first_free (length taken + length {A = Field} []) 1 taken [] base) base ≡ base)
      ⊎ IsSuffixed columns base (cond b (first_free (length taken + length {A = Field} []) 1 taken [] base) base)
  by false e = inl refl
  by true e =
      let r = found (length taken + length {A = Field} []) 1 taken [] base in
      inr (record {
        number = r.number;
        written = r.written;
        positive = r.least;
        without = taken_named columns base (h base e);
        lesser = λ k low high. taken_named columns (base ++ decimal k) (h (base ++ decimal k) (none_more (is_taken taken (numbered base k)) (r.lesser k low high)));
      })

abbrev made_for : List Field → List Field → Field → Field
made_for every taken f = cond (is_mixed every f) (field (typed_name taken f) f.ty) f

pub record MadeAt (every columns made : List Field) (k : ℕ) (f : Field) : Type 0 where
  pub taken : List Field
  pub inside : IsIn taken columns
  pub there : slice_get made k ≡ Some (made_for every taken f)

made_at : (every taken fs columns : List Field) (k : ℕ) (f : Field) → slice_get fs k ≡ Some f → IsIn taken columns → IsIn (names_made every taken fs) columns
    → MadeAt every columns (names_made every taken fs) k f
made_at every taken [] columns k f e h i = absurd (cc)
made_at every taken (g ∷ fs) columns zero f e h i =
    let is : g ≡ f = cc in
    subst (λ (z : Field). MadeAt every columns (names_made every taken (g ∷ fs)) zero z) is (record { taken = taken; inside = h; there = by (is_mixed every g) })
  where
    by : (b : Bool) → slice_get (cond b (field (typed_name taken g) g.ty ∷ names_made every (taken ++ field (typed_name taken g) g.ty ∷ []) fs)
        (g ∷ names_made every taken fs)) zero ≡ Some (cond b (field (typed_name taken g) g.ty) g)
    by true = refl
    by false = refl
made_at every taken (g ∷ fs) columns (suc k) f e h i =
    by (is_mixed every g) i (made_at every (taken ++ t ∷ []) fs columns k f e) (made_at every taken fs columns k f e h)
  where
    t : Field
    t = field (typed_name taken g) g.ty

    by : (b : Bool) → IsIn (cond b (t ∷ names_made every (taken ++ t ∷ []) fs) (g ∷ names_made every taken fs)) columns
        → (IsIn (taken ++ t ∷ []) columns → IsIn (names_made every (taken ++ t ∷ []) fs) columns → MadeAt every columns (names_made every (taken ++ t ∷ []) fs) k f)
        → (IsIn (names_made every taken fs) columns → MadeAt every columns (names_made every taken fs) k f)
        → MadeAt every columns (cond b (t ∷ names_made every (taken ++ t ∷ []) fs) (g ∷ names_made every taken fs)) (suc k) f
    by true all one two =
        let rest = names_made every (taken ++ t ∷ []) fs in
        let r = one (more_in taken t rest columns h all) (rest_in t rest columns all) in
        record { taken = r.taken; inside = r.inside; there = r.there }
    by false all one two =
        let r = two (rest_in g (names_made every taken fs) columns all) in record { taken = r.taken; inside = r.inside; there = r.there }

pub stands_for : (sources : List Field) (k : ℕ) (f : Field) → slice_get sources k ≡ Some f → StandsInUnion sources k f
stands_for sources k f e =
    let at = made_at sources (keep_names sources) sources (union_columns sources) k f e (keep_in sources) (λ name is. is) in
    record {
      column = made_for sources at.taken f;
      there = at.there;
      of_type = by (is_mixed sources f) at.taken;
      kept = λ one. ap (λ b. (cond b (field (typed_name at.taken f) f.ty) f).name) (not_mixed sources f one);
      typed = λ several.
          let is : typed_name at.taken f ≡ (made_for sources at.taken f).name =
          ap (λ b. (cond b (field (typed_name at.taken f) f.ty) f).name) (sym (mixed_not sources f several)) in
          subst (λ name. (name ≡ base_name f) ⊎ IsSuffixed (union_columns sources) (base_name f) name) is
          (named_so at.taken (union_columns sources) (base_name f) at.inside);
    }
  where
    by : (b : Bool) (taken : List Field) → (cond b (field (typed_name taken f) f.ty) f).ty ≡ f.ty
    by true taken = refl
    by false taken = refl
