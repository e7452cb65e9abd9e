-- Columns that are laid over others, left out, renamed or chosen have different names where those that come have.
use Rattle.std.proofs.Common.{◌≡◌, ◌≢◌, ◌⊎◌, inl, inr, ℕ, suc, ◌+◌, ◌≤◌, Bool, true, false, ◌||◌, ◌&&◌, cond, List, [], ◌∷◌, ◌++◌, length, length-append, Option, Some, None, Ok, Err, refl, sym, ap, ◌∙◌, subst, arith}
use Rattle.std.specs.Prelude.{nat_eq, slice_get}
use Rattle.std.specs.List.{zip}
use Rattle.std.proofs.lemmas.Bool.{eqb-true, eqb-false, ne_eqb}
use Rattle.kq_bind_columns.specs.Chosen.{has_number, place_in, choose, chosen, if_there, columns_at, without, names_given, new_name, renamed}
use Rattle.kq_bind_columns.specs.Items.{field, Making}
use Rattle.kq_bind_columns.specs.Laying.{Columns, as_they_are, laid_at, laid, all_laid, over}
use Rattle.kq_bind_columns.specs.Naming.{is_taken}
use Rattle.kq_bind_expressions.specs.Lookup.{first_named}
use Rattle.kq_bind_expressions.specs.Verdicts.{Verdict, and_then, mistyped}
use Rattle.kq_plan_expressions.specs.Terms.{Term, column}
use Rattle.kq_read_grammar.specs.declared.expression.Name.{Name}
use Rattle.kq_read_meanings.specs.Names.{name_said, name_place}
use Rattle.kq_value.specs.declared.schema.Field.{Field}
use Rattle.kq_value.specs.declared.ty.Ty.{Ty}
use Rattle.kq_value.specs.declared.ty.Ty.TheVariants as ty
use Rattle.kq_value.specs.Ty.{same_ty}
use Rattle.kq_bind_query.proofs.Progress.{then_ok, done, done_is}
use Rattle.kq_bind_query.proofs.Apart.{same, not_both, are_same, are_apart, neither, none_of, or_else, or_first, taken_append, Apart, apart_behind, apart_different, set_apart, found_named, unfound}

-- ---- columns that are laid over others

pub laid_apart : (p : Columns) (x : Term × Field) → Apart p.1 → Apart (laid p x).1
laid_apart p x h = by (first_named 0 p.1 x.1.name) refl where
  by : (o : Option (ℕ × Ty)) → first_named 0 p.1 x.1.name ≡ o → Apart (laid_at p x o).1
  by (Some k) is = set_apart p.1 k.0 x.1 (found_named p.1 x.1.name k is) h
  by None is = apart_behind p.1 x.1 h (unfound p.1 x.1.name is)

all_laid_apart : (p : Columns) (xs : List (Term × Field)) → Apart p.1 → Apart (all_laid p xs).1
all_laid_apart p [] h = h
all_laid_apart p (x ∷ xs) h = all_laid_apart (laid p x) xs (laid_apart p x h)

pub over_apart : (cs : List Field) (m : Making) → Apart cs → Apart (over cs m).1
over_apart cs m h = all_laid_apart (as_they_are 0 cs, cs) (zip m.terms m.fields) h

-- ---- columns that are left out

without_taken : (i : ℕ) (cs : List Field) (is : List ℕ) (name : List ℕ) → is_taken cs name ≡ false → is_taken (without i cs is).1 name ≡ false
without_taken i [] is name h = refl
without_taken i (c ∷ cs) is name h = by (has_number is i) (without_taken (suc i) cs is name k.1) where
  k : (same c.name name ≡ false) × (is_taken cs name ≡ false)
  k = neither (same c.name name) (is_taken cs name) h

  by : (b : Bool) → is_taken (without (suc i) cs is).1 name ≡ false
      → is_taken (cond b (without (suc i) cs is) (column i ∷ (without (suc i) cs is).0, c ∷ (without (suc i) cs is).1)).1 name ≡ false
  by true more = more
  by false more = none_of (same c.name name) (is_taken (without (suc i) cs is).1 name) k.0 more

rest_apart : (i : ℕ) (cs : List Field) (is : List ℕ) → Apart cs → Apart (without i cs is).1
rest_apart i [] is h = tt
rest_apart i (c ∷ cs) is h = by (has_number is i) (rest_apart (suc i) cs is h.1) where
  by : (b : Bool) → Apart (without (suc i) cs is).1
      → Apart (cond b (without (suc i) cs is) (column i ∷ (without (suc i) cs is).0, c ∷ (without (suc i) cs is).1)).1
  by true more = more
  by false more = (without_taken (suc i) cs is c.name h.0, more)

pub without_apart : (cs : List Field) (is : List ℕ) → Apart cs → Apart (without 0 cs is).1
without_apart cs is h = rest_apart 0 cs is h

-- ---- columns that are chosen

abbrev pub Once : List ℕ → Type 0
Once [] = Unit {0}
Once (i ∷ is) = (has_number is i ≡ false) × Once is

has_append : (is js : List ℕ) (i : ℕ) → has_number (is ++ js) i ≡ (has_number is i || has_number js i)
has_append [] js i = refl
has_append (k ∷ is) js i = by (nat_eq k i) (has_append is js i) where
  by : (b : Bool) → has_number (is ++ js) i ≡ (has_number is i || has_number js i) → (b || has_number (is ++ js) i) ≡ ((b || has_number is i) || has_number js i)
  by true e = refl
  by false e = e

numbers_apart : (a b : ℕ) → nat_eq a b ≡ false → nat_eq b a ≡ false
numbers_apart a b e = ne_eqb b a (λ is. eqb-false a b e (sym is))

once_behind : (is : List ℕ) (i : ℕ) → Once is → has_number is i ≡ false → Once (is ++ i ∷ [])
once_behind [] i h free = (refl, tt)
once_behind (k ∷ is) i h free =
    let p = neither (nat_eq k i) (has_number is i) free in
    let last : has_number (i ∷ []) k ≡ false = none_of (nat_eq i k) false (numbers_apart k i p.0) refl in
    (has_append is (i ∷ []) k ∙ none_of (has_number is k) (has_number (i ∷ []) k) h.0 last, once_behind is i h.1 p.1)

choose_once : (keys : Bool) (at : ℕ) (is : List ℕ) (p : ℕ × Ty) (js : List ℕ) → Once is → choose keys at is p ≡ Ok js → Once js
choose_once keys at is p js h e = by (has_number is p.0) refl e where
  by : (b : Bool) → has_number is p.0 ≡ b → cond (b || (keys && same_ty p.1 ty.Dynamic)) (Err (mistyped at)) (done (is ++ p.0 ∷ [])) ≡ Ok js → Once js
  by true here g = absurd (cc)
  by false here g = or_not (keys && same_ty p.1 ty.Dynamic) g where
    or_not : (b : Bool) → cond b (Err (mistyped at)) (done (is ++ p.0 ∷ [])) ≡ Ok js → Once js
    or_not true g = absurd (cc)
    or_not false g = subst Once (done_is (is ++ p.0 ∷ []) js g) (once_behind is p.0 h here)

choose_length : (keys : Bool) (at : ℕ) (is : List ℕ) (p : ℕ × Ty) (js : List ℕ) → choose keys at is p ≡ Ok js → length js ≡ length is + 1
choose_length keys at is p js e = by (has_number is p.0 || (keys && same_ty p.1 ty.Dynamic)) e where
  by : (b : Bool) → cond b (Err (mistyped at)) (done (is ++ p.0 ∷ [])) ≡ Ok js → length js ≡ length is + 1
  by true g = absurd (cc)
  by false g = subst (λ (z : List ℕ). length z ≡ length is + 1) (done_is (is ++ p.0 ∷ []) js g) (length-append is (p.0 ∷ []))

pub chosen_once : (text : List ℕ) (cs : List Field) (keys : Bool) (is : List ℕ) (ns : List Name) (js : List ℕ) → Once is → chosen text cs keys is ns ≡ Ok js
    → Once js
chosen_once text cs keys is [] js h e = subst Once (done_is is js e) h
chosen_once text cs keys is (n ∷ ns) js h e =
    let k = then_ok (and_then (place_in text cs n) (choose keys (name_place n) is)) (λ k. chosen text cs keys k ns) js e in
    let p = then_ok (place_in text cs n) (choose keys (name_place n) is) k.0 k.1 in
    chosen_once text cs keys k.0 ns js (choose_once keys (name_place n) is p.0 k.0 h p.2) k.2

pub chosen_length : (text : List ℕ) (cs : List Field) (keys : Bool) (is : List ℕ) (ns : List Name) (js : List ℕ) → chosen text cs keys is ns ≡ Ok js
    → length js ≡ length is + length ns
chosen_length text cs keys is [] js e = let same : length is ≡ length js = ap length (done_is is js e) in omega (arith, same)
chosen_length text cs keys is (n ∷ ns) js e =
    let k = then_ok (and_then (place_in text cs n) (choose keys (name_place n) is)) (λ k. chosen text cs keys k ns) js e in
    let p = then_ok (place_in text cs n) (choose keys (name_place n) is) k.0 k.1 in
    omega (arith, choose_length keys (name_place n) is p.0 k.0 p.2, chosen_length text cs keys k.0 ns js k.2)

-- a column that isn't chosen has another name
not_chosen : (cs : List Field) (is : List ℕ) (i : ℕ) (c : Field) → Apart cs → slice_get cs i ≡ Some c → has_number is i ≡ false
    → is_taken (columns_at cs is) c.name ≡ false
not_chosen cs [] i c h e free = refl
not_chosen cs (k ∷ is) i c h e free = by (slice_get cs k) refl (not_chosen cs is i c h e p.1) where
  p : (nat_eq k i ≡ false) × (has_number is i ≡ false)
  p = neither (nat_eq k i) (has_number is i) free

  by : (o : Option Field) → slice_get cs k ≡ o → is_taken (columns_at cs is) c.name ≡ false → is_taken (if_there o ++ columns_at cs is) c.name ≡ false
  by None is more = more
  by (Some d) here more = none_of (same d.name c.name) (is_taken (columns_at cs is) c.name) (are_apart d.name c.name other) more where
    other : d.name ≢ c.name
    other one = let n : k ≡ i = apart_different cs h k i d c here e one in eqb-false k i p.0 n

pub columns_at_apart : (cs : List Field) (is : List ℕ) → Apart cs → Once is → Apart (columns_at cs is)
columns_at_apart cs [] h once = tt
columns_at_apart cs (i ∷ is) h once = by (slice_get cs i) refl (columns_at_apart cs is h once.1) where
  by : (o : Option Field) → slice_get cs i ≡ o → Apart (columns_at cs is) → Apart (if_there o ++ columns_at cs is)
  by None here more = more
  by (Some c) here more = (not_chosen cs is i c h here once.0, more)

-- ---- columns that are renamed

-- the column of this number, where the columns are numbered from i
abbrev Stands : List Field → ℕ → ℕ → Field → Type 0
Stands [] i j d = ⊥
Stands (c ∷ cs) i j d = ((j ≡ i) × (c ≡ d)) ⊎ Stands cs (suc i) j d

not_before : (cs : List Field) (i j : ℕ) (d : Field) → Stands cs i j d → i ≤ j
not_before [] i j d h = absurd h
not_before (c ∷ cs) i j d (inl h) = omega (arith, h.0)
not_before (c ∷ cs) i j d (inr h) = omega (arith, not_before cs (suc i) j d h)

stands_taken : (cs : List Field) (i j : ℕ) (d : Field) → Stands cs i j d → is_taken cs d.name ≡ true
stands_taken [] i j d h = absurd h
stands_taken (c ∷ cs) i j d (inl h) = or_first (same c.name d.name) (is_taken cs d.name) (are_same c.name d.name (ap (λ (z : Field). z.name) h.1))
stands_taken (c ∷ cs) i j d (inr h) = or_else (same c.name d.name) (is_taken cs d.name) (stands_taken cs (suc i) j d h)

stays : (cs : List Field) (i j : ℕ) (d : Field) (is : List ℕ) → Stands cs i j d → has_number is j ≡ false → is_taken (without i cs is).1 d.name ≡ true
stays [] i j d is h free = absurd h
stays (c ∷ cs) i j d is (inl h) free = by (has_number is i) (subst (λ k. has_number is k ≡ false) h.0 free) where
  by : (b : Bool) → b ≡ false
      → is_taken (cond b (without (suc i) cs is) (column i ∷ (without (suc i) cs is).0, c ∷ (without (suc i) cs is).1)).1 d.name ≡ true
  by true e = absurd (cc)
  by false e = or_first (same c.name d.name) (is_taken (without (suc i) cs is).1 d.name) (are_same c.name d.name (ap (λ (z : Field). z.name) h.1))
stays (c ∷ cs) i j d is (inr h) free = by (has_number is i) (stays cs (suc i) j d is h free) where
  by : (b : Bool) → is_taken (without (suc i) cs is).1 d.name ≡ true
      → is_taken (cond b (without (suc i) cs is) (column i ∷ (without (suc i) cs is).0, c ∷ (without (suc i) cs is).1)).1 d.name ≡ true
  by true more = more
  by false more = or_else (same c.name d.name) (is_taken (without (suc i) cs is).1 d.name) more

-- each name is taken neither before nor by a name before it
abbrev Fresh : List Field → List (List ℕ) → Type 0
Fresh taken [] = Unit {0}
Fresh taken (n ∷ ns) = (is_taken taken n ≡ false) × Fresh (taken ++ field n ty.Long ∷ []) ns

given_fresh : (text : List ℕ) (taken : List Field) (ns : List Name) (names : List (List ℕ)) → names_given text taken ns ≡ Ok names
    → Fresh taken names × (length names ≡ length ns)
given_fresh text taken [] names e = let is : [] ≡ names = done_is [] names e in subst (λ (z : List (List ℕ)). Fresh taken z × (length z ≡ 0)) is (tt, refl)
given_fresh text taken (n ∷ ns) names e = by (is_taken taken (name_said text n)) refl (given_fresh text (taken ++ field (name_said text n) ty.Long ∷ []) ns) e where
  by : (b : Bool) → is_taken taken (name_said text n) ≡ b
      → ((more : List (List ℕ)) → names_given text (taken ++ field (name_said text n) ty.Long ∷ []) ns ≡ Ok more
      → Fresh (taken ++ field (name_said text n) ty.Long ∷ []) more × (length more ≡ length ns))
      → cond {A = Verdict (List (List ℕ))} b (Err (mistyped (name_place n)))
      (and_then (names_given text (taken ++ field (name_said text n) ty.Long ∷ []) ns) (λ more. done (name_said text n ∷ more))) ≡ Ok names
      → Fresh taken names × (length names ≡ suc (length ns))
  by true is less g = absurd (cc)
  by false is less g =
      let more = then_ok (names_given text (taken ++ field (name_said text n) ty.Long ∷ []) ns) (λ more. done (name_said text n ∷ more)) names g in
      let rest = less more.0 more.1 in
      let long : length (name_said text n ∷ more.0) ≡ suc (length ns) = omega (arith, rest.1) in
      subst (λ (z : List (List ℕ)). Fresh taken z × (length z ≡ suc (length ns))) (done_is (name_said text n ∷ more.0) names more.2) ((is, rest.0), long)

still_taken : (taken : List Field) (n name : List ℕ) → is_taken taken name ≡ true → is_taken (taken ++ field n ty.Long ∷ []) name ≡ true
still_taken taken n name h = taken_append taken (field n ty.Long ∷ []) name ∙ or_first (is_taken taken name) (same n name || false) h

last_taken : (taken : List Field) (n : List ℕ) → is_taken (taken ++ field n ty.Long ∷ []) n ≡ true
last_taken taken n =
    taken_append taken (field n ty.Long ∷ []) n
    ∙ or_else (is_taken taken n) (same n n || false) (or_first (same n n) false (are_same n n refl))

taken_other : (taken : List Field) (a b : List ℕ) → is_taken taken a ≡ true → is_taken taken b ≡ false → a ≢ b
taken_other taken a b t f e = not_both (is_taken taken b) (subst (λ n. is_taken taken n ≡ true) e t) f

-- the name of a column is not one that is taken, where its own isn't
not_that : (is : List ℕ) (ns : List (List ℕ)) (taken : List Field) (j : ℕ) (old name : List ℕ) → Fresh taken ns → length ns ≡ length is
    → is_taken taken name ≡ true → (has_number is j ≡ false → old ≢ name) → new_name is ns j old ≢ name
not_that [] ns taken j old name fresh long t own = own refl
not_that (k ∷ is) [] taken j old name fresh long t own = absurd (omega (arith, long))
not_that (k ∷ is) (n ∷ ns) taken j old name fresh long t own =
    by (nat_eq k j) (λ (f : has_number is j ≡ false → old ≢ name).
    not_that is ns (taken ++ field n ty.Long ∷ []) j old name fresh.1 (omega (arith, long)) (still_taken taken n name t) f) own
  where
    by : (b : Bool) → ((has_number is j ≡ false → old ≢ name) → new_name is ns j old ≢ name) → ((b || has_number is j) ≡ false → old ≢ name)
        → cond b n (new_name is ns j old) ≢ name
    by true more own = λ e. taken_other taken name n t fresh.0 (sym e)
    by false more own = more own

-- two columns of different names have different names afterwards
stay_apart : (is : List ℕ) (ns : List (List ℕ)) (taken : List Field) (i j : ℕ) (a b : List ℕ) → Fresh taken ns → length ns ≡ length is → i ≢ j → a ≢ b
    → (has_number is i ≡ false → is_taken taken a ≡ true) → (has_number is j ≡ false → is_taken taken b ≡ true) → new_name is ns i a ≢ new_name is ns j b
stay_apart [] ns taken i j a b fresh long apart other hi hj = other
stay_apart (k ∷ is) [] taken i j a b fresh long apart other hi hj = absurd (omega (arith, long))
stay_apart (k ∷ is) (n ∷ ns) taken i j a b fresh long apart other hi hj =
    by (nat_eq k i) (nat_eq k j) refl refl hi hj
    (λ (f : has_number is i ≡ false → is_taken taken a ≡ true) (g : has_number is j ≡ false → is_taken taken b ≡ true).
    stay_apart is ns more i j a b fresh.1 shorter apart other (λ e. still_taken taken n a (f e)) (λ e. still_taken taken n b (g e)))
  where
    more : List Field
    more = taken ++ field n ty.Long ∷ []

    shorter : length ns ≡ length is
    shorter = omega (arith, long)

    by : (p q : Bool) → nat_eq k i ≡ p → nat_eq k j ≡ q → ((p || has_number is i) ≡ false → is_taken taken a ≡ true)
        → ((q || has_number is j) ≡ false → is_taken taken b ≡ true)
        → ((has_number is i ≡ false → is_taken taken a ≡ true) → (has_number is j ≡ false → is_taken taken b ≡ true) → new_name is ns i a ≢ new_name is ns j b)
        → cond p n (new_name is ns i a) ≢ cond q n (new_name is ns j b)
    by true true ei ej hi hj rest = λ e. apart (sym (eqb-true k i ei) ∙ eqb-true k j ej)
    by true false ei ej hi hj rest = λ e. not_that is ns more j b n fresh.1 shorter (last_taken taken n) (λ f. taken_other taken b n (hj f) fresh.0) (sym e)
    by false true ei ej hi hj rest = λ e. not_that is ns more i a n fresh.1 shorter (last_taken taken n) (λ f. taken_other taken a n (hi f) fresh.0) e
    by false false ei ej hi hj rest = rest hi hj

none_so : (i : ℕ) (cs : List Field) (is : List ℕ) (ns : List (List ℕ)) (name : List ℕ)
    → ((j : ℕ) (d : Field) → Stands cs i j d → new_name is ns j d.name ≢ name) → is_taken (renamed i cs is ns) name ≡ false
none_so i [] is ns name h = refl
none_so i (c ∷ cs) is ns name h =
    none_of (same (new_name is ns i c.name) name) (is_taken (renamed (suc i) cs is ns) name) (are_apart (new_name is ns i c.name) name (h i c (inl (refl, refl))))
    (none_so (suc i) cs is ns name (λ j d at. h j d (inr at)))

renamed_from : (every : List Field) (i : ℕ) (cs : List Field) (is : List ℕ) (ns : List (List ℕ)) → ((j : ℕ) (d : Field) → Stands cs i j d → Stands every 0 j d)
    → Fresh (without 0 every is).1 ns → length ns ≡ length is → Apart cs → Apart (renamed i cs is ns)
renamed_from every i [] is ns all fresh long h = tt
renamed_from every i (c ∷ cs) is ns all fresh long h =
    (none_so (suc i) cs is ns (new_name is ns i c.name) other, renamed_from every (suc i) cs is ns (λ j d at. all j d (inr at)) fresh long h.1)
  where
    other : (j : ℕ) (d : Field) → Stands cs (suc i) j d → new_name is ns j d.name ≢ new_name is ns i c.name
    other j d at =
        let behind = not_before cs (suc i) j d at in
        stay_apart is ns (without 0 every is).1 j i d.name c.name fresh long (λ e. absurd (omega (arith, e, behind)))
        (taken_other cs d.name c.name (stands_taken cs (suc i) j d at) h.0)
        (λ e. stays every 0 j d is (all j d (inr at)) e) (λ e. stays every 0 i c is (all i c (inl (refl, refl))) e)

pub renamed_apart : (text : List ℕ) (cs : List Field) (is : List ℕ) (news : List Name) (ns : List (List ℕ)) → length news ≡ length is
    → names_given text (without 0 cs is).1 news ≡ Ok ns → Apart cs → Apart (renamed 0 cs is ns)
renamed_apart text cs is news ns long e h =
    let f = given_fresh text (without 0 cs is).1 news ns e in
    renamed_from cs 0 cs is ns (λ j d at. at) f.0 (omega (arith, f.1, long)) h
