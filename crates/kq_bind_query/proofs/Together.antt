-- The columns of joins and unions have different names where those of the rows that they take have.
use Rattle.std.proofs.Common.{◌≡◌, ◌≢◌, ◌⊎◌, inl, inr, ℕ, zero, suc, ◌≤◌, Bool, true, false, ◌||◌, ◌&&◌, not, cond, List, [], ◌∷◌, ◌++◌, length, length-append, refl, sym, ap, ◌∙◌, subst, arith}
use Rattle.std.specs.Prelude.{codes, nat_eq}
use Rattle.std.specs.List.{filter, insert}
use Rattle.std.specs.Cmp.Lexicographic.{pointwise}
use Rattle.kq_bind_clauses.specs.Joins.{beside, join_columns}
use Rattle.kq_bind_clauses.specs.Unions.{has_column, place_behind, put_behind_name, with_column, with_columns, all_columns, in_all, union_sources, type_word, is_mixed, keep_names, typed_name, names_made, union_columns}
use Rattle.kq_bind_columns.specs.Items.{field}
use Rattle.kq_bind_columns.specs.Naming.{is_taken, free_name}
use Rattle.kq_bind_columns.proofs.Free.{free_name-free}
use Rattle.kq_plan.specs.declared.work.JoinKind.{JoinKind}
use Rattle.kq_plan.specs.declared.work.JoinKind.TheVariants as join
use Rattle.kq_value.specs.declared.schema.Field.{Field}
use Rattle.kq_value.specs.declared.ty.Ty.{Ty}
use Rattle.kq_value.specs.Schema.{same_field}
use Rattle.kq_value.specs.Ty.{same_ty}
use Rattle.kq_value.proofs.Fields.{same_ty-Decides, same_field-Decides}
use Rattle.kq_bind_query.specs.Suffixes.{HaveRoom}
use Rattle.kq_bind_query.proofs.Apart.{same, not_both, is_false, are_same, are_apart, neither, none_of, or_else, or_first, taken_append, Apart, IfFew, free_behind}

-- ---- joins

beside_apart : (taken cs : List Field) → IfFew taken → IfFew (beside taken cs)
beside_apart taken [] h = h
beside_apart taken (c ∷ cs) h = beside_apart (taken ++ field (free_name taken [] c.name) c.ty ∷ []) cs (free_behind taken c.name c.ty h)

pub join_apart : (k : JoinKind) (ls rs : List Field) → Apart ls → Apart rs → IfFew (join_columns k ls rs)
join_apart join.LeftSemi ls rs h g = λ few. h
join_apart join.LeftAnti ls rs h g = λ few. h
join_apart join.RightSemi ls rs h g = λ few. g
join_apart join.RightAnti ls rs h g = λ few. g
join_apart join.InnerUnique ls rs h g = beside_apart ls rs (λ few. h)
join_apart join.Inner ls rs h g = beside_apart ls rs (λ few. h)
join_apart join.LeftOuter ls rs h g = beside_apart ls rs (λ few. h)
join_apart join.RightOuter ls rs h g = beside_apart ls rs (λ few. h)
join_apart join.FullOuter ls rs h g = beside_apart ls rs (λ few. h)

-- ---- columns among others

abbrev pub Among : List Field → Field → Type 0
Among [] f = ⊥
Among (c ∷ cs) f = (c ≡ f) ⊎ Among cs f

pub has_among : (cs : List Field) (f : Field) → has_column cs f ≡ true → Among cs f
has_among [] f e = absurd (cc)
has_among (c ∷ cs) f e = by (same_field f c) refl (has_among cs f) e where
  by : (b : Bool) → same_field f c ≡ b → (has_column cs f ≡ true → Among cs f) → (b || has_column cs f) ≡ true → (c ≡ f) ⊎ Among cs f
  by true is more g = inl (sym ((same_field-Decides f c).0 is))
  by false is more g = inr (more g)

pub among_has : (cs : List Field) (f : Field) → Among cs f → has_column cs f ≡ true
among_has [] f h = absurd h
among_has (c ∷ cs) f (inl h) = or_first (same_field f c) (has_column cs f) ((same_field-Decides f c).1 (sym h))
among_has (c ∷ cs) f (inr h) = or_else (same_field f c) (has_column cs f) (among_has cs f h)

pub among_taken : (cs : List Field) (f : Field) → Among cs f → is_taken cs f.name ≡ true
among_taken [] f h = absurd h
among_taken (c ∷ cs) f (inl h) = or_first (same c.name f.name) (is_taken cs f.name) (are_same c.name f.name (ap (λ (z : Field). z.name) h))
among_taken (c ∷ cs) f (inr h) = or_else (same c.name f.name) (is_taken cs f.name) (among_taken cs f h)

other_field : (a b : Field) → same_field a b ≡ false → same_field b a ≡ false
other_field a b e =
    is_false (same_field b a) (λ h. not_both (same_field a b) ((same_field-Decides a b).1 (sym ((same_field-Decides b a).0 h))) e)

-- no column has the name and the type of another
abbrev pub Single : List Field → Type 0
Single [] = Unit {0}
Single (c ∷ cs) = (has_column cs c ≡ false) × Single cs

apart_single : (cs : List Field) → Apart cs → Single cs
apart_single [] h = tt
apart_single (c ∷ cs) h = (is_false (has_column cs c) (λ e. not_both (is_taken cs c.name) (among_taken cs c (has_among cs c e)) h.0), apart_single cs h.1)

filter_lacks : (p : Field → Bool) (cs : List Field) (f : Field) → has_column cs f ≡ false → has_column (filter p cs) f ≡ false
filter_lacks p [] f h = refl
filter_lacks p (c ∷ cs) f h = by (p c) (filter_lacks p cs f k.1) where
  k : (same_field f c ≡ false) × (has_column cs f ≡ false)
  k = neither (same_field f c) (has_column cs f) h

  by : (b : Bool) → has_column (filter p cs) f ≡ false → has_column (cond b (c ∷ filter p cs) (filter p cs)) f ≡ false
  by true more = none_of (same_field f c) (has_column (filter p cs) f) k.0 more
  by false more = more

filter_single : (p : Field → Bool) (cs : List Field) → Single cs → Single (filter p cs)
filter_single p [] h = tt
filter_single p (c ∷ cs) h = by (p c) (filter_single p cs h.1) where
  by : (b : Bool) → Single (filter p cs) → Single (cond b (c ∷ filter p cs) (filter p cs))
  by true more = (filter_lacks p cs c h.0, more)
  by false more = more

-- ---- columns that are put in between

swapped : (a b c : Bool) → (a || (b || c)) ≡ (b || (a || c))
swapped true true c = refl
swapped true false c = refl
swapped false true c = refl
swapped false false c = refl

pub has_insert : (cs : List Field) (k : ℕ) (f g : Field) → has_column (insert cs k f) g ≡ (same_field g f || has_column cs g)
has_insert cs zero f g = refl
has_insert [] (suc k) f g = refl
has_insert (c ∷ cs) (suc k) f g = ap (λ b. same_field g c || b) (has_insert cs k f g) ∙ swapped (same_field g c) (same_field g f) (has_column cs g)

insert_single : (cs : List Field) (k : ℕ) (f : Field) → has_column cs f ≡ false → Single cs → Single (insert cs k f)
insert_single cs zero f free h = (free, h)
insert_single [] (suc k) f free h = (refl, tt)
insert_single (c ∷ cs) (suc k) f free h =
    let p = neither (same_field f c) (has_column cs f) free in
    (has_insert cs k f c ∙ none_of (same_field c f) (has_column cs c) (other_field f c p.0) h.0, insert_single cs k f p.1 h.1)

with_one : (cs : List Field) (f : Field) → Single cs → Single (with_column cs f)
with_one cs f h = by (has_column cs f) refl where
  by : (b : Bool) → has_column cs f ≡ b → Single (cond b cs (put_behind_name cs f))
  by true is = h
  by false is = insert_single cs (place_behind cs f.name) f is h

with_all : (cs fs : List Field) → Single cs → Single (with_columns cs fs)
with_all cs [] h = h
with_all cs (f ∷ fs) h = with_all (with_column cs f) fs (with_one cs f h)

all_single : (cs : List Field) (arms : List (List Field)) → Single cs → Single (all_columns cs arms)
all_single cs [] h = h
all_single cs (a ∷ arms) h = all_single (with_columns cs a) arms (with_all cs a h)

abbrev pub FirstApart : List (List Field) → Type 0
FirstApart [] = Unit {0}
FirstApart (a ∷ arms) = Apart a

pub sources_single : (inner : Bool) (arms : List (List Field)) → FirstApart arms → Single (union_sources inner arms)
sources_single true [] h = tt
sources_single true (a ∷ arms) h = filter_single (in_all arms) a (apart_single a h)
sources_single false arms h = all_single [] arms tt

-- ---- the names of a union

not_true : (b : Bool) → b ≡ false → not b ≡ true
not_true b e = rw e refl

both_true : (a b : Bool) → a ≡ true → b ≡ true → (a && b) ≡ true
both_true a b e f = rw (e, f) refl

-- a column of the same name and another type
pub mixed_there : (cs : List Field) (f g : Field) → Among cs g → g.name ≡ f.name → g.ty ≢ f.ty → is_mixed cs f ≡ true
mixed_there [] f g h name ty = absurd h
mixed_there (c ∷ cs) f g (inl h) name ty =
    let named : pointwise nat_eq c.name f.name ≡ true = are_same c.name f.name (ap (λ (z : Field). z.name) h ∙ name) in
    let other : same_ty c.ty f.ty ≡ false =
    is_false (same_ty c.ty f.ty) (λ e. ty (sym (ap (λ (z : Field). z.ty) h) ∙ (same_ty-Decides c.ty f.ty).0 e)) in
    or_first (pointwise nat_eq c.name f.name && not (same_ty c.ty f.ty)) (is_mixed cs f)
    (both_true (pointwise nat_eq c.name f.name) (not (same_ty c.ty f.ty)) named (not_true (same_ty c.ty f.ty) other))
mixed_there (c ∷ cs) f g (inr h) name ty =
    or_else (pointwise nat_eq c.name f.name && not (same_ty c.ty f.ty)) (is_mixed cs f) (mixed_there cs f g h name ty)

filter_keeps : (p : Field → Bool) (cs : List Field) (g : Field) → Among cs g → p g ≡ true → is_taken (filter p cs) g.name ≡ true
filter_keeps p [] g h e = absurd h
filter_keeps p (c ∷ cs) g (inl h) e = by (p c) (subst (λ (z : Field). p z ≡ true) (sym h) e) where
  by : (b : Bool) → b ≡ true → is_taken (cond b (c ∷ filter p cs) (filter p cs)) g.name ≡ true
  by true is = or_first (same c.name g.name) (is_taken (filter p cs) g.name) (are_same c.name g.name (ap (λ (z : Field). z.name) h))
  by false is = absurd (cc)
filter_keeps p (c ∷ cs) g (inr h) e = by (p c) (filter_keeps p cs g h e) where
  by : (b : Bool) → is_taken (filter p cs) g.name ≡ true → is_taken (cond b (c ∷ filter p cs) (filter p cs)) g.name ≡ true
  by true more = or_else (same c.name g.name) (is_taken (filter p cs) g.name) more
  by false more = more

filter_fewer : (p : Field → Bool) (cs : List Field) → length (filter p cs) ≤ length cs
filter_fewer p [] = omega arith
filter_fewer p (c ∷ cs) = by (p c) (filter_fewer p cs) where
  by : (b : Bool) → length (filter p cs) ≤ length cs → length (cond b (c ∷ filter p cs) (filter p cs)) ≤ length (c ∷ cs)
  by true le = omega (arith, le)
  by false le = omega (arith, le)

more_taken : (taken : List Field) (f : Field) (name : List ℕ) → is_taken taken name ≡ true → is_taken (taken ++ f ∷ []) name ≡ true
more_taken taken f name h = taken_append taken (f ∷ []) name ∙ or_first (is_taken taken name) (same f.name name || false) h

just_taken : (taken : List Field) (f : Field) → is_taken (taken ++ f ∷ []) f.name ≡ true
just_taken taken f =
    taken_append taken (f ∷ []) f.name
    ∙ or_else (is_taken taken f.name) (same f.name f.name || false) (or_first (same f.name f.name) false (are_same f.name f.name refl))

room_kept : (taken : List Field) (f : Field) (fs : List Field) → HaveRoom taken (f ∷ fs) → HaveRoom taken fs
room_kept taken f fs room = omega (arith, room)

room_typed : (taken : List Field) (g f : Field) (fs : List Field) → HaveRoom taken (f ∷ fs) → HaveRoom (taken ++ g ∷ []) fs
room_typed taken g f fs room = omega (arith, room, length-append taken (g ∷ []))

typed_free : (taken : List Field) (f : Field) (fs : List Field) → HaveRoom taken (f ∷ fs) → is_taken taken (typed_name taken f) ≡ false
typed_free taken f fs room = free_name-free taken [] (f.name ++ codes "_" ++ type_word f.ty) (omega (arith, room))

apart_names : (taken : List Field) (a b : List ℕ) → is_taken taken a ≡ true → is_taken taken b ≡ false → a ≢ b
apart_names taken a b t f e = not_both (is_taken taken b) (subst (λ n. is_taken taken n ≡ true) e t) f

abbrev typed : List Field → Field → Field
typed taken f = field (typed_name taken f) f.ty

-- a name that is taken comes only from a column that keeps it
none_named : (every taken fs : List Field) (name : List ℕ) → HaveRoom taken fs → is_taken taken name ≡ true
    → ((g : Field) → Among fs g → is_mixed every g ≡ false → g.name ≢ name) → is_taken (names_made every taken fs) name ≡ false
none_named every taken [] name room t h = refl
none_named every taken (f ∷ fs) name room t h = by (is_mixed every f) refl
    (none_named every (taken ++ typed taken f ∷ []) fs name (room_typed taken (typed taken f) f fs room) (more_taken taken (typed taken f) name t) rest)
    (none_named every taken fs name (room_kept taken f fs room) t rest)
  where
    rest : (g : Field) → Among fs g → is_mixed every g ≡ false → g.name ≢ name
    rest g at is = h g (inr at) is

    by : (b : Bool) → is_mixed every f ≡ b → is_taken (names_made every (taken ++ typed taken f ∷ []) fs) name ≡ false
        → is_taken (names_made every taken fs) name ≡ false
        → is_taken (cond b (typed taken f ∷ names_made every (taken ++ typed taken f ∷ []) fs) (f ∷ names_made every taken fs)) name ≡ false
    by true is one two =
        none_of (same (typed_name taken f) name) (is_taken (names_made every (taken ++ typed taken f ∷ []) fs) name)
        (are_apart (typed_name taken f) name (λ e. apart_names taken name (typed_name taken f) t (typed_free taken f fs room) (sym e))) one
    by false is one two =
        none_of (same f.name name) (is_taken (names_made every taken fs) name) (are_apart f.name name (h f (inl refl) is)) two

pub field_parts : (f g : Field) → f.name ≡ g.name → f.ty ≡ g.ty → f ≡ g
field_parts f g n t = ap (λ (m : List ℕ). field m f.ty) n ∙ ap (λ (u : Ty). field g.name u) t

-- columns that keep their names have different ones
kept_apart : (every : List Field) (f : Field) (fs : List Field) (g : Field) → Among every f → Among fs g → has_column fs f ≡ false → is_mixed every g ≡ false → g.name ≢ f.name
kept_apart every f fs g there at single is name =
    by (same_ty f.ty g.ty) refl
  where
    by : (b : Bool) → same_ty f.ty g.ty ≡ b → ⊥
    by true e =
        let one : g ≡ f = field_parts g f name (sym ((same_ty-Decides f.ty g.ty).0 e)) in
        not_both (has_column fs f) (among_has fs f (subst (Among fs) one at)) single
    by false e = not_both (is_mixed every g) (mixed_there every g f there (sym name) (λ t. not_both (same_ty f.ty g.ty) ((same_ty-Decides f.ty g.ty).1 t) e)) is

made_apart : (every taken fs : List Field) → HaveRoom taken fs → ((g : Field) → Among fs g → Among every g) → Single fs
    → ((g : Field) → Among fs g → is_mixed every g ≡ false → is_taken taken g.name ≡ true) → Apart (names_made every taken fs)
made_apart every taken [] room all h kept = tt
made_apart every taken (f ∷ fs) room all h kept = by (is_mixed every f) refl
    (made_apart every (taken ++ typed taken f ∷ []) fs (room_typed taken (typed taken f) f fs room) rest h.1
    (λ g at is. more_taken taken (typed taken f) g.name (kept g (inr at) is)))
    (made_apart every taken fs (room_kept taken f fs room) rest h.1 (λ g at is. kept g (inr at) is))
  where
    rest : (g : Field) → Among fs g → Among every g
    rest g at = all g (inr at)

    by : (b : Bool) → is_mixed every f ≡ b → Apart (names_made every (taken ++ typed taken f ∷ []) fs) → Apart (names_made every taken fs)
        → Apart (cond b (typed taken f ∷ names_made every (taken ++ typed taken f ∷ []) fs) (f ∷ names_made every taken fs))
    by true is one two = (
      none_named every (taken ++ typed taken f ∷ []) fs (typed_name taken f) (room_typed taken (typed taken f) f fs room) (just_taken taken (typed taken f))
          (λ g at own. apart_names taken g.name (typed_name taken f) (kept g (inr at) own) (typed_free taken f fs room)),
      one,
    )
    by false is one two = (
      none_named every taken fs f.name (room_kept taken f fs room) (kept f (inl refl) is)
          (λ g at own. kept_apart every f fs g (all f (inl refl)) at h.0 own),
      two,
    )

pub names_length : (every taken fs : List Field) → length (names_made every taken fs) ≡ length fs
names_length every taken [] = refl
names_length every taken (f ∷ fs) = by (is_mixed every f) (names_length every (taken ++ typed taken f ∷ []) fs) (names_length every taken fs) where
  by : (b : Bool) → length (names_made every (taken ++ typed taken f ∷ []) fs) ≡ length fs → length (names_made every taken fs) ≡ length fs
      → length (cond b (typed taken f ∷ names_made every (taken ++ typed taken f ∷ []) fs) (f ∷ names_made every taken fs)) ≡ length (f ∷ fs)
  by true one two = omega (arith, one)
  by false one two = omega (arith, two)

pub union_apart : (sources : List Field) → Single sources → IfFew (union_columns sources)
union_apart sources h few =
    let long = names_length sources (keep_names sources) sources in
    let less = filter_fewer (λ f. not (is_mixed sources f)) sources in
    made_apart sources (keep_names sources) sources (omega (arith, few, long, less)) (λ g at. at) h
    (λ g at is. filter_keeps (λ f. not (is_mixed sources f)) sources g at (not_true (is_mixed sources g) is))
