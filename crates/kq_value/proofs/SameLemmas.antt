-- What `Same` and `NoOftener` follow from, and what they give.
use Rattle.std.proofs.Common.{◌≡◌, ◌<◌, ◌≤◌, ℕ, zero, suc, ◌+◌, Bool, true, false, cond, List, [], ◌∷◌, ◌++◌, length, take, get_or, map, refl, sym, ◌∙◌, subst, arith, length-append}
use Rattle.std.specs.List.{All, filter, flat_map, remove, sum_by, count_by}
use Rattle.std.specs.List.Sorted.{IsPermutation}
use Rattle.std.proofs.lemmas.List.Recursion.{is_count_by}
use Rattle.std.proofs.lemmas.List.Sorted.{IsPermutation-refl, IsPermutation-cons, IsPermutation-sym, IsPermutation-trans, IsPermutation-remove, IsPermutation-map, sum_by-IsPermutation, length_permutation, All-permutation}
use Rattle.kq_value.specs.declared.value.Value.{Value}
use Rattle.kq_value.specs.Values.{is_same_row}
use Rattle.kq_value.specs.Same.{times, Same, NoOftener}
use Rattle.kq_value.proofs.Equals.{is_same_row-Decides, is_same_row-itself}

abbrev pub Row : Type 0
Row = List Value

one_more : (b : Bool) (n : ℕ) → (cond b 1 0) + n ≡ cond b (1 + n) n
one_more true n = refl
one_more false n = omega arith

pub times-count_by : (r : Row) (rows : List Row) → times r rows ≡ count_by (is_same_row r) rows
times-count_by r = is_count_by (times r) (is_same_row r) refl (λ x xs. one_more (is_same_row r x) (times r xs))

pub times-append : (r : Row) (a b : List Row) → times r (a ++ b) ≡ times r a + times r b
times-append r [] b = omega arith
times-append r (x ∷ a) b = omega (arith, times-append r a b)

pub times-itself : (x : Row) (rows : List Row) → times x (x ∷ rows) ≡ 1 + times x rows
times-itself x rows = rw is_same_row-itself refl

-- ---- Same

pub Same-refl : (a : List Row) → Same a a
Same-refl a = record { each = λ r. refl }

pub Same-sym : (a b : List Row) → Same a b → Same b a
Same-sym a b s = record { each = λ r. sym (s.each r) }

pub Same-trans : (a b c : List Row) → Same a b → Same b c → Same a c
Same-trans a b c s t = record { each = λ r. s.each r ∙ t.each r }

pub Same-append : (a b c d : List Row) → Same a b → Same c d → Same (a ++ c) (b ++ d)
Same-append a b c d s t = record { each = λ r. omega (arith, times-append r a c, times-append r b d, s.each r, t.each r) }

pub Same-append_comm : (a b : List Row) → Same (a ++ b) (b ++ a)
Same-append_comm a b = record { each = λ r. omega (arith, times-append r a b, times-append r b a) }

pub Same-cons : (x : Row) (a b : List Row) → Same a b → Same (x ∷ a) (x ∷ b)
Same-cons x a b s = record { each = λ r. omega (arith, s.each r) }

-- two neighbours change places
pub Same-turn : (x y : Row) (a : List Row) → Same (x ∷ y ∷ a) (y ∷ x ∷ a)
Same-turn x y a = record { each = λ r. omega arith }

pub Same-to_front : (x : Row) (a : List Row) → Same (a ++ x ∷ []) (x ∷ a)
Same-to_front x a = record { each = λ r. omega (arith, times-append r a (x ∷ [])) }

-- the row in front of both may be left out
pub Same-from_cons : (x : Row) (a b : List Row) → Same (x ∷ a) (x ∷ b) → Same a b
Same-from_cons x a b s = record { each = λ r. omega (arith, s.each r) }

-- a permutation has each row equally often
pub Same-from_permutation : (a b : List Row) → IsPermutation a b → Same a b
Same-from_permutation a b p = record { each = λ r. times-count_by r a ∙ sym (sum_by-IsPermutation (λ x. cond (is_same_row r x) 1 0) a b p) ∙ sym (times-count_by r b) }

-- a row that stands in a list stands at a place
abbrev pub At : Row → List Row → Type 0
At r rows = (i : ℕ) × ((i < length rows) × (r ≡ get_or rows i r))

place_from : (r x : Row) (rows : List Row) → ((0 < times r rows) → At r rows) → (b : Bool) → is_same_row r x ≡ b → 0 < times r (x ∷ rows) → At r (x ∷ rows)
place_from r x rows later true e h = (0, (omega arith, (is_same_row-Decides r x).0 e))
place_from r x rows later false e h = let l = rw e at h in let p = later (omega arith) in (suc p.0, (omega (arith, p.1.0), p.1.1))

pub place_of : (r : Row) (rows : List Row) → 0 < times r rows → At r rows
place_of r [] h = absurd (omega arith)
place_of r (x ∷ rows) h = place_from r x rows (place_of r rows) (is_same_row r x) refl h

none_left : (x : Row) (rows : List Row) → times x (x ∷ rows) ≡ 0 → ⊥
none_left x rows e = let k = rw times-itself at e in omega arith

stands : (x : Row) (a b : List Row) → Same (x ∷ a) b → 0 < times x b
stands x a b s = let k : times x (x ∷ a) ≡ times x b = s.each x in let l = rw times-itself at k in omega arith

-- without the row at a place, put in front
pub Same-remove : (x : Row) (b : List Row) (i : ℕ) → i < length b → x ≡ get_or b i x → Same b (x ∷ remove b i)
Same-remove x b i h e = Same-from_permutation _ _ (IsPermutation-remove b i x h e)

pub IsPermutation-from_Same : (a b : List Row) → Same a b → IsPermutation a b
IsPermutation-from_Same [] [] s = IsPermutation-refl []
IsPermutation-from_Same [] (y ∷ b) s = absurd (none_left y b (sym (s.each y)))
IsPermutation-from_Same (x ∷ a) b s =
    let p = place_of x b (stands x a b s) in
    let moved : IsPermutation b (x ∷ remove b p.0) = IsPermutation-remove b p.0 x p.1.0 p.1.1 in
    let rest : Same a (remove b p.0) = Same-from_cons x a (remove b p.0) (Same-trans _ _ _ s (Same-from_permutation _ _ moved)) in
    IsPermutation-trans _ _ _ (IsPermutation-cons x _ _ (IsPermutation-from_Same a (remove b p.0) rest)) (IsPermutation-sym _ _ moved)

pub length-Same : (a b : List Row) → Same a b → length a ≡ length b
length-Same a b s = sym (length_permutation a b (IsPermutation-from_Same a b s))

pub All-Same : (P : Row → Type 0) (a b : List Row) → Same a b → All P a → All P b
All-Same P a b s = All-permutation P a b (IsPermutation-from_Same a b s)

pub sum_by-Same : (f : Row → ℕ) (a b : List Row) → Same a b → sum_by f a ≡ sum_by f b
sum_by-Same f a b s = sym (sum_by-IsPermutation f a b (IsPermutation-from_Same a b s))

pub Same-map : (f : Row → Row) (a b : List Row) → Same a b → Same (map f a) (map f b)
Same-map f a b s = Same-from_permutation _ _ (IsPermutation-map f a b (IsPermutation-from_Same a b s))

-- ---- Same, as steps that an induction can follow: two neighbours change places

pub data Shuffled : List Row → List Row → Type 0 where
  none : Shuffled [] []
  front : {x : Row} {a b : List Row} → Shuffled a b → Shuffled (x ∷ a) (x ∷ b)
  turn : {x y : Row} {a : List Row} → Shuffled (x ∷ y ∷ a) (y ∷ x ∷ a)
  next : {a b c : List Row} → Shuffled a b → Shuffled b c → Shuffled a c

pub Shuffled-refl : (a : List Row) → Shuffled a a
Shuffled-refl [] = none
Shuffled-refl (x ∷ a) = front (Shuffled-refl a)

-- the row at i goes back to its place
back : (x : Row) (b : List Row) (i : ℕ) → i < length b → x ≡ get_or b i x → Shuffled (x ∷ remove b i) b
back x [] i h e = absurd (omega arith)
back x (y ∷ b) zero h e = subst (λ z. Shuffled (z ∷ b) (y ∷ b)) (sym e) (Shuffled-refl (y ∷ b))
back x (y ∷ b) (suc i) h e = next turn (front (back x b i (omega arith) e))

pub Shuffled-from_Same : (a b : List Row) → Same a b → Shuffled a b
Shuffled-from_Same [] [] s = none
Shuffled-from_Same [] (y ∷ b) s = absurd (none_left y b (sym (s.each y)))
Shuffled-from_Same (x ∷ a) b s =
    let p = place_of x b (stands x a b s) in
    let rest : Same a (remove b p.0) = Same-from_cons x a (remove b p.0) (Same-trans _ _ _ s (Same-remove x b p.0 p.1.0 p.1.1)) in
    next (front (Shuffled-from_Same a (remove b p.0) rest)) (back x b p.0 p.1.0 p.1.1)

filter_front : (p : Row → Bool) (x : Row) (a b : List Row) (q : Bool) → Same (filter p a) (filter p b) → Same (cond q (x ∷ filter p a) (filter p a)) (cond q (x ∷ filter p b) (filter p b))
filter_front p x a b true s = Same-cons x _ _ s
filter_front p x a b false s = s

filter_turn : (p : Row → Bool) (x y : Row) (a : List Row) (q r : Bool) → Same (cond q (x ∷ cond r (y ∷ filter p a) (filter p a)) (cond r (y ∷ filter p a) (filter p a))) (cond r (y ∷ cond q (x ∷ filter p a) (filter p a)) (cond q (x ∷ filter p a) (filter p a)))
filter_turn p x y a true true = Same-turn x y _
filter_turn p x y a true false = Same-refl _
filter_turn p x y a false true = Same-refl _
filter_turn p x y a false false = Same-refl _

filter_shuffled : (p : Row → Bool) {a b : List Row} → Shuffled a b → Same (filter p a) (filter p b)
filter_shuffled p none = Same-refl []
filter_shuffled p (front {x = x} s) = filter_front p x _ _ (p x) (filter_shuffled p s)
filter_shuffled p (turn {x = x} {y = y}) = filter_turn p x y _ (p x) (p y)
filter_shuffled p (next s t) = Same-trans _ _ _ (filter_shuffled p s) (filter_shuffled p t)

pub Same-filter : (p : Row → Bool) (a b : List Row) → Same a b → Same (filter p a) (filter p b)
Same-filter p a b s = filter_shuffled p (Shuffled-from_Same a b s)

flat_map_turn : (u v w : List Row) → Same (u ++ (v ++ w)) (v ++ (u ++ w))
flat_map_turn u v w = record { each = λ r. omega (arith, times-append r u (v ++ w), times-append r v w, times-append r v (u ++ w), times-append r u w) }

flat_map_shuffled : (f : Row → List Row) {a b : List Row} → Shuffled a b → Same (flat_map f a) (flat_map f b)
flat_map_shuffled f none = Same-refl []
flat_map_shuffled f (front {x = x} s) = Same-append _ _ _ _ (Same-refl (f x)) (flat_map_shuffled f s)
flat_map_shuffled f (turn {x = x} {y = y}) = flat_map_turn (f x) (f y) _
flat_map_shuffled f (next s t) = Same-trans _ _ _ (flat_map_shuffled f s) (flat_map_shuffled f t)

-- the rows that each row gives, one after another
pub Same-flat_map : (f : Row → List Row) (a b : List Row) → Same a b → Same (flat_map f a) (flat_map f b)
Same-flat_map f a b s = flat_map_shuffled f (Shuffled-from_Same a b s)

-- ---- NoOftener

pub NoOftener-from_Same : (a b : List Row) → Same a b → NoOftener a b
NoOftener-from_Same a b s = record { each = λ r. omega (arith, s.each r) }

pub NoOftener-refl : (a : List Row) → NoOftener a a
NoOftener-refl a = NoOftener-from_Same a a (Same-refl a)

pub NoOftener-trans : (a b c : List Row) → NoOftener a b → NoOftener b c → NoOftener a c
NoOftener-trans a b c s t = record { each = λ r. omega (arith, s.each r, t.each r) }

pub NoOftener-nil : (a : List Row) → NoOftener [] a
NoOftener-nil a = record { each = λ r. omega arith }

pub NoOftener-append : (a b c d : List Row) → NoOftener a b → NoOftener c d → NoOftener (a ++ c) (b ++ d)
NoOftener-append a b c d s t = record { each = λ r. omega (arith, times-append r a c, times-append r b d, s.each r, t.each r) }

pub NoOftener-append_left : (a b : List Row) → NoOftener a (a ++ b)
NoOftener-append_left a b = record { each = λ r. omega (arith, times-append r a b) }

pub NoOftener-append_right : (a b : List Row) → NoOftener b (a ++ b)
NoOftener-append_right a b = record { each = λ r. omega (arith, times-append r a b) }

times-take : (r : Row) (n : ℕ) (rows : List Row) → times r (take n rows) ≤ times r rows
times-take r zero [] = omega arith
times-take r zero (x ∷ rows) = omega arith
times-take r (suc n) [] = omega arith
times-take r (suc n) (x ∷ rows) = omega (arith, times-take r n rows)

-- the first rows are some of the rows
pub NoOftener-take : (n : ℕ) (rows : List Row) → NoOftener (take n rows) rows
NoOftener-take n rows = record { each = λ r. times-take r n rows }

filter_less : (p : Row → Bool) (r x : Row) (a : List Row) (q : Bool) → times r (filter p a) ≤ times r a → times r (cond q (x ∷ filter p a) (filter p a)) ≤ times r (x ∷ a)
filter_less p r x a true h = omega arith
filter_less p r x a false h = omega arith

times-filter : (p : Row → Bool) (r : Row) (rows : List Row) → times r (filter p rows) ≤ times r rows
times-filter p r [] = omega arith
times-filter p r (x ∷ rows) = filter_less p r x rows (p x) (times-filter p r rows)

pub NoOftener-filter : (p : Row → Bool) (rows : List Row) → NoOftener (filter p rows) rows
NoOftener-filter p rows = record { each = λ r. times-filter p r rows }

-- neither has a row oftener than the other
pub Same-from_NoOftener : (a b : List Row) → NoOftener a b → NoOftener b a → Same a b
Same-from_NoOftener a b s t = record { each = λ r. omega (arith, s.each r, t.each r) }

held : (x : Row) (a b : List Row) → NoOftener (x ∷ a) b → 0 < times x b
held x a b s = let k : times x (x ∷ a) ≤ times x b = s.each x in let l = rw times-itself at k in omega arith

rest_kept : (x : Row) (a b c : List Row) → NoOftener (x ∷ a) b → Same b (x ∷ c) → NoOftener a c
rest_kept x a b c s t = record { each = λ r. omega (arith, s.each r, t.each r) }

-- the rows that the first lacks make it the second
pub rest_of : (a b : List Row) → NoOftener a b → (rest : List Row) × Same (a ++ rest) b
rest_of [] b s = (b, Same-refl b)
rest_of (x ∷ a) b s =
    let p = place_of x b (held x a b s) in
    let moved : Same b (x ∷ remove b p.0) = Same-remove x b p.0 p.1.0 p.1.1 in
    let r = rest_of a (remove b p.0) (rest_kept x a b (remove b p.0) s moved) in
    (r.0, Same-trans _ _ _ (Same-cons x _ _ r.1) (Same-sym _ _ moved))

pub length-NoOftener : (a b : List Row) → NoOftener a b → length a ≤ length b
length-NoOftener a b s = let r = rest_of a b s in let e : length (a ++ r.0) ≡ length b = length-Same _ _ r.1 in omega (arith, length-append {A = Row})
