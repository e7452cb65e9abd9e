-- Where a name stands twice, by the names before each place.
use Rattle.std.proofs.Common.{◌≡◌, ℕ, suc, ◌||◌, ◌+◌, ◌<◌, ◌≤◌, Bool, true, false, not, cond, List, [], ◌∷◌, ◌++◌, length, map, take, drop, get_or, nat_eq, Option, Some, refl, sym, ap, ◌∙◌, arith, drop-cons}
use Rattle.std.proofs.lemmas.List.{take_more, length-take-le, map-append, length-map}
use Rattle.std.proofs.lemmas.List.Folds.{list_any-append}
use Rattle.std.proofs.lemmas.Map.Text.{is_eq-slice_cmp}
use Rattle.std.specs.BTreeSet.{BTreeSet, Updates, contains_by}
use Rattle.std.specs.Cmp.Lexicographic.{pointwise, slice_cmp}
use Rattle.std.specs.Ordering.{nat_cmp}
use Rattle.kq_value_text_sets.specs.Names.{is_among, repeat_after}
use denote.Ref.{Bor}

-- what is left to look through after the first items
abbrev pub repeat_from : {A : Type 0} → (A → List ℕ) → List A → ℕ → Option ℕ
repeat_from name_of items i = repeat_after (map name_of (take i items)) (map name_of (drop i items))

-- whether the set has the name
abbrev pub has : BTreeSet (Bor (List ℕ)) → List ℕ → Bool
has seen name = contains_by (λ (k : Bor (List ℕ)). slice_cmp nat_cmp name k.now) seen

-- the set has the names that stand before a place
abbrev pub HasFirst : {A : Type 0} → (A → List ℕ) → BTreeSet (Bor (List ℕ)) → List A → ℕ → Type 0
HasFirst name_of seen items i = (name : List ℕ) → has seen name ≡ is_among name (map name_of (take i items))

if-false : {A : Type 0} (p : Bool) (x y : A) → p ≡ false → cond p x y ≡ y
if-false p x y e = rw e refl

if-true : {A : Type 0} (p : Bool) (x y : A) → p ≡ true → cond p x y ≡ x
if-true p x y e = rw e refl

drop-next : {A : Type 0} (items : List A) (i : ℕ) (x : A) → i < length items → x ≡ get_or items i x → drop i items ≡ x ∷ drop (i + 1) items
drop-next items i x within is =
    let more : suc i ≡ i + 1 = omega arith in
    drop-cons items i x within ∙ ap (λ y. y ∷ drop (suc i) items) (sym is) ∙ ap (λ k. x ∷ drop k items) more

names-next : {A : Type 0} (name_of : A → List ℕ) (items : List A) (i : ℕ) (x : A) → i < length items → x ≡ get_or items i x → map name_of (take (i + 1) items) ≡ map name_of (take i items) ++ name_of x ∷ []
names-next name_of items i x within is =
    ap (map name_of) (take_more items i x within ∙ ap (λ y. take i items ++ y ∷ []) (sym is)) ∙ map-append name_of (take i items) (x ∷ [])

names-length : {A : Type 0} (name_of : A → List ℕ) (items : List A) (i : ℕ) → i ≤ length items → length (map name_of (take i items)) ≡ i
names-length name_of items i within = length-map (take i items) name_of ∙ length-take-le i items within

-- the next name stands before it
pub repeat-found : {A : Type 0} (name_of : A → List ℕ) (items : List A) (i : ℕ) (x : A) → i < length items → x ≡ get_or items i x → is_among (name_of x) (map name_of (take i items)) ≡ true → repeat_from name_of items i ≡ Some i
repeat-found name_of items i x within is found =
    let before = map name_of (take i items) in
    ap (λ l. repeat_after before (map name_of l)) (drop-next items i x within is)
    ∙ if-true (is_among (name_of x) before) (Some (length before)) (repeat_after (before ++ name_of x ∷ []) (map name_of (drop (i + 1) items))) found
    ∙ ap Some (names-length name_of items i (omega (arith, within)))

-- it doesn't
pub repeat-more : {A : Type 0} (name_of : A → List ℕ) (items : List A) (i : ℕ) (x : A) → i < length items → x ≡ get_or items i x → is_among (name_of x) (map name_of (take i items)) ≡ false → repeat_from name_of items i ≡ repeat_from name_of items (i + 1)
repeat-more name_of items i x within is new =
    let before = map name_of (take i items) in
    ap (λ l. repeat_after before (map name_of l)) (drop-next items i x within is)
    ∙ if-false (is_among (name_of x) before) (Some (length before)) (repeat_after (before ++ name_of x ∷ []) (map name_of (drop (i + 1) items))) new
    ∙ ap (λ l. repeat_after l (map name_of (drop (i + 1) items))) (sym (names-next name_of items i x within is))

either : (p q : Bool) → cond p true q ≡ (q || p)
either true true = refl
either true false = refl
either false true = refl
either false false = refl

or-false : (b : Bool) → (b || false) ≡ b
or-false true = refl
or-false false = refl

among-next : (name x : List ℕ) (before : List (List ℕ)) → (is_among name before || pointwise nat_eq x name) ≡ is_among name (before ++ x ∷ [])
among-next name x before =
    ap (λ b. is_among name before || b) (sym (or-false (pointwise nat_eq x name)))
    ∙ sym (list_any-append (λ other. pointwise nat_eq other name) before (x ∷ []))

-- the set with the next name more has the names before the place behind it
pub HasFirst-next : {A : Type 0} (name_of : A → List ℕ) (old new : BTreeSet (Bor (List ℕ))) (items : List A) (i : ℕ) (x : A) → i < length items → x ≡ get_or items i x → (key : Bor (List ℕ)) → key.now ≡ name_of x
    → HasFirst name_of old items i → Updates (λ (a b : Bor (List ℕ)). slice_cmp nat_cmp a.now b.now) old new key true → HasFirst name_of new items (i + 1)
HasFirst-next name_of old new items i x within is key same has_before updated name =
    let at : Bor (List ℕ) = record { ref_ptr = (0, 0); now = name } in
    let before = map name_of (take i items) in
    updated.0 at
    ∙ ap (λ b. cond b true (has old name)) (is_eq-slice_cmp key.now name)
    ∙ ap (λ bytes. cond (pointwise nat_eq bytes name) true (has old name)) same
    ∙ ap (λ b. cond (pointwise nat_eq (name_of x) name) true b) (has_before name)
    ∙ either (pointwise nat_eq (name_of x) name) (is_among name before)
    ∙ among-next name (name_of x) before
    ∙ ap (is_among name) (sym (names-next name_of items i x within is))

-- ---- a name that the set was given

-- the set had it
pub held : (added has_it : Bool) → added ≡ not has_it → added ≡ false → has_it ≡ true
held added true e f = refl
held added false e f = cc

-- the set had it not
pub new : (added has_it : Bool) → added ≡ not has_it → added ≡ true → has_it ≡ false
new added true e f = cc
new added false e f = refl
