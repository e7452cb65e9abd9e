-- A split, a piece further on.
use Rattle.std.proofs.Common.{◌≡◌, ◌<◌, Bool, true, false, cond, List, [], ◌∷◌, ◌++◌, length, refl, sym, ap, ◌∙◌, arith, append-nil, append_assoc}
use Rattle.std.specs.List.{slice_split, onto_first}
use Rattle.std.proofs.lemmas.List.Splits.{length-slice_split}
use Rattle.kq_script_blocks.specs.Script.{all_but_last}
use Rattle.kq_script_blocks.specs.Open.{last_of}

-- the first of the second parts goes on with the last of the first ones
abbrev onto_last : {X : Type 0} → List X → List (List X) → List (List X)
onto_last part [] = part ∷ []
onto_last part (q ∷ qs) = (part ++ q) ∷ qs

abbrev joined : {X : Type 0} → List (List X) → List (List X) → List (List X)
joined ps qs = all_but_last ps ++ onto_last (last_of ps) qs

joined-cons : {X : Type 0} (a : List X) (ps qs : List (List X)) → 0 < length ps → a ∷ joined ps qs ≡ joined (a ∷ ps) qs
joined-cons a [] qs h = absurd (omega arith)
joined-cons a (p ∷ ps) qs h = refl

onto_first-joined : {X : Type 0} (x : X) (ps qs : List (List X)) → onto_first x (joined ps qs) ≡ joined (onto_first x ps) qs
onto_first-joined x [] [] = refl
onto_first-joined x [] (q ∷ qs) = refl
onto_first-joined x (p ∷ []) [] = refl
onto_first-joined x (p ∷ []) (q ∷ qs) = refl
onto_first-joined x (p ∷ r ∷ ps) qs = refl

onto_last-nil : {X : Type 0} (qs : List (List X)) → 0 < length qs → qs ≡ onto_last [] qs
onto_last-nil [] h = absurd (omega arith)
onto_last-nil (q ∷ qs) h = refl

slice_split-some : {X : Type 0} (p : X → Bool) (xs : List X) → 0 < length (slice_split p xs)
slice_split-some p xs = omega (arith, length-slice_split p xs)

pub slice_split-append : {X : Type 0} (p : X → Bool) (xs ys : List X) → slice_split p (xs ++ ys) ≡ joined (slice_split p xs) (slice_split p ys)
slice_split-append p [] ys = onto_last-nil (slice_split p ys) (slice_split-some p ys)
slice_split-append p (x ∷ xs) ys =
    elim (p x) as (λ v. cond v ([] ∷ slice_split p (xs ++ ys)) (onto_first x (slice_split p (xs ++ ys))) ≡ joined (cond v ([] ∷ slice_split p xs) (onto_first x (slice_split p xs))) (slice_split p ys)) [
      | true ↦ ap (λ ps. [] ∷ ps) (slice_split-append p xs ys) ∙ joined-cons [] (slice_split p xs) (slice_split p ys) (slice_split-some p xs)
      | false ↦ ap (onto_first x) (slice_split-append p xs ys) ∙ onto_first-joined x (slice_split p xs) (slice_split p ys)
    ]

pub all_but_last-push : {X : Type 0} (xs : List X) (x : X) → all_but_last (xs ++ x ∷ []) ≡ xs
all_but_last-push [] x = refl
all_but_last-push (y ∷ []) x = refl
all_but_last-push (y ∷ z ∷ xs) x = ap (λ l. y ∷ l) (all_but_last-push (z ∷ xs) x)

pub last_of-push : {X : Type 0} (xs : List (List X)) (x : List X) → last_of (xs ++ x ∷ []) ≡ x
last_of-push [] x = refl
last_of-push (y ∷ []) x = refl
last_of-push (y ∷ z ∷ xs) x = last_of-push (z ∷ xs) x

-- a list is all but its last, and its last
pub all_but_last-last_of : {X : Type 0} (xs : List (List X)) → 0 < length xs → xs ≡ all_but_last xs ++ last_of xs ∷ []
all_but_last-last_of [] h = absurd (omega arith)
all_but_last-last_of (x ∷ []) h = refl
all_but_last-last_of (x ∷ y ∷ xs) h = ap (λ l. x ∷ l) (all_but_last-last_of (y ∷ xs) (omega arith))

pub slice_split-parts : {X : Type 0} (p : X → Bool) (xs : List X) → slice_split p xs ≡ all_but_last (slice_split p xs) ++ last_of (slice_split p xs) ∷ []
slice_split-parts p xs = all_but_last-last_of (slice_split p xs) (slice_split-some p xs)

-- one element more, which splits
pub slice_split-push_yes : {X : Type 0} (p : X → Bool) (xs : List X) (x : X) → p x ≡ true → slice_split p (xs ++ x ∷ []) ≡ (all_but_last (slice_split p xs) ++ last_of (slice_split p xs) ∷ []) ++ [] ∷ []
slice_split-push_yes {X} p xs x passes =
    let ps = slice_split p xs in
    let one : slice_split p (x ∷ []) ≡ [] ∷ [] ∷ [] = rw passes in
    slice_split-append p xs (x ∷ []) ∙ ap (joined ps) one ∙ ap (λ (l : List X). all_but_last ps ++ l ∷ [] ∷ []) (append-nil (last_of ps)) ∙ sym (append_assoc (all_but_last ps) (last_of ps ∷ []) ([] ∷ []))

-- and one which doesn't
pub slice_split-push_no : {X : Type 0} (p : X → Bool) (xs : List X) (x : X) → p x ≡ false → slice_split p (xs ++ x ∷ []) ≡ all_but_last (slice_split p xs) ++ (last_of (slice_split p xs) ++ x ∷ []) ∷ []
slice_split-push_no p xs x fails =
    let one : slice_split p (x ∷ []) ≡ (x ∷ []) ∷ [] = rw fails in
    slice_split-append p xs (x ∷ []) ∙ ap (joined (slice_split p xs)) one
