-- Places among more names.
use Rattle.std.proofs.Common.{◌≡◌, ℕ, ◌+◌, List, [], ◌∷◌, ◌++◌, length, Bool, true, false, cond, Option, Some, None, ◌⊎◌, inl, inr, refl, ap, sym, ◌∙◌, arith, zero-add}
use Rattle.std.specs.Prelude.{nat_eq}
use Rattle.std.specs.Cmp.Lexicographic.{pointwise}
use Rattle.std.proofs.lemmas.Option.{cond_some}
use Rattle.std.proofs.lemmas.Slice.Eq.{bytes_eq-Decides}
use Rattle.kq_catalog_indexes.specs.Places.{place_from, place_of}

kept : (b : Bool) (n k : ℕ) (p q : Option ℕ) → (p ≡ Some k → q ≡ Some k) → cond b (Some n) p ≡ Some k → cond b (Some n) q ≡ Some k
kept true n k p q step is = is
kept false n k p q step is = step is

place_from-go_on : (n : ℕ) (name : List ℕ) (xs ys : List (List ℕ)) (k : ℕ) → place_from n name xs ≡ Some k → place_from n name (xs ++ ys) ≡ Some k
place_from-go_on n name [] ys k is = cc
place_from-go_on n name (x ∷ xs) ys k is = kept (pointwise nat_eq x name) n k (place_from (n + 1) name xs) (place_from (n + 1) name (xs ++ ys)) (place_from-go_on (n + 1) name xs ys k) is

-- a name keeps its place
pub place_of-go_on : (name : List ℕ) (xs ys : List (List ℕ)) (k : ℕ) → place_of name xs ≡ Some k → place_of name (xs ++ ys) ≡ Some k
place_of-go_on = place_from-go_on 0

pushed : (b : Bool) (n : ℕ) (p q r : Option ℕ) → (p ≡ None → q ≡ r) → cond b (Some n) p ≡ None → cond b (Some n) q ≡ r
pushed true n p q r step is = cc
pushed false n p q r step is = step is

place_from-push : (n : ℕ) (name : List ℕ) (xs : List (List ℕ)) (y : List ℕ) → place_from n name xs ≡ None → place_from n name (xs ++ y ∷ []) ≡ cond (pointwise nat_eq y name) (Some (n + length xs)) None
place_from-push n name [] y is = ap (λ (k : ℕ). cond (pointwise nat_eq y name) (Some k) None) (omega arith)
place_from-push n name (x ∷ xs) y is =
    pushed (pointwise nat_eq x name) n (place_from (n + 1) name xs) (place_from (n + 1) name (xs ++ y ∷ [])) (cond (pointwise nat_eq y name) (Some (n + length (x ∷ xs))) None)
    (λ none. place_from-push (n + 1) name xs y none ∙ ap (λ (k : ℕ). cond (pointwise nat_eq y name) (Some k) None) (omega arith)) is

-- a name that had no place has the last one, or none
place_of-push : (name : List ℕ) (xs : List (List ℕ)) (y : List ℕ) → place_of name xs ≡ None → place_of name (xs ++ y ∷ []) ≡ cond (pointwise nat_eq y name) (Some (length xs)) None
place_of-push name xs y is = place_from-push 0 name xs y is ∙ ap (λ (k : ℕ). cond (pointwise nat_eq y name) (Some k) None) (zero-add (length xs))

-- the last name has the last place where it had none before
pub place_of-last : (name : List ℕ) (xs : List (List ℕ)) → place_of name xs ≡ None → place_of name (xs ++ name ∷ []) ≡ Some (length xs)
place_of-last name xs is = place_of-push name xs name is ∙ ap (λ (b : Bool). cond b (Some (length xs)) None) ((bytes_eq-Decides name name).1 refl)

-- a place among one name more was there before, or is the last name's
pub place_of-cases : (name : List ℕ) (xs : List (List ℕ)) (y : List ℕ) (k : ℕ) → place_of name (xs ++ y ∷ []) ≡ Some k → (place_of name xs ≡ Some k) ⊎ ((y ≡ name) × (length xs ≡ k))
place_of-cases name xs y k is = by_place (place_of name xs) refl
  where
    by_place : (o : Option ℕ) → place_of name xs ≡ o → (place_of name xs ≡ Some k) ⊎ ((y ≡ name) × (length xs ≡ k))
    by_place None none =
        let last = cond_some (pointwise nat_eq y name) (length xs) k (sym (place_of-push name xs y none) ∙ is) in
        inr ((bytes_eq-Decides y name).0 last.0, last.1)
    by_place (Some j) some = inl (some ∙ sym (place_of-go_on name xs (y ∷ []) j some) ∙ is)
