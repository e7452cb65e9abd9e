-- The bounds of a list with one more.
use Rattle.std.proofs.Common.{◌≡◌, ◌⊎◌, MatchOption, Option, Some, None, List, [], ◌∷◌, ◌++◌, All, Contains, inl, inr, refl, sym, subst, arith}
use Rattle.std.proofs.lemmas.List.Elements.{All-append, All-cons, All-nil, Contains-append_left, Contains-append_right}
use Rattle.kq_store_column.specs.Bounds.{AreBounds, IsLesser, IsGreater}

All-one : {T : Type 0} (P : T → Type 0) (x : T) → P x → All P (x ∷ [])
All-one P x p = All-cons P x [] p (All-nil P)

Contains-one : {T : Type 0} (x : T) → Contains (x ∷ []) x
Contains-one x = (0, omega arith, refl)

-- the one that was picked stands in the list with one more
picked_stands : {T : Type 0} (xs : List T) (x old new : T) → Contains xs old → (new ≡ x) ⊎ (new ≡ old) → Contains (xs ++ x ∷ []) new
picked_stands {T} xs x old new stands either =
    elim either [
      | inl e ↦ Contains-append_right xs (x ∷ []) new (subst (λ (y : T). Contains (x ∷ []) y) (sym e) (Contains-one x))
      | inr e ↦ Contains-append_left xs (x ∷ []) new (subst (λ (y : T). Contains xs y) (sym e) stands)
    ]

pub AreBounds-one : {T : Type 0} (AtMost : T → T → Type 0) (x : T) → AtMost x x → AreBounds AtMost (x ∷ []) x x
AreBounds-one AtMost x same = record {
  least_stands = Contains-one x;
  none_below = All-one (λ y. AtMost x y) x same;
  greatest_stands = Contains-one x;
  none_above = All-one (λ y. AtMost y x) x same;
}

pub AreBounds-more : {T : Type 0} (AtMost : T → T → Type 0) → ((x y z : T) → AtMost x y → AtMost y z → AtMost x z)
    → (xs : List T) (x least greatest lesser greater : T) → AreBounds AtMost xs least greatest → IsLesser AtMost x least lesser → IsGreater AtMost x greatest greater
    → AreBounds AtMost (xs ++ x ∷ []) lesser greater
AreBounds-more AtMost trans xs x least greatest lesser greater bounds low high = record {
  least_stands = picked_stands xs x least lesser bounds.least_stands low.either;
  none_below = All-append (λ y. AtMost lesser y) xs (x ∷ []) (λ k d h. trans lesser least _ low.second (bounds.none_below k d h)) (All-one (λ y. AtMost lesser y) x low.first);
  greatest_stands = picked_stands xs x greatest greater bounds.greatest_stands high.either;
  none_above = All-append (λ y. AtMost y greater) xs (x ∷ []) (λ k d h. trans _ greatest greater (bounds.none_above k d h) high.second) (All-one (λ y. AtMost y greater) x high.first);
}

-- where nothing was found so far, the list so far is empty
pub nothing_so_far : {C : Type 0} (o : Option C) (P : Type 0) (Q : C → Type 0) → o ≡ None → MatchOption o P Q → P
nothing_so_far None P Q e so_far = so_far
nothing_so_far (Some x) P Q e so_far = cc

-- what was found so far bounds the list so far
pub found_so_far : {C : Type 0} (o : Option C) (x : C) (P : Type 0) (Q : C → Type 0) → o ≡ Some x → MatchOption o P Q → Q x
found_so_far {C} o x P Q e so_far = subst (λ (p : Option C). MatchOption p P Q) e so_far
