-- The bounds of two lists together, and of cursors.
use Rattle.std.proofs.Common.{◌≡◌, ◌⊎◌, ◌<◌, ◌≤◌, min, max, MatchOption, Option, Some, None, IsNone, ℕ, zero, suc, List, [], ◌++◌, Contains, replicate, inl, inr, refl, sym, subst, arith}
use Rattle.std.proofs.lemmas.Bool.{cases_lt}
use Rattle.std.proofs.lemmas.List.Elements.{All-append, All-replicate, Contains-append_left, Contains-append_right}
use Rattle.kq_store_column.specs.Bounds.{AreBounds, IsLesser, IsGreater}

-- the one that was picked stands in both lists together
picked_stands : {T : Type 0} (xs ys : List T) (x y picked : T) → Contains xs x → Contains ys y → (picked ≡ y) ⊎ (picked ≡ x) → Contains (xs ++ ys) picked
picked_stands {T} xs ys x y picked first second either =
    elim either [
      | inl e ↦ Contains-append_right xs ys picked (subst (λ (z : T). Contains ys z) (sym e) second)
      | inr e ↦ Contains-append_left xs ys picked (subst (λ (z : T). Contains xs z) (sym e) first)
    ]

AreBounds-append : {T : Type 0} (AtMost : T → T → Type 0) → ((x y z : T) → AtMost x y → AtMost y z → AtMost x z)
    → (xs ys : List T) (a b c d lesser greater : T) → AreBounds AtMost xs a b → AreBounds AtMost ys c d → IsLesser AtMost c a lesser → IsGreater AtMost d b greater
    → AreBounds AtMost (xs ++ ys) lesser greater
AreBounds-append AtMost trans xs ys a b c d lesser greater bounds more low high = record {
  least_stands = picked_stands xs ys a c lesser bounds.least_stands more.least_stands low.either;
  none_below = All-append (λ y. AtMost lesser y) xs ys (λ k d h. trans lesser a _ low.second (bounds.none_below k d h)) (λ k d h. trans lesser c _ low.first (more.none_below k d h));
  greatest_stands = picked_stands xs ys b d greater bounds.greatest_stands more.greatest_stands high.either;
  none_above = All-append (λ y. AtMost y greater) xs ys (λ k d h. trans _ b greater (bounds.none_above k d h) high.second) (λ k e h. trans _ d greater (more.none_above k e h) high.first);
}

le-refl : (a : ℕ) → a ≤ a
le-refl a = omega arith

le-trans : (a b c : ℕ) → a ≤ b → b ≤ c → a ≤ c
le-trans a b c h k = omega arith

IsLesser-min : (a b : ℕ) → IsLesser ◌≤◌ a b (min a b)
IsLesser-min a b = record { either = elim (cases_lt a b) [ inl less ↦ inl (omega arith) | inr more ↦ inr (omega arith) ]; first = omega arith; second = omega arith }

IsGreater-max : (a b : ℕ) → IsGreater ◌≤◌ a b (max a b)
IsGreater-max a b = record { either = elim (cases_lt a b) [ inl less ↦ inr (omega arith) | inr more ↦ inl (omega arith) ]; first = omega arith; second = omega arith }

-- one number over and over
pub AreBounds-same : (n x : ℕ) → 0 < n → AreBounds ◌≤◌ (replicate n x) x x
AreBounds-same zero x some = absurd (omega arith)
AreBounds-same (suc n) x some = record {
  least_stands = (0, omega arith, refl);
  none_below = All-replicate (λ y. x ≤ y) (suc n) x (le-refl x);
  greatest_stands = (0, omega arith, refl);
  none_above = All-replicate (λ y. y ≤ x) (suc n) x (le-refl x);
}

-- a number more, over and over
pub AreBounds-more : (xs : List ℕ) (n x least greatest : ℕ) → 0 < n → AreBounds ◌≤◌ xs least greatest → AreBounds ◌≤◌ (xs ++ replicate n x) (min x least) (max x greatest)
AreBounds-more xs n x least greatest some bounds =
    AreBounds-append ◌≤◌ le-trans xs (replicate n x) least greatest x x (min x least) (max x greatest) bounds (AreBounds-same n x some) (IsLesser-min x least) (IsGreater-max x greatest)

AreBounds-nil : (least greatest : ℕ) → AreBounds ◌≤◌ [] least greatest → ⊥
AreBounds-nil least greatest bounds = omega (arith, bounds.least_stands.1)

-- where nothing was found so far, the list so far is empty
pub nothing_so_far : {C : Type 0} (o : Option C) (P : Type 0) (Q : C → Type 0) → o ≡ None → MatchOption o P Q → P
nothing_so_far None P Q e so_far = so_far
nothing_so_far (Some x) P Q e so_far = cc

-- what was found so far bounds the list so far
pub found_so_far : {C : Type 0} (o : Option C) (x : C) (P : Type 0) (Q : C → Type 0) → o ≡ Some x → MatchOption o P Q → Q x
found_so_far {C} o x P Q e so_far = subst (λ (p : Option C). MatchOption p P Q) e so_far

-- nothing was found just where the list is empty
pub none_found : (o : Option (ℕ × ℕ)) (xs : List ℕ) → MatchOption o (xs ≡ []) (λ bounds. AreBounds ◌≤◌ xs bounds.0 bounds.1) → (IsNone o → xs ≡ []) × (xs ≡ [] → IsNone o)
none_found None xs empty = (λ none. empty, λ none. refl)
none_found (Some bounds) xs found = (λ none. absurd (cc), λ empty. absurd (AreBounds-nil bounds.0 bounds.1 (subst (λ (ys : List ℕ). AreBounds ◌≤◌ ys bounds.0 bounds.1) empty found)))
