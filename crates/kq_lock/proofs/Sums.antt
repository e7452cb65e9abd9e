-- Sums over a list, of which one or two places are known.
use Rattle.std.proofs.Common.{◌≡◌, ◌≢◌, ◌≤◌, ℕ, zero, suc, ◌+◌, ◌<◌, length, List, [], ◌∷◌, set, refl, sym, ap, arith}
use Rattle.std.specs.Prelude.{sum_by}
use Rattle.std.proofs.lemmas.List.Sums.{sum_by-cons}
use mathlib.Core.Option.{some, some-ne-none, some-injective}
use lib.ListN.{get_elem?}

module _ {X : Type 0} where
  pub within : (xs : List X) (i : ℕ) (x : X) → get_elem? xs i ≡ some x → i < length xs
  within [] i x e = absurd (some-ne-none x (sym e))
  within (y ∷ xs) zero x e = omega arith
  within (y ∷ xs) (suc i) x e = let rest = within xs i x e in omega (arith, rest)

module _ {X : Type 0} (f : X → ℕ) where
  -- one place changes
  pub sum_by-set_at : (xs : List X) (i : ℕ) (x y : X) → get_elem? xs i ≡ some x → sum_by f (set xs i y) + f x ≡ sum_by f xs + f y
  sum_by-set_at [] i x y e = absurd (some-ne-none x (sym e))
  sum_by-set_at (z ∷ xs) zero x y e =
      let same = ap f (some-injective z x e) in
      omega (arith, same, sum_by-cons f z xs, sum_by-cons f y xs)
  sum_by-set_at (z ∷ xs) (suc i) x y e =
      let rest = sum_by-set_at xs i x y e in
      omega (arith, rest, sum_by-cons f z xs, sum_by-cons f z (set xs i y))

  -- it changes to what has as much
  pub sum_by-set_same : (xs : List X) (i total : ℕ) (x y : X) → get_elem? xs i ≡ some x → f y ≡ f x → sum_by f xs ≡ total → sum_by f (set xs i y) ≡ total
  sum_by-set_same xs i total x y here same all = let set_at = sum_by-set_at xs i x y here in omega (arith, set_at, same, all)

  pub at-le-sum_by : (xs : List X) (i : ℕ) (x : X) → get_elem? xs i ≡ some x → f x ≤ sum_by f xs
  at-le-sum_by [] i x e = absurd (some-ne-none x (sym e))
  at-le-sum_by (z ∷ xs) zero x e = let same = ap f (some-injective z x e) in omega (arith, same, sum_by-cons f z xs)
  at-le-sum_by (z ∷ xs) (suc i) x e = let rest = at-le-sum_by xs i x e in omega (arith, rest, sum_by-cons f z xs)

  -- two different places
  pub two-le-sum_by : (xs : List X) (i j : ℕ) (x y : X) → get_elem? xs i ≡ some x → get_elem? xs j ≡ some y → i ≢ j → f x + f y ≤ sum_by f xs
  two-le-sum_by [] i j x y e d apart = absurd (some-ne-none x (sym e))
  two-le-sum_by (z ∷ xs) zero zero x y e d apart = absurd (apart refl)
  two-le-sum_by (z ∷ xs) zero (suc j) x y e d apart = let same = ap f (some-injective z x e) in let rest = at-le-sum_by xs j y d in omega (arith, same, rest, sum_by-cons f z xs)
  two-le-sum_by (z ∷ xs) (suc i) zero x y e d apart = let same = ap f (some-injective z y d) in let rest = at-le-sum_by xs i x e in omega (arith, same, rest, sum_by-cons f z xs)
  two-le-sum_by (z ∷ xs) (suc i) (suc j) x y e d apart = let rest = two-le-sum_by xs i j x y e d (λ q. apart (ap suc q)) in omega (arith, rest, sum_by-cons f z xs)

  pub sum_by-zero : (xs : List X) → ((i : ℕ) (x : X) → get_elem? xs i ≡ some x → f x ≡ 0) → sum_by f xs ≡ 0
  sum_by-zero [] none = refl
  sum_by-zero (z ∷ xs) none =
      let here = none zero z refl in
      let rest = sum_by-zero xs (λ i x e. none (suc i) x e) in
      omega (arith, here, rest, sum_by-cons f z xs)

  -- where all other places have nothing, one has all
  pub sum_by-alone : (xs : List X) (i : ℕ) (x : X) → get_elem? xs i ≡ some x → ((j : ℕ) (y : X) → get_elem? xs j ≡ some y → j ≢ i → f y ≡ 0) → sum_by f xs ≡ f x
  sum_by-alone [] i x e others = absurd (some-ne-none x (sym e))
  sum_by-alone (z ∷ xs) zero x e others =
      let same = ap f (some-injective z x e) in
      let rest = sum_by-zero xs (λ j y d. others (suc j) y d (λ q. absurd (omega (arith, q)))) in
      omega (arith, same, rest, sum_by-cons f z xs)
  sum_by-alone (z ∷ xs) (suc i) x e others =
      let here = others zero z refl (λ q. absurd (omega (arith, q))) in
      let rest = sum_by-alone xs i x e (λ j y d apart. others (suc j) y d (λ q. apart (omega (arith, q)))) in
      omega (arith, here, rest, sum_by-cons f z xs)
