-- Items of a list by their places.
use Rattle.std.proofs.Common.{◌≡◌, ◌≢◌, ◌⊎◌, inl, inr, ◌<◌, refl, ℕ, zero, suc, List, [], ◌∷◌, ◌++◌, length, Some, ap, arith}
use Rattle.std.specs.List.{slice_get}
use Rattle.std.proofs.lemmas.Option.{slice_get_within}
use Rattle.kq_catalog_journal.specs.Changed.{changed}

-- items put behind leave those before at their places
pub get-first : {X : Type 0} (xs ys : List X) (n : ℕ) → n < length xs → slice_get (xs ++ ys) n ≡ slice_get xs n
get-first [] ys n within = absurd (omega (arith, within))
get-first (x ∷ xs) ys zero within = refl
get-first (x ∷ xs) ys (suc n) within = get-first xs ys n (omega (arith, within))

pub get-last : {X : Type 0} (xs : List X) (y : X) → slice_get (xs ++ y ∷ []) (length xs) ≡ Some y
get-last [] y = refl
get-last (x ∷ xs) y = get-last xs y

-- an item of a list is among the first, or it is the one behind them
pub get-push : {X : Type 0} (xs : List X) (y x : X) (n : ℕ) → slice_get (xs ++ y ∷ []) n ≡ Some x → (slice_get xs n ≡ Some x) ⊎ ((n ≡ length xs) × (x ≡ y))
get-push [] y x zero at = inr (refl, cc)
get-push [] y x (suc n) at = absurd (cc)
get-push (z ∷ xs) y x zero at = inl at
get-push (z ∷ xs) y x (suc n) at = by_rest (get-push xs y x n at)
  where
    by_rest : (slice_get xs n ≡ Some x) ⊎ ((n ≡ length xs) × (x ≡ y)) → (slice_get (z ∷ xs) (suc n) ≡ Some x) ⊎ ((suc n ≡ length (z ∷ xs)) × (x ≡ y))
    by_rest (inl there) = inl there
    by_rest (inr last) = inr (ap (λ (k : ℕ). suc k) last.0, last.1)

-- what stands at a place of a list of which one item was changed
pub record WasAt {X : Type 0} (f : X → X) (k : ℕ) (xs : List X) (n : ℕ) (y : X) : Type 0 where
  pub item : X
  pub at : slice_get xs n ≡ Some item
  pub is : ((n ≡ k) × (y ≡ f item)) ⊎ ((n ≢ k) × (y ≡ item))

pub get-changed : {X : Type 0} (f : X → X) (k : ℕ) (xs : List X) (n : ℕ) (y : X) → slice_get (changed f k xs) n ≡ Some y → WasAt f k xs n y
get-changed f k [] n y at = absurd (let within = slice_get_within [] n y at in omega (arith, within))
get-changed f zero (x ∷ xs) zero y at = record { item = x; at = refl; is = inl (refl, cc) }
get-changed f zero (x ∷ xs) (suc n) y at = record { item = y; at = at; is = inr (λ same. absurd (omega (arith, same)), refl) }
get-changed f (suc k) (x ∷ xs) zero y at = record { item = x; at = refl; is = inr (λ same. absurd (omega (arith, same)), cc) }
get-changed f (suc k) (x ∷ xs) (suc n) y at = by_case (get-changed f k xs n y at)
  where
    by_case : WasAt f k xs n y → WasAt f (suc k) (x ∷ xs) (suc n) y
    by_case was = record { item = was.item; at = was.at; is = next was.is }
      where
        next : ((n ≡ k) × (y ≡ f was.item)) ⊎ ((n ≢ k) × (y ≡ was.item)) → ((suc n ≡ suc k) × (y ≡ f was.item)) ⊎ ((suc n ≢ suc k) × (y ≡ was.item))
        next (inl same) = inl (ap (λ (m : ℕ). suc m) same.0, same.1)
        next (inr other) = inr (λ same. other.0 (omega (arith, same)), other.1)
