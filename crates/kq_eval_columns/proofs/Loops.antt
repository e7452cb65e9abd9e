-- What loops over lists keep.
use Rattle.std.proofs.Common.{◌≡◌, ◌<◌, ◌≤◌, ℕ, zero, suc, List, [], ◌∷◌, ◌++◌, map, length, get_or, take, drop, refl, sym, ap, ◌∙◌, arith, append-nil, append_assoc}
use Rattle.kq_value.specs.Computed.{Computed, Is, Overflow, and_then}

module _ {A : Type 0} where
  after_one : (made : List A) (x : A) (rest : Computed (List A)) → and_then (and_then rest (λ zs. Is (x ∷ zs))) (λ zs. Is (made ++ zs)) ≡ and_then rest (λ zs. Is ((made ++ x ∷ []) ++ zs))
  after_one made x Overflow = refl
  after_one made x (Is zs) = ap Is (sym (append_assoc made (x ∷ []) zs))

  -- one value more has been made
  pub goes_on : (whole next : Computed (List A)) (o : Computed A) (rest : Computed (List A)) (made : List A) (x : A)
      → whole ≡ and_then next (λ zs. Is (made ++ zs)) → next ≡ and_then o (λ z. and_then rest (λ zs. Is (z ∷ zs))) → o ≡ Is x
      → whole ≡ and_then rest (λ zs. Is ((made ++ x ∷ []) ++ zs))
  goes_on whole next o rest made x h n e = h ∙ rw (n, e) (after_one made x rest)

  -- one overflow is that of the whole
  pub breaks_off : (whole next : Computed (List A)) (o : Computed A) (rest : Computed (List A)) (made : List A)
      → whole ≡ and_then next (λ zs. Is (made ++ zs)) → next ≡ and_then o (λ z. and_then rest (λ zs. Is (z ∷ zs))) → o ≡ Overflow
      → whole ≡ Overflow
  breaks_off whole next o rest made h n e = h ∙ rw (n, e) refl

  -- nothing is left
  pub comes_to_end : (whole next : Computed (List A)) (made : List A) → whole ≡ and_then next (λ zs. Is (made ++ zs)) → next ≡ Is [] → whole ≡ Is made
  comes_to_end whole next made h e = h ∙ rw e (ap Is (append-nil made))

  pub drop_at : (xs : List A) (i : ℕ) (d : A) → i < length xs → drop i xs ≡ get_or xs i d ∷ drop (suc i) xs
  drop_at [] i d h = absurd (omega arith)
  drop_at (x ∷ xs) zero d h = refl
  drop_at (x ∷ xs) (suc i) d h = drop_at xs i d (omega arith)

  pub drop_all : (xs : List A) (i : ℕ) → length xs ≤ i → drop i xs ≡ []
  drop_all [] zero h = refl
  drop_all [] (suc i) h = refl
  drop_all (y ∷ xs) zero h = absurd (omega arith)
  drop_all (y ∷ xs) (suc i) h = drop_all xs i (omega arith)

module _ {A B : Type 0} where
  pub map_take_more : (f : A → B) (xs : List A) (i : ℕ) (d : A) → i < length xs → map f (take (suc i) xs) ≡ map f (take i xs) ++ f (get_or xs i d) ∷ []
  map_take_more f [] i d h = absurd (omega arith)
  map_take_more f (x ∷ xs) zero d h = refl
  map_take_more f (x ∷ xs) (suc i) d h = ap (λ ys. f x ∷ ys) (map_take_more f xs i d (omega arith))
