-- Histories that begin others.
use Rattle.std.proofs.Common.{◌≡◌, ◌≤◌, ℕ, Bool, true, false, length, List, [], ◌∷◌, ◌++◌, take, drop, refl, sym, ap, ◌∙◌, subst, inl, inr, ⊎_elim, append_assoc, take-append-drop, length-append, max, arith, rules}
use Rattle.std.specs.Prelude.{All, nat_lt, if◌then◌else◌}
use Rattle.std.proofs.Math.Seq.{drop-append_seam, take-append_seam}
use Rattle.std.proofs.lemmas.Bool.Decides.{nat_tests}
use mathlib.Core.List.{IsPrefix}
use Rattle.kq_lock.specs.Histories.{gained, longer, IsLongerOf}

module _ {E : Type 0} where
  pub IsPrefix-refl : (h : List E) → IsPrefix h h
  IsPrefix-refl h = ([], search rules)

  pub IsPrefix-trans : (xs ys zs : List E) → IsPrefix xs ys → IsPrefix ys zs → IsPrefix xs zs
  IsPrefix-trans xs ys zs p q = (p.0 ++ q.0, sym (append_assoc xs p.0 q.0) ∙ ap (λ l. l ++ q.0) p.1 ∙ q.1)

  pub IsPrefix-append : (h more : List E) → IsPrefix h (h ++ more)
  IsPrefix-append h more = (more, refl)

  -- the first entries of a history begin it, and whatever begins it are its first entries
  pub IsPrefix-take : (n : ℕ) (h : List E) → IsPrefix (take n h) h
  IsPrefix-take n h = (drop n h, take-append-drop n h)

  pub take-IsPrefix : (old h : List E) → IsPrefix old h → take (length old) h ≡ old
  take-IsPrefix old h p = ap (take (length old)) (sym p.1) ∙ take-append_seam old p.0

  pub gained-append : (old more : List E) → gained old (old ++ more) ≡ more
  gained-append old more = drop-append_seam old more

  -- a beginning, followed by what was gained, is the whole
  pub append-gained : (old h : List E) → IsPrefix old h → old ++ gained old h ≡ h
  append-gained old h p = ap (λ l. old ++ gained old l) (sym p.1) ∙ ap (λ l. old ++ l) (drop-append_seam old p.0) ∙ p.1

  pub All-longer : (olds : List (List E)) (g h : List E) → All (λ old. IsPrefix old g) olds → IsPrefix g h → All (λ old. IsPrefix old h) olds
  All-longer olds g h all longer k d here = IsPrefix-trans _ g h (all k d here) longer

  -- of two beginnings of one history, the one that isn't longer begins the other
  pub shorter_begins : (xs ys h : List E) → IsPrefix xs h → IsPrefix ys h → length xs ≤ length ys → IsPrefix xs ys
  shorter_begins [] ys h p q le = (ys, refl)
  shorter_begins (x ∷ xs) [] h p q le = absurd (omega (arith, le))
  shorter_begins (x ∷ xs) (y ∷ ys) h p q le =
      let whole : x ∷ (xs ++ p.0) ≡ y ∷ (ys ++ q.0) = p.1 ∙ sym q.1 in
      let tail : xs ++ p.0 ≡ ys ++ q.0 = cc in
      let head : x ≡ y = cc in
      let rest = shorter_begins xs ys (ys ++ q.0) (p.0, tail) (q.0, refl) (omega (arith, le)) in
      let last : xs ++ rest.0 ≡ ys = rest.1 in (rest.0, (λ i. head i ∷ last i))

  pub longer_of : (g h all : List E) → IsPrefix g all → IsPrefix h all → IsLongerOf g h (longer g h)
  longer_of g h all p q = by_test (nat_lt (length g) (length h)) refl
    where
      by_test : (b : Bool) → nat_lt (length g) (length h) ≡ b → IsLongerOf g h (if b then h else g)
      by_test true e = inr (refl, shorter_begins g h all p q (grind (arith, nat_tests)))
      by_test false e = inl (refl, shorter_begins h g all q p (grind (arith, nat_tests)))

  pub first_begins : (g h both : List E) → IsLongerOf g h both → IsPrefix g both
  first_begins g h both is = ⊎_elim
      (λ (a : (both ≡ g) × IsPrefix h g). subst (IsPrefix g) (sym a.0) (IsPrefix-refl g))
      (λ (a : (both ≡ h) × IsPrefix g h). subst (IsPrefix g) (sym a.0) a.1)
      is

  pub second_begins : (g h both : List E) → IsLongerOf g h both → IsPrefix h both
  second_begins g h both is = ⊎_elim
      (λ (a : (both ≡ g) × IsPrefix h g). subst (IsPrefix h) (sym a.0) a.1)
      (λ (a : (both ≡ h) × IsPrefix g h). subst (IsPrefix h) (sym a.0) (IsPrefix-refl h))
      is

  pub length-IsPrefix : (old h : List E) → IsPrefix old h → length old ≤ length h
  length-IsPrefix old h p = let whole = ap length p.1 in omega (arith, whole, length-append old p.0)

  pub length-IsLongerOf : (g h both : List E) → IsLongerOf g h both → length both ≡ max (length g) (length h)
  length-IsLongerOf g h both is = ⊎_elim
      (λ (a : (both ≡ g) × IsPrefix h g). let same = ap length a.0 in let le = length-IsPrefix h g a.1 in omega (arith, same, le))
      (λ (a : (both ≡ h) × IsPrefix g h). let same = ap length a.0 in let le = length-IsPrefix g h a.1 in omega (arith, same, le))
      is
