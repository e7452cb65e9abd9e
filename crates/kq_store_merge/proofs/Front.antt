-- The first of the small extents, handle by handle.
use Rattle.std.proofs.Common.{◌≡◌, ◌<◌, ◌≤◌, ◌+◌, ℕ, zero, suc, List, [], ◌∷◌, ◌++◌, length, map, take, drop, get_or, slice_get, Some, min, Bool, true, false, nat_lt, refl, ap, sym, ◌∙◌, arith}
use Rattle.std.proofs.lemmas.Bool.{ltb-true, ltb-false}
use Rattle.std.proofs.lemmas.List.{take_more, take_all}
use Rattle.std.proofs.lemmas.Option.{get_or_from_slice_get}
use Rattle.kq_store_extent.specs.Seen.{ExtentView}
use Rattle.kq_store_shared_lists.specs.Standing.{StandsAt}

-- what stands from a place on begins with what stands there
first_at : (xs : List ExtentView) (at : ℕ) (y : ExtentView) (ys : List ExtentView) → at < length xs → StandsAt xs at (y ∷ ys) → slice_get xs at ≡ Some y
first_at [] at y ys within stands = absurd (omega (arith, within))
first_at (x ∷ xs) zero y ys within stands = let is = stands.is in cc
first_at (x ∷ xs) (suc at) y ys within stands =
    first_at xs at y ys (omega (arith, within)) (record { is = stands.is ∙ ap (λ (n : ℕ). (y ∷ ys) ++ drop n (x ∷ xs)) (let same : suc at + length (y ∷ ys) ≡ suc (at + length (y ∷ ys)) = omega arith in same) })

pub first_of_part : {H : Type 0} (value : H → ExtentView) (xs : List ExtentView) (at : ℕ) (part : List H) (h : H) → at < length xs → StandsAt xs at (map value part) → 0 < length part → h ≡ get_or part 0 h
    → slice_get xs at ≡ Some (value h)
first_of_part value xs at [] h within stands some is = absurd (omega (arith, some))
first_of_part value xs at (p ∷ part) h within stands some is =
    first_at xs at (value p) (map value part) within stands ∙ ap (λ x. Some (value x)) (sym is)

-- one more of the first
pub take_next : (xs : List ExtentView) (n : ℕ) (x : ExtentView) → n < length xs → slice_get xs n ≡ Some x → take n xs ++ x ∷ [] ≡ take (n + 1) xs
take_next xs n x within is = ap (λ (y : ExtentView). take n xs ++ y ∷ []) (sym (get_or_from_slice_get xs n x x is)) ∙ sym (take_more xs n x within)

-- as many of the first as there are, or 64
pub first_64 : (xs : List ExtentView) (n : ℕ) → n ≡ min (length xs) 64 → take n xs ≡ take 64 xs
first_64 xs n is = by_test (nat_lt (length xs) 64) refl
  where
    by_test : (b : Bool) → nat_lt (length xs) 64 ≡ b → take n xs ≡ take 64 xs
    by_test true h = let few = ltb-true (length xs) 64 h in take_all n xs (omega (arith, is, few)) ∙ sym (take_all 64 xs (omega (arith, few)))
    by_test false h = let many = ltb-false (length xs) 64 h in (let same : n ≡ 64 = omega (arith, is, many) in ap (λ (k : ℕ). take k xs) same)
