-- What is found by a name stands at its number.
use Rattle.std.proofs.Common.{◌≡◌, ◌<◌, ◌∙◌, ◌+◌, ap, sym, arith, get_or, ℕ, zero, suc, Bool, true, false, not, cond, List, [], ◌∷◌, map, length, nat_lt, Option, Some, None, refl}
use Rattle.std.specs.Option.{option_map}
use Rattle.std.specs.List.{find, position, position_or_len, slice_get}
use Rattle.std.proofs.lemmas.Bool.{ltb-false}
use Rattle.std.proofs.lemmas.List.{length-map}
use Rattle.std.proofs.lemmas.List.Folds.{find_at}
use Rattle.std.proofs.lemmas.List.Quantifiers.{position-Some}
use Rattle.std.proofs.lemmas.Option.{slice_get-get_or, slice_get-map, slice_get_past}

-- ---- the number of what is seen as something else

place-map : {X Y : Type 0} (p : Y → Bool) (f : X → Y) (xs : List X) → position_or_len p (map f xs) ≡ position_or_len (λ (x : X). p (f x)) xs
place-map p f [] = refl
place-map p f (x ∷ xs) = by_test (p (f x)) (place-map p f xs)
  where
    by_test : (b : Bool) → position_or_len p (map f xs) ≡ position_or_len (λ x. p (f x)) xs → cond (not b) (1 + position_or_len p (map f xs)) 0 ≡ cond (not b) (1 + position_or_len (λ x. p (f x)) xs) 0
    by_test b rest = ap (λ (n : ℕ). cond (not b) (1 + n) 0) rest

pub position-map : {X Y : Type 0} (p : Y → Bool) (f : X → Y) (xs : List X) → position p (map f xs) ≡ position (λ (x : X). p (f x)) xs
position-map p f xs =
    ap (λ (n : ℕ). cond (nat_lt n (length (map f xs))) (Some n) None) (place-map p f xs)
    ∙ ap (λ (len : ℕ). cond (nat_lt (position_or_len (λ x. p (f x)) xs) len) (Some (position_or_len (λ x. p (f x)) xs)) None) (length-map xs f)

-- ---- what stands at the number

module _ {X : Type 0} (p : X → Bool) (xs : List X) where
  abbrev at : ℕ
  at = position_or_len p xs

  pub find_at_position : (n : ℕ) → position p xs ≡ Some n → find p xs ≡ slice_get xs n
  find_at_position n = by_test (nat_lt at (length xs))
    where
      by_test : (b : Bool) → cond b (Some at) None ≡ Some n → find p xs ≡ slice_get xs n
      by_test true is = let same : at ≡ n = cc in find_at p xs ∙ ap (slice_get xs) same
      by_test false is = absurd cc

  pub find_nowhere : position p xs ≡ None → find p xs ≡ None
  find_nowhere = by_test (nat_lt at (length xs)) refl
    where
      by_test : (b : Bool) → nat_lt at (length xs) ≡ b → cond b (Some at) None ≡ None → find p xs ≡ None
      by_test true within is = absurd cc
      by_test false past is = find_at p xs ∙ slice_get_past xs at (ltb-false at (length xs) past)

module _ {X Y : Type 0} (f : X → Y) (xs : List X) (n : ℕ) (x : X) where
  -- what was read there, as it is seen
  pub stands_there : n < length xs → x ≡ get_or xs n x → slice_get (map f xs) n ≡ Some (f x)
  stands_there within is = slice_get-map f xs n ∙ ap (option_map f) (slice_get-get_or xs n x within ∙ ap Some (sym is))

  pub position_within : (p : Y → Bool) → position p (map f xs) ≡ Some n → n < length xs
  position_within p at = let first = position-Some p (map f xs) n (f x) at in let count = length-map xs f in omega (arith, first.0, count)

  pub found_there : (p : Y → Bool) → position p (map f xs) ≡ Some n → x ≡ get_or xs n x → find p (map f xs) ≡ Some (f x)
  found_there p at is = find_at_position p (map f xs) n at ∙ stands_there (position_within p at) is
