-- What is found in lists that stand one behind another.
use Rattle.std.proofs.Common.{◌≡◌, ◌∙◌, ℕ, Bool, true, false, cond, List, [], ◌∷◌, ◌++◌, Option, Some, None, refl, sym, ap}
use Rattle.std.specs.Option.{option_or}
use Rattle.std.specs.Prelude.{option_map}
use Rattle.std.specs.List.{find}
use Rattle.kq_export_laws.specs.Symbols.{Spoken, place_of}
use Rattle.kq_export_laws.specs.Searches.{found}

found_append : (is : Spoken → Bool) (xs ys : List Spoken) → found is (xs ++ ys) ≡ option_or (found is xs) (found is ys)
found_append is [] ys = refl
found_append is (x ∷ xs) ys = by (is x) (found_append is xs ys) where
  by : (b : Bool) → found is (xs ++ ys) ≡ option_or (found is xs) (found is ys)
      → option_map place_of (cond b (Some x) (find is (xs ++ ys))) ≡ option_or (option_map place_of (cond b (Some x) (find is xs))) (found is ys)
  by true e = refl
  by false e = e

-- the first of both lists is that of the first, or else that of the second
pub found_in_both : (is : Spoken → Bool) (a b : List Spoken) (x y : Option ℕ) → x ≡ found is a → y ≡ found is b → option_or x y ≡ found is (a ++ b)
found_in_both is a b x y h k = ap (λ z. option_or z y) h ∙ ap (option_or (found is a)) k ∙ sym (found_append is a b)

-- that of the first, where the second has none
pub found_before : (is : Spoken → Bool) (a b : List Spoken) (x : Option ℕ) → x ≡ found is a → None ≡ found is b → x ≡ found is (a ++ b)
found_before is a b x h k = none_later x ∙ found_in_both is a b x None h k where
  none_later : (o : Option ℕ) → o ≡ option_or o None
  none_later (Some at) = refl
  none_later None = refl

-- two questions with the same answers
pub found_alike : (is js : Spoken → Bool) (xs : List Spoken) → ((x : Spoken) → is x ≡ js x) → found is xs ≡ found js xs
found_alike is js [] h = refl
found_alike is js (x ∷ xs) h =
    ap (λ b. option_map place_of (cond b (Some x) (find is xs))) (h x) ∙ by (js x) (found_alike is js xs h)
  where
    by : (b : Bool) → found is xs ≡ found js xs → option_map place_of (cond b (Some x) (find is xs)) ≡ option_map place_of (cond b (Some x) (find js xs))
    by true e = refl
    by false e = e
