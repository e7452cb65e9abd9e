-- Lists that are joined one after another.
use Rattle.std.proofs.Common.{◌≡◌, ◌<◌, ◌+◌, ◌++◌, ◌∷◌, ℕ, List, append_assoc, ap, drop, get_or, length, map, sym, ◌∙◌}
use Rattle.std.proofs.lemmas.List.{drop_more}
use Rattle.std.specs.List.{concat}

module _ {X : Type 0} (f : X → List ℕ) where
  concat_more : (xs : List X) (i : ℕ) (x : X) → i < length xs → x ≡ get_or xs i x → concat (map f (drop i xs)) ≡ f x ++ concat (map f (drop (i + 1) xs))
  concat_more xs i x within is = ap (λ (l : List X). concat (map f l)) (drop_more xs i x within ∙ ap (λ (y : X). y ∷ drop (i + 1) xs) (sym is))

  -- those of one element more
  pub joined_more : (whole before after : List ℕ) (xs : List X) (i : ℕ) (x : X) → i < length xs → x ≡ get_or xs i x → whole ≡ before ++ concat (map f (drop i xs)) → after ≡ before ++ f x → whole ≡ after ++ concat (map f (drop (i + 1) xs))
  joined_more whole before after xs i x within is so_far more =
      let rest = concat (map f (drop (i + 1) xs)) in
      so_far ∙ ap (λ (l : List ℕ). before ++ l) (concat_more xs i x within is) ∙ sym (append_assoc before (f x) rest) ∙ ap (λ (l : List ℕ). l ++ rest) (sym more)
