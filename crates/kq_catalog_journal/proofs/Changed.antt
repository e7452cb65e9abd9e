-- What is known of a list with one item changed.
use Rattle.std.proofs.Common.{◌≡◌, ℕ, zero, suc, List, [], ◌∷◌, length, refl, ap}
use Rattle.std.specs.List.{All}
use Rattle.std.proofs.lemmas.List.Elements.{All-cons, All-head, All-tail}
use Rattle.kq_catalog_journal.specs.Changed.{changed}

pub length-changed : {X : Type 0} (f : X → X) (n : ℕ) (xs : List X) → length (changed f n xs) ≡ length xs
length-changed f n [] = refl
length-changed f zero (x ∷ xs) = refl
length-changed f (suc n) (x ∷ xs) = ap (λ (k : ℕ). suc k) (length-changed f n xs)

-- a change that keeps a fact of each item keeps it of all
pub All-changed : {X : Type 0} (P : X → Type 0) (f : X → X) (n : ℕ) (xs : List X) → ((x : X) → P x → P (f x)) → All P xs → All P (changed f n xs)
All-changed P f n [] keeps all = all
All-changed P f zero (x ∷ xs) keeps all = All-cons P (f x) xs (keeps x (All-head P x xs all)) (All-tail P x xs all)
All-changed P f (suc n) (x ∷ xs) keeps all = All-cons P x (changed f n xs) (All-head P x xs all) (All-changed P f n xs keeps (All-tail P x xs all))
