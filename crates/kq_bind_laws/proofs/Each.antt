-- Lists of which each is so of the one in its place.
use Rattle.std.proofs.Common.{◌≡◌, ℕ, zero, suc, List, [], ◌∷◌, Some, refl, ap, subst}
use Rattle.std.specs.Prelude.{slice_get}
use Rattle.kq_bind_laws.specs.Columns.{AreEach}

pub no_each : {A B : Type 0} (P : A → B → Type 0) → AreEach P [] []
no_each P = record { all = refl; each = λ j x y e f. absurd (cc) }

pub one_each : {A B : Type 0} (P : A → B → Type 0) (x : A) (xs : List A) (y : B) (ys : List B) → P x y → AreEach P xs ys → AreEach P (x ∷ xs) (y ∷ ys)
one_each {A = A} {B = B} P x xs y ys h more = record { all = ap (λ n. suc n) more.all; each = at } where
  at : (j : ℕ) (a : A) (b : B) → slice_get (x ∷ xs) j ≡ Some a → slice_get (y ∷ ys) j ≡ Some b → P a b
  at zero a b e f = let one : x ≡ a = cc in let two : y ≡ b = cc in subst (λ z. P a z) two (subst (λ z. P z y) one h)
  at (suc j) a b e f = more.each j a b e f
