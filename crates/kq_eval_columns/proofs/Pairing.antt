-- Two columns of arguments side by side.
use Rattle.std.proofs.Common.{◌≡◌, ◌<◌, ◌≤◌, ℕ, zero, suc, ℤ, min, List, [], ◌∷◌, map, length, get_or, drop, Option, Result, subst, refl, sym, ap, ◌∙◌, arith}
use Rattle.std.specs.Prelude.{IfOk, IfSome}
use Rattle.kq_value.specs.declared.value.Value.{Value}
use Rattle.kq_value.specs.Computed.{Computed, Is, and_then, each}
use Rattle.kq_eval_kernels.specs.Pairs.{each_two}
use Rattle.kq_plan_functions.specs.declared.function.Function.{Function}
use Rattle.kq_plan_functions.specs.declared.function.Function.TheVariants as f
use Rattle.kq_eval_row.specs.Applied.{applied}
use Rattle.kq_store_column_view.specs.declared.vector.Vector.{Vector}
use Rattle.kq_store_column_view.specs.Vectors.{cells_of}
use Rattle.kq_eval_columns.specs.Seen.{beside, rows_of, paired}
use Rattle.kq_eval_columns.proofs.OneValue.{all_are}

-- two arguments don't hear of the moment
pub at_any_moment : (function : Function) (now : ℤ) (x y : Value) → applied function now (x ∷ y ∷ []) ≡ paired function x y
at_any_moment f.StrCat now x y = refl
at_any_moment f.In now x y = refl
at_any_moment f.NotIn now x y = refl
at_any_moment f.InFolded now x y = refl
at_any_moment f.NotInFolded now x y = refl
at_any_moment function now x y = refl

pub rows-pairs : (g : List Value → Computed Value) (xs ys : List Value) (n : ℕ) → length xs ≡ n → length ys ≡ n → each g (beside xs (beside ys (rows_of [] n))) ≡ each_two (λ x y. g (x ∷ y ∷ [])) xs ys
rows-pairs g [] ys n h k = refl
rows-pairs g (x ∷ xs) [] n h k = absurd (omega arith)
rows-pairs g (x ∷ xs) (y ∷ ys) zero h k = absurd (omega arith)
rows-pairs g (x ∷ xs) (y ∷ ys) (suc n) h k = ap (λ c. and_then (g (x ∷ y ∷ [])) (λ z. and_then c (λ zs. Is (z ∷ zs)))) (rows-pairs g xs ys n (omega arith) (omega arith))

-- what a kernel decides of two columns is what the function gives of their rows
pub decided : (function : Function) (now : ℤ) (vectors : List Vector) (a b : Vector) (n : ℕ) (zs : List Value) → vectors ≡ a ∷ b ∷ [] → length (cells_of a) ≡ n → length (cells_of b) ≡ n
    → each_two (paired function) (cells_of a) (cells_of b) ≡ Is zs → each (applied function now) (rows_of vectors n) ≡ Is zs
decided function now vectors a b n zs is h k e =
    ap (λ vs. each (applied function now) (rows_of vs n)) is ∙ rows-pairs (applied function now) (cells_of a) (cells_of b) n h k
    ∙ (λ j. each_two (λ x y. at_any_moment function now x y j) (cells_of a) (cells_of b)) ∙ e

rows-singles : (g : List Value → Computed Value) (xs : List Value) (n : ℕ) → length xs ≡ n → each g (beside xs (rows_of [] n)) ≡ each (λ x. g (x ∷ [])) xs
rows-singles g [] n h = refl
rows-singles g (x ∷ xs) zero h = absurd (omega arith)
rows-singles g (x ∷ xs) (suc n) h = ap (λ c. and_then (g (x ∷ [])) (λ z. and_then c (λ zs. Is (z ∷ zs)))) (rows-singles g xs n (omega arith))

-- the same of one column
pub decided_alone : (function : Function) (now : ℤ) (vectors : List Vector) (a : Vector) (n : ℕ) (zs : List Value) → vectors ≡ a ∷ [] → length (cells_of a) ≡ n
    → map (λ x. applied function now (x ∷ [])) (cells_of a) ≡ map Is zs → each (applied function now) (rows_of vectors n) ≡ Is zs
decided_alone function now vectors a n zs is h e =
    ap (λ vs. each (applied function now) (rows_of vs n)) is ∙ rows-singles (applied function now) (cells_of a) n h ∙ all_are (λ x. applied function now (x ∷ [])) (cells_of a) zs e

pub one_of : (vs : List Vector) (a : Vector) → 1 ≤ length vs → length vs ≤ 1 → a ≡ get_or vs 0 a → vs ≡ a ∷ []
one_of [] a h k p = absurd (omega arith)
one_of (x ∷ []) a h k p = λ j. sym p j ∷ []
one_of (x ∷ y ∷ vs) a h k p = absurd (omega arith)

-- the same of items, as values
pub pairs_next : {X C : Type 0} (v : X → Value) (g : Value → Value → Computed C) (d e : X) (xs ys : List X) (i : ℕ) → i < length xs → i < length ys
    → each_two g (drop i (map v xs)) (drop i (map v ys)) ≡ and_then (g (v (get_or xs i d)) (v (get_or ys i e))) (λ z. and_then (each_two g (drop (suc i) (map v xs)) (drop (suc i) (map v ys))) (λ zs. Is (z ∷ zs)))
pairs_next v g d e [] ys i h k = absurd (omega arith)
pairs_next v g d e (x ∷ xs) [] i h k = absurd (omega arith)
pairs_next v g d e (x ∷ xs) (y ∷ ys) zero h k = refl
pairs_next v g d e (x ∷ xs) (y ∷ ys) (suc i) h k = pairs_next v g d e xs ys i (omega arith) (omega arith)

no_second : {X C : Type 0} (g : X → X → Computed C) (xs : List X) → each_two g xs [] ≡ Is []
no_second g [] = refl
no_second g (x ∷ xs) = refl

pub pairs_end : {X C : Type 0} (v : X → Value) (g : Value → Value → Computed C) (xs ys : List X) (i : ℕ) → min (length xs) (length ys) ≤ i → each_two g (drop i (map v xs)) (drop i (map v ys)) ≡ Is []
pairs_end v g [] ys zero h = refl
pairs_end v g [] ys (suc i) h = refl
pairs_end v g (x ∷ xs) [] zero h = refl
pairs_end v g (x ∷ xs) [] (suc i) h = no_second g (drop i (map v xs))
pairs_end v g (x ∷ xs) (y ∷ ys) zero h = absurd (omega arith)
pairs_end v g (x ∷ xs) (y ∷ ys) (suc i) h = pairs_end v g xs ys i (omega arith)

-- what is known of a function by name, is known of the function
pub by_name : {E : Type 0} (function g : Function) (xs ys : List Value) (r : Result (Option Vector) E) → function ≡ g
    → IfOk r (λ o. IfSome o (λ c. each_two (paired g) xs ys ≡ Is (cells_of c))) → IfOk r (λ o. IfSome o (λ c. each_two (paired function) xs ys ≡ Is (cells_of c)))
by_name function g xs ys r is h = subst (λ (k : Function). IfOk r (λ o. IfSome o (λ c. each_two (paired k) xs ys ≡ Is (cells_of c)))) (sym is) h

pub two_of : (vs : List Vector) (a b : Vector) → 2 ≤ length vs → length vs ≤ 2 → a ≡ get_or vs 0 a → b ≡ get_or vs 1 b → vs ≡ a ∷ b ∷ []
two_of [] a b h k p q = absurd (omega arith)
two_of (x ∷ []) a b h k p q = absurd (omega arith)
two_of (x ∷ y ∷ []) a b h k p q = λ j. sym p j ∷ sym q j ∷ []
two_of (x ∷ y ∷ z ∷ vs) a b h k p q = absurd (omega arith)
