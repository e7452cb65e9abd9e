-- Where one of two lists ends, the shorter is the smaller.
use Rattle.std.proofs.Common.{◌≡◌, ℕ, zero, suc, min, List, [], ◌∷◌, length, drop, refl, sym, ◌∙◌, arith}
use Rattle.std.specs.Ordering.{nat_cmp}
use Rattle.std.specs.declared.cmp.Ordering.{Ordering}
use Rattle.std.specs.Cmp.Lexicographic.{slice_cmp}
use Rattle.kq_value.specs.Seen.{trees_of, entries_of}
use Rattle.kq_value.specs.TreeOrder.{trees_cmp, entries_cmp}
use Rattle.kq_value.specs.declared.dynamic.Dyn.{Dyn}
use Rattle.std.specs.declared.cmp.Ordering.TheVariants.{Less, Greater}
use Rattle.kq_value.specs.declared.dynamic.Member.{Member}
use Rattle.std.proofs.lemmas.Bool.Decides.{nat_tests}

nat_cmp-suc : (m n : ℕ) → nat_cmp (suc m) (suc n) ≡ nat_cmp m n
nat_cmp-suc m n = grind (arith, nat_tests)

less_suc : (n : ℕ) → Less ≡ nat_cmp 0 (suc n)
less_suc n = grind (arith, nat_tests)

greater_suc : (n : ℕ) → Greater ≡ nat_cmp (suc n) 0
greater_suc n = grind (arith, nat_tests)

pub trees_cmp-end : (xs ys : List Dyn) (i : ℕ) → i ≡ min (length xs) (length ys) → trees_cmp (trees_of (drop i xs)) (trees_of (drop i ys)) ≡ nat_cmp (length xs) (length ys)
trees_cmp-end [] [] zero e = refl
trees_cmp-end [] [] (suc i) e = refl
trees_cmp-end [] (b ∷ ys) zero e = less_suc (length ys)
trees_cmp-end [] (b ∷ ys) (suc i) e = absurd (omega arith)
trees_cmp-end (a ∷ xs) [] zero e = greater_suc (length xs)
trees_cmp-end (a ∷ xs) [] (suc i) e = absurd (omega arith)
trees_cmp-end (a ∷ xs) (b ∷ ys) zero e = absurd (omega arith)
trees_cmp-end (a ∷ xs) (b ∷ ys) (suc i) e = trees_cmp-end xs ys i (omega arith) ∙ sym (nat_cmp-suc (length xs) (length ys))

pub entries_cmp-end : (xs ys : List Member) (i : ℕ) → i ≡ min (length xs) (length ys) → entries_cmp (entries_of (drop i xs)) (entries_of (drop i ys)) ≡ nat_cmp (length xs) (length ys)
entries_cmp-end [] [] zero e = refl
entries_cmp-end [] [] (suc i) e = refl
entries_cmp-end [] (b ∷ ys) zero e = less_suc (length ys)
entries_cmp-end [] (b ∷ ys) (suc i) e = absurd (omega arith)
entries_cmp-end (a ∷ xs) [] zero e = greater_suc (length xs)
entries_cmp-end (a ∷ xs) [] (suc i) e = absurd (omega arith)
entries_cmp-end (a ∷ xs) (b ∷ ys) zero e = absurd (omega arith)
entries_cmp-end (a ∷ xs) (b ∷ ys) (suc i) e = entries_cmp-end xs ys i (omega arith) ∙ sym (nat_cmp-suc (length xs) (length ys))

pub slice_cmp-end : {A : Type 0} (R : A → A → Ordering) (xs ys : List A) (i : ℕ) → i ≡ min (length xs) (length ys) → slice_cmp R (drop i xs) (drop i ys) ≡ nat_cmp (length xs) (length ys)
slice_cmp-end R [] [] zero e = refl
slice_cmp-end R [] [] (suc i) e = refl
slice_cmp-end R [] (b ∷ ys) zero e = less_suc (length ys)
slice_cmp-end R [] (b ∷ ys) (suc i) e = absurd (omega arith)
slice_cmp-end R (a ∷ xs) [] zero e = greater_suc (length xs)
slice_cmp-end R (a ∷ xs) [] (suc i) e = absurd (omega arith)
slice_cmp-end R (a ∷ xs) (b ∷ ys) zero e = absurd (omega arith)
slice_cmp-end R (a ∷ xs) (b ∷ ys) (suc i) e = slice_cmp-end R xs ys i (omega arith) ∙ sym (nat_cmp-suc (length xs) (length ys))
