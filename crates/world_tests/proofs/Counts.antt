-- How many entries a list has, counted by a test that each passes.
use Rattle.std.proofs.Common.{◌≡◌, ◌+◌, ℕ, true, cond, List, [], ◌∷◌, length, count_by, sum_by, refl, arith}
use Rattle.std.proofs.lemmas.List.Sums.{sum_by-cons}

pub every : (xs : List ℕ) → count_by (λ (x : ℕ). true) xs ≡ length xs
every [] = refl
every (x ∷ xs) =
    let cons : sum_by (λ (y : ℕ). cond true 1 0) (x ∷ xs) ≡ 1 + sum_by (λ (y : ℕ). cond true 1 0) xs = sum_by-cons (λ (y : ℕ). cond true 1 0) x xs in
    let rest = every xs in
    omega (arith, cons, rest)
