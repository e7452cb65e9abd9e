-- The first rows, by their places.
use Rattle.std.proofs.Common.{◌≡◌, ◌<◌, ◌≤◌, ◌+◌, ◌-◌, ◌++◌, ℕ, zero, suc, List, [], ◌∷◌, map, length, get_or, take, refl, sym, ap, ◌∙◌, arith}
use Rattle.std.proofs.lemmas.List.{length-take, take-append-le}
use Rattle.std.proofs.lemmas.List.Elements.{All-nil, All-cons}
use Rattle.std.specs.List.{All, range_with_len}
use Rattle.kq_value.specs.declared.value.Value.{Value}
use Rattle.kq_store_rows.specs.Chunks.{row_at}

below : (k n long : ℕ) → k + n ≤ long → All (λ p. p < long) (range_with_len k n)
below k zero long h = All-nil (λ (p : ℕ). p < long)
below k (suc n) long h = All-cons (λ p. p < long) k (range_with_len (k + 1) n) (omega arith) (below (k + 1) n long (omega arith))

pub first_below : (n long : ℕ) → n ≤ long → All (λ p. p < long) (range_with_len 0 n)
first_below n long h = below 0 n long (omega arith)

from : (all rows : List (List Value)) (k n : ℕ) → ((i m : ℕ) → m ≡ k + i → row_at all m ≡ get_or rows i []) → n ≤ length rows → map (row_at all) (range_with_len k n) ≡ take n rows
from all [] k zero at h = refl
from all [] k (suc n) at h = absurd (omega arith)
from all (r ∷ rows) k zero at h = refl
from all (r ∷ rows) k (suc n) at h = λ t. at 0 k (omega arith) t ∷ from all rows (k + 1) n (λ i m is. at (suc i) m (omega arith)) (omega arith) t

pub first_are : (rows : List (List Value)) (n : ℕ) → n ≤ length rows → map (row_at rows) (range_with_len 0 n) ≡ take n rows
first_are rows n h = from rows rows 0 n (λ i m is. let back : m ≡ i = omega arith in ap (row_at rows) back) h

-- the first of two lists, one after another
pub take_both : {T : Type 0} (xs ys : List T) (count left : ℕ) → left ≡ count - length (take count xs) → take count xs ++ take left ys ≡ take count (xs ++ ys)
take_both [] ys zero left is = let none : left ≡ 0 = omega (arith, is) in ap (λ (k : ℕ). take k ys) none
take_both [] ys (suc count) left is = let same : left ≡ suc count = omega (arith, is) in ap (λ (k : ℕ). take k ys) same
take_both (x ∷ xs) ys zero left is = let none : left ≡ 0 = omega (arith, is) in ap (λ (k : ℕ). take k ys) none
take_both (x ∷ xs) ys (suc count) left is = ap (λ zs. x ∷ zs) (take_both xs ys count left (omega (arith, is)))

-- the first of two lists, where the former has enough
pub take_enough : {T : Type 0} (all xs ys : List T) (count : ℕ) → all ≡ xs ++ ys → count ≤ length (take count xs) → take count xs ≡ take count all
take_enough all xs ys count are enough =
    let within : count ≤ length xs = let n = length-take count xs in omega (arith, n, enough) in
    sym (take-append-le count xs ys within) ∙ ap (λ zs. take count zs) (sym are)
