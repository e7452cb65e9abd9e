-- What stands behind enough rows can't be among the first ones.
use Rattle.std.proofs.Common.{◌≡◌, ◌<◌, ◌≤◌, ◌+◌, ℕ, zero, suc, Bool, true, false, List, [], ◌∷◌, ◌++◌, length, get_or, take, drop, refl, sym, ap, ◌∙◌, subst, arith}
use Rattle.std.specs.Cmp.{IsStrictWeakOrder}
use Rattle.std.specs.List.{All, sum_by}
use Rattle.std.specs.List.Sorted.{IsSortedBy}
use Rattle.std.proofs.lemmas.List.{append_assoc, get_or-drop, get_or-take, length-append, length-drop, length-take, take-append-drop}
use Rattle.std.proofs.lemmas.List.Elements.{All-append, All-head, All-tail}
use Rattle.std.proofs.lemmas.List.Sorted.{IsPermutation-refl, sorted_far}
use Rattle.std.proofs.lemmas.List.Sums.{sum_by-append}
use Rattle.kq_value.specs.Same.{Same}
use Rattle.kq_value.proofs.SameLemmas.{IsPermutation-from_Same, Same-append, Same-refl, Same-sym, Same-trans, length-Same, sum_by-Same}
use Rattle.kq_run_sort.specs.Firsts.{FirstInOrder}
use Rattle.kq_run_sort.specs.Orders.{Row}
use Rattle.kq_run_sort.proofs.Least.{least_first}

abbrev one_if : Bool → ℕ
one_if true = 1
one_if false = 0

at_most_one : (b : Bool) → one_if b ≤ 1
at_most_one true = omega arith
at_most_one false = omega arith

from_not_true : (b : Bool) → (b ≡ true → ⊥) → b ≡ false
from_not_true true h = absurd (h refl)
from_not_true false h = refl

from_not_false : (b : Bool) → (b ≡ false → ⊥) → b ≡ true
from_not_false true h = refl
from_not_false false h = absurd (h refl)

not_both : (b : Bool) → b ≡ true → b ≡ false → ⊥
not_both true p q = cc
not_both false p q = cc

pub get_or_any : (rows : List Row) (k : ℕ) (d e : Row) → k < length rows → get_or rows k d ≡ get_or rows k e
get_or_any [] k d e within = absurd (omega (arith, within))
get_or_any (r ∷ rows) zero d e within = refl
get_or_any (r ∷ rows) (suc k) d e within = get_or_any rows k d e (omega (arith, within))

module _ (p : Row → Bool) where
  abbrev count : List Row → ℕ
  count rows = sum_by (λ r. one_if (p r)) rows

  count_cons : (r : Row) (rows : List Row) → count (r ∷ rows) ≡ one_if (p r) + count rows
  count_cons r rows =
      let one : count (r ∷ []) ≡ 0 + one_if (p r) = refl in
      let both : count (r ∷ rows) ≡ count (r ∷ []) + count rows = sum_by-append (λ r. one_if (p r)) (r ∷ []) rows in
      omega (arith, one, both)

  count_all : (rows : List Row) → All (λ r. p r ≡ true) rows → count rows ≡ length rows
  count_all [] all = refl
  count_all (r ∷ rows) all =
      let here : one_if (p r) ≡ 1 = ap one_if (All-head (λ r. p r ≡ true) r rows all) in
      let more = count_all rows (All-tail (λ r. p r ≡ true) r rows all) in
      let both = count_cons r rows in
      omega (arith, here, more, both)

  count_none : (rows : List Row) → All (λ r. p r ≡ false) rows → count rows ≡ 0
  count_none [] all = refl
  count_none (r ∷ rows) all =
      let here : one_if (p r) ≡ 0 = ap one_if (All-head (λ r. p r ≡ false) r rows all) in
      let more = count_none rows (All-tail (λ r. p r ≡ false) r rows all) in
      let both = count_cons r rows in
      omega (arith, here, more, both)

  count_at_most : (rows : List Row) → count rows ≤ length rows
  count_at_most [] = let none : count [] ≡ 0 = refl in omega (arith, none)
  count_at_most (r ∷ rows) = let a = at_most_one (p r) in let b = count_at_most rows in let both = count_cons r rows in omega (arith, a, b, both)

  count_fewer : (rows : List Row) (k : ℕ) (d : Row) → k < length rows → p (get_or rows k d) ≡ false → count rows < length rows
  count_fewer [] k d within fails = absurd (omega (arith, within))
  count_fewer (r ∷ rows) zero d within fails =
      let here : one_if (p r) ≡ 0 = ap one_if fails in
      let b = count_at_most rows in
      let both = count_cons r rows in
      omega (arith, here, b, both)
  count_fewer (r ∷ rows) (suc k) d within fails =
      let a = at_most_one (p r) in
      let b = count_fewer rows k d (omega (arith, within)) fails in
      let both = count_cons r rows in
      omega (arith, a, b, both)

  pub crowded : (n : ℕ) (front rest out others : List Row) (k : ℕ) (d : Row) → Same (front ++ rest) (out ++ others) → length front ≡ n → length out ≤ n → All (λ r. p r ≡ true) front → All (λ r. p r ≡ false) others → k < length out → p (get_or out k d) ≡ false → ⊥
  crowded n front rest out others k d same many short all none within fails =
      let a = count_all front all in
      let b = count_none others none in
      let c = count_fewer out k d within fails in
      let e = sum_by-Same (λ r. one_if (p r)) (front ++ rest) (out ++ others) same in
      let f = sum_by-append (λ r. one_if (p r)) front rest in
      let g = sum_by-append (λ r. one_if (p r)) out others in
      omega (arith, a, b, c, e, f, g, many, short)

module _ (lt : Row → Row → Bool) (o : IsStrictWeakOrder lt) where
  never_itself : (x : Row) → lt x x ≡ false
  never_itself x = from_not_true (lt x x) (λ is. not_both (lt x x) is (o.one_way x x is))

  -- what isn't less than so many isn't less than one of as few that are the least
  not_among : (n : ℕ) (front rest out others : List Row) (y : Row) → Same (front ++ rest) (out ++ others) → length front ≡ n → length out ≤ n
      → All (λ x. All (λ z. lt z x ≡ false) others) out → All (λ f. lt y f ≡ false) front → All (λ x. lt y x ≡ false) out
  not_among n front rest out others y same many short least behind k d within =
      let x = get_or out k d in
      from_not_true (lt y x) (λ is.
      crowded (λ z. lt z x) n front rest out others k d same many short
      (λ j e there. from_not_false (lt (get_or front j e) x) (λ isnt. not_both (lt y x) is (o.chain y (get_or front j e) x (behind j e there) isnt)))
      (λ j e there. least k d within j e there) within (never_itself x))

  pub sorted_take : (n : ℕ) (all : List Row) → IsSortedBy lt all → IsSortedBy lt (take n all)
  sorted_take n all up k d low high =
      let many = length-take n all in
      let p = get_or-take n all (k + 1) d (omega (arith, high, many)) in
      let q = get_or-take n all k d (omega (arith, high, many)) in
      (λ i. lt (p i) (q i)) ∙ up k d low (omega (arith, high, many))

  -- of a sorted list, none of the others is less than one of the first
  pub first_before : (n : ℕ) (all : List Row) → IsSortedBy lt all → All (λ x. All (λ y. lt y x ≡ false) (drop n all)) (take n all)
  first_before n all up k d within j e there =
      let many = length-take n all in
      let left = length-drop n all in
      let p : get_or (take n all) k d ≡ get_or all k d = get_or-take n all k d (omega (arith, within, many)) in
      let q : get_or (drop n all) j e ≡ get_or all (n + j) e = get_or-drop n all j e in
      let default : get_or all k d ≡ get_or all k e = get_or_any all k d e (omega (arith, within, many)) in
      (λ i. lt (q i) ((p ∙ default) i)) ∙ sorted_far lt o all up k (n + j) e (omega (arith, within, many)) (omega (arith, there, left))

  -- rows that stand behind so many, put to the others, change nothing of the first
  pub first_still : (n : ℕ) (front rest extra whole all : List Row) → length front ≡ n → All (λ f. All (λ y. lt y f ≡ false) extra) front → Same whole ((front ++ rest) ++ extra) → Same all (front ++ rest) → IsSortedBy lt all
      → FirstInOrder lt n whole (take n all)
  first_still n front rest extra whole all many behind same moved up =
      let few = take n all in
      let others = drop n all in
      let size = length-Same all (front ++ rest) moved in
      let sizes = length-append front rest in
      let short = length-take n all in
      let parts : few ++ others ≡ all = take-append-drop n all in
      let back = Same-sym all (front ++ rest) moved in
      let among : Same (front ++ rest) (few ++ others) = subst (λ (l : List Row). Same (front ++ rest) l) (sym parts) back in
      let joined : Same whole (few ++ (others ++ extra)) =
      subst (λ (l : List Row). Same whole l) (append_assoc few others extra)
      (Same-trans whole ((front ++ rest) ++ extra) ((few ++ others) ++ extra) same (Same-append (front ++ rest) (few ++ others) extra extra among (Same-refl extra))) in
      let size_whole = length-Same whole ((front ++ rest) ++ extra) same in
      let size_parts = length-append (front ++ rest) extra in
      least_first lt n whole few few o
      (record {
        others = others ++ extra;
        moved = IsPermutation-from_Same whole (few ++ (others ++ extra)) joined;
        many = omega (arith, short, size, sizes, many, size_whole, size_parts);
        least = λ k d within. All-append (λ y. lt y (get_or few k d) ≡ false) others extra (first_before n all up k d within)
            (λ j e there. not_among n front rest few others (get_or extra j e) among many (omega (arith, short)) (first_before n all up) (λ i b here. behind i b here j e there) k d within);
      })
      (IsPermutation-refl few) (sorted_take n all up)
