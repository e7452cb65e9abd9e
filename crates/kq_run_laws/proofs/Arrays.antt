-- Items that are put in their places one by one are in order.
use Rattle.std.proofs.Common.{◌≡◌, zero, suc, ◌+◌, Bool, true, false, cond, List, [], ◌∷◌, refl, arith}
use Rattle.std.specs.Cmp.{IsTotalOrder}
use Rattle.std.specs.Ordering.{is_le, is_lt, ordering_reverse}
use Rattle.std.specs.declared.cmp.Ordering.{Ordering}
use Rattle.std.specs.declared.cmp.Ordering.TheVariants.{Less, Equal, Greater}
use Rattle.std.specs.List.Sorted.{IsPermutation, IsSorted}
use Rattle.std.proofs.lemmas.Cmp.{then_total, on_total, nat_cmp_total}
use Rattle.std.proofs.lemmas.List.Sorted.{IsPermutation-refl, IsPermutation-cons, IsPermutation-sym, IsPermutation-trans, IsPermutation-middle}
use Rattle.kq_value.specs.Tree.{Tree}
use Rattle.kq_value.proofs.Totals.{tree_cmp_total}
use Rattle.kq_value_formats.specs.Members.{sorting_cmp, sorting_rank, put_in_order, in_order}
use Rattle.kq_run_laws.specs.Arrays.{IsInOrder}

-- ---- the same items

put_either : (t u : Tree) (us : List Tree) → IsPermutation (t ∷ us) (put_in_order t us) → (b : Bool) → IsPermutation (t ∷ u ∷ us) (cond b (t ∷ u ∷ us) (u ∷ put_in_order t us))
put_either t u us h true = IsPermutation-refl (t ∷ u ∷ us)
put_either t u us h false =
    IsPermutation-trans _ _ _ (IsPermutation-sym (u ∷ t ∷ us) (t ∷ u ∷ us) (IsPermutation-middle (u ∷ []) t us)) (IsPermutation-cons u (t ∷ us) (put_in_order t us) h)

put_moves : (t : Tree) (us : List Tree) → IsPermutation (t ∷ us) (put_in_order t us)
put_moves t [] = IsPermutation-refl (t ∷ [])
put_moves t (u ∷ us) = put_either t u us (put_moves t us) (is_le (sorting_cmp t u))

moves : (ts : List Tree) → IsPermutation ts (in_order ts)
moves [] = IsPermutation-refl []
moves (t ∷ ts) = IsPermutation-trans _ _ _ (IsPermutation-cons t ts (in_order ts) (moves ts)) (put_moves t (in_order ts))

-- ---- none is less than the one before it

sorting_total : IsTotalOrder sorting_cmp
sorting_total = then_total (on_total sorting_rank nat_cmp_total) tree_cmp_total

turned : (r s : Ordering) → s ≡ ordering_reverse r → is_le r ≡ true → is_lt s ≡ false
turned Less s e h = rw e refl
turned Equal s e h = rw e refl
turned Greater s e h = absurd (cc)

not_less : (r : Ordering) → is_le r ≡ false → is_lt r ≡ false
not_less Less h = absurd (cc)
not_less Equal h = refl
not_less Greater h = refl

abbrev NoneLess : Tree → List Tree → Type 0
NoneLess t [] = Unit {0}
NoneLess t (u ∷ us) = is_lt (sorting_cmp u t) ≡ false

abbrev Rises : List Tree → Type 0
Rises [] = Unit {0}
Rises (t ∷ ts) = NoneLess t ts × Rises ts

first_either : (v t u : Tree) (us : List Tree) → is_lt (sorting_cmp u v) ≡ false → is_lt (sorting_cmp t v) ≡ false → (b : Bool) → NoneLess v (cond b (t ∷ u ∷ us) (u ∷ put_in_order t us))
first_either v t u us h k true = k
first_either v t u us h k false = h

first_put : (v t : Tree) (us : List Tree) → NoneLess v us → is_lt (sorting_cmp t v) ≡ false → NoneLess v (put_in_order t us)
first_put v t [] h k = k
first_put v t (u ∷ us) h k = first_either v t u us h k (is_le (sorting_cmp t u))

rises_either : (t u : Tree) (us : List Tree) → Rises (u ∷ us) → Rises (put_in_order t us) → (b : Bool) → is_le (sorting_cmp t u) ≡ b → Rises (cond b (t ∷ u ∷ us) (u ∷ put_in_order t us))
rises_either t u us h k true e = (turned (sorting_cmp t u) (sorting_cmp u t) (sorting_total.antisymm u t) e, h)
rises_either t u us h k false e = (first_put u t us h.0 (not_less (sorting_cmp t u) e), k)

put_rises : (t : Tree) (us : List Tree) → Rises us → Rises (put_in_order t us)
put_rises t [] h = (tt, tt)
put_rises t (u ∷ us) h = rises_either t u us h (put_rises t us h.1) (is_le (sorting_cmp t u)) refl

rises : (ts : List Tree) → Rises (in_order ts)
rises [] = tt
rises (t ∷ ts) = put_rises t (in_order ts) (rises ts)

up_from : (ts : List Tree) → Rises ts → IsSorted sorting_cmp ts
up_from [] h k d low within = absurd (omega arith)
up_from (t ∷ []) h k d low within = absurd (omega arith)
up_from (t ∷ u ∷ us) h zero d low within = h.0
up_from (t ∷ u ∷ us) h (suc k) d low within = let e : suc k + 1 ≡ suc (k + 1) = omega arith in rw e (up_from (u ∷ us) h.1 k d (omega arith) (omega arith))

pub ordered : (ts : List Tree) → IsInOrder ts (in_order ts)
ordered ts = record { moved = moves ts; up = up_from (in_order ts) (rises ts) }
