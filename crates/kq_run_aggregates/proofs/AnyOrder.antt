-- Aggregates look at no order of the rows.
use Rattle.std.proofs.Common.{◌≡◌, ◌+ℤ◌, Bool, true, false, cond, List, [], ◌∷◌, Option, Some, None, refl, ap, ◌∙◌, arith}
use Rattle.std.proofs.lemmas.Int.{ints}
use Rattle.std.specs.declared.cmp.Ordering.{Ordering}
use Rattle.std.specs.Ordering.{is_gt}
use Rattle.std.specs.List.{All, Contains, filter}
use Rattle.std.specs.List.Sorted.{IsPermutation}
use Rattle.std.proofs.lemmas.List.Elements.{All-nil, All-head, All-weaker}
use Rattle.std.proofs.lemmas.List.Sorted.{All-permutation, Contains-permutation, IsPermutation-refl, IsPermutation-cons, IsPermutation-middle, IsPermutation-trans}
use Rattle.kq_value.specs.Same.{Same}
use Rattle.kq_value.specs.declared.value.Value.{Value}
use Rattle.kq_value.proofs.SameLemmas.{Shuffled, none, front, turn, next, Shuffled-from_Same, IsPermutation-from_Same, length-Same}
use Rattle.kq_run_aggregates.specs.Holds.{Kept, counted, summed, extreme, chosen, collected, Holds, IsTakenBy, IsAnyOf, IsSetOf, amount, total, firsts, is_present, is_element}
use Rattle.kq_run_aggregates.specs.Ranks.{first_of, side_cmp, choice_cmp, IsLast}
use Rattle.kq_run_aggregates.specs.declared.kind.Side.{Side}
use Rattle.kq_run_aggregates.specs.declared.kind.Side.TheVariants as side
use Rattle.kq_run_aggregates.specs.declared.kind.Choice.TheVariants as choice
use Rattle.kq_run_aggregates.specs.declared.kind.Kind.{Kind}
use Rattle.kq_run_aggregates.specs.declared.kind.Kind.TheVariants as kind
use Rattle.kq_run_aggregates.proofs.Chosen.{IsTakenBy-from_last, last_from_IsTakenBy, IsAnyOf-from_last, last_from_IsAnyOf}

abbrev pub Rows : Type 0
Rows = List (List Value)

total-shuffled : {a b : Rows} → Shuffled a b → total (firsts a) ≡ total (firsts b)
total-shuffled none = refl
total-shuffled (front {x = x} s) = ap (λ z. amount (first_of x) +ℤ z) (total-shuffled s)
total-shuffled (turn {x = x} {y = y} {a = a}) = omega (arith, ints)
total-shuffled (next s t) = total-shuffled s ∙ total-shuffled t

kept_front : (v : Value) (xs ys : List Value) (b : Bool) → IsPermutation xs ys → IsPermutation (cond b (v ∷ xs) xs) (cond b (v ∷ ys) ys)
kept_front v xs ys true p = IsPermutation-cons v xs ys p
kept_front v xs ys false p = p

kept_turn : (v w : Value) (xs : List Value) (b c : Bool) → IsPermutation (cond b (v ∷ cond c (w ∷ xs) xs) (cond c (w ∷ xs) xs)) (cond c (w ∷ cond b (v ∷ xs) xs) (cond b (v ∷ xs) xs))
kept_turn v w xs true true = IsPermutation-middle (v ∷ []) w xs
kept_turn v w xs true false = IsPermutation-refl (v ∷ xs)
kept_turn v w xs false true = IsPermutation-refl (w ∷ xs)
kept_turn v w xs false false = IsPermutation-refl xs

filtered : (p : Value → Bool) {a b : Rows} → Shuffled a b → IsPermutation (filter p (firsts a)) (filter p (firsts b))
filtered p none = IsPermutation-refl []
filtered p (front {x = x} {a = a} {b = b} s) = kept_front (first_of x) (filter p (firsts a)) (filter p (firsts b)) (p (first_of x)) (filtered p s)
filtered p (turn {x = x} {y = y} {a = a}) = kept_turn (first_of x) (first_of y) (filter p (firsts a)) (p (first_of x)) (p (first_of y))
filtered p (next {a = a} {b = b} {c = c} s t) = IsPermutation-trans (filter p (firsts a)) (filter p (firsts b)) (filter p (firsts c)) (filtered p s) (filtered p t)

no_items : {X : Type 0} (ys : List X) → All (λ (y : X). ⊥) ys → ys ≡ []
no_items [] h = refl
no_items (y ∷ ys) h = absurd (All-head (λ z. ⊥) y ys h)

IsLast-permuted : {X : Type 0} (cmp : X → X → Ordering) (xs ys : List X) (o : Option X) → IsPermutation xs ys → IsLast cmp xs o → IsLast cmp ys o
IsLast-permuted cmp xs ys None p h = no_items ys (All-permutation (λ z. ⊥) xs ys p (rw h (All-nil (λ z. ⊥))))
IsLast-permuted cmp xs ys (Some x) p h = (Contains-permutation xs ys x p h.0, All-permutation (λ z. is_gt (cmp z x) ≡ false) xs ys p h.1)

IsTakenBy-permuted : (s : Side) (rows others : Rows) (o : Option (List Value)) → IsPermutation rows others → IsTakenBy (side_cmp s) rows o → IsTakenBy (side_cmp s) others o
IsTakenBy-permuted s rows others o p h = IsTakenBy-from_last s others o (IsLast-permuted (choice_cmp (choice.By s)) rows others o p (last_from_IsTakenBy s rows o h))

IsAnyOf-permuted : (rows others : Rows) (o : Option (List Value)) → IsPermutation rows others → IsAnyOf rows o → IsAnyOf others o
IsAnyOf-permuted rows others o p h = IsAnyOf-from_last others o (IsLast-permuted (choice_cmp choice.Any) rows others o p (last_from_IsAnyOf rows o h))

IsSetOf-permuted : (n : _) (xs ys set : List Value) → IsPermutation xs ys → IsSetOf n xs set → IsSetOf n ys set
IsSetOf-permuted n xs ys set p s = record {
  distinct = s.distinct;
  within = All-weaker (Contains xs) (Contains ys) (λ x h. Contains-permutation xs ys x p h) set s.within;
  bounded = s.bounded;
  complete = λ less. All-permutation (Contains set) xs ys p (s.complete less);
}

abbrev AlsoHolds : Kind → Rows → Rows → Kept → Type 0
AlsoHolds k rows others kept = Holds k rows kept → Holds k others kept

-- what is kept of rows is kept of the same rows in any order
pub Holds-any_order : (k : Kind) (rows others : Rows) (kept : Kept) → Same rows others → AlsoHolds k rows others kept
Holds-any_order kind.Count rows others kept same =
    elim kept as (AlsoHolds kind.Count rows others) [
      | counted n ↦ λ h. h ∙ length-Same rows others same
      | summed z ↦ λ h. absurd h
      | extreme o ↦ λ h. absurd h
      | chosen o ↦ λ h. absurd h
      | collected vs ↦ λ h. absurd h
    ]
Holds-any_order kind.Sum rows others kept same =
    elim kept as (AlsoHolds kind.Sum rows others) [
      | counted n ↦ λ h. absurd h
      | summed z ↦ λ h. h ∙ total-shuffled (Shuffled-from_Same rows others same)
      | extreme o ↦ λ h. absurd h
      | chosen o ↦ λ h. absurd h
      | collected vs ↦ λ h. absurd h
    ]
Holds-any_order kind.Min rows others kept same =
    elim kept as (AlsoHolds kind.Min rows others) [
      | counted n ↦ λ h. absurd h
      | summed z ↦ λ h. absurd h
      | extreme o ↦ λ h. IsLast-permuted (side_cmp side.Least) _ _ o (filtered is_present (Shuffled-from_Same rows others same)) h
      | chosen o ↦ λ h. absurd h
      | collected vs ↦ λ h. absurd h
    ]
Holds-any_order kind.Max rows others kept same =
    elim kept as (AlsoHolds kind.Max rows others) [
      | counted n ↦ λ h. absurd h
      | summed z ↦ λ h. absurd h
      | extreme o ↦ λ h. IsLast-permuted (side_cmp side.Greatest) _ _ o (filtered is_present (Shuffled-from_Same rows others same)) h
      | chosen o ↦ λ h. absurd h
      | collected vs ↦ λ h. absurd h
    ]
Holds-any_order kind.ArgMax rows others kept same =
    elim kept as (AlsoHolds kind.ArgMax rows others) [
      | counted n ↦ λ h. absurd h
      | summed z ↦ λ h. absurd h
      | extreme o ↦ λ h. absurd h
      | chosen o ↦ λ h. IsTakenBy-permuted side.Greatest rows others o (IsPermutation-from_Same rows others same) h
      | collected vs ↦ λ h. absurd h
    ]
Holds-any_order kind.ArgMin rows others kept same =
    elim kept as (AlsoHolds kind.ArgMin rows others) [
      | counted n ↦ λ h. absurd h
      | summed z ↦ λ h. absurd h
      | extreme o ↦ λ h. absurd h
      | chosen o ↦ λ h. IsTakenBy-permuted side.Least rows others o (IsPermutation-from_Same rows others same) h
      | collected vs ↦ λ h. absurd h
    ]
Holds-any_order kind.TakeAny rows others kept same =
    elim kept as (AlsoHolds kind.TakeAny rows others) [
      | counted n ↦ λ h. absurd h
      | summed z ↦ λ h. absurd h
      | extreme o ↦ λ h. absurd h
      | chosen o ↦ λ h. IsAnyOf-permuted rows others o (IsPermutation-from_Same rows others same) h
      | collected vs ↦ λ h. absurd h
    ]
Holds-any_order (kind.MakeSet n) rows others kept same =
    elim kept as (AlsoHolds (kind.MakeSet n) rows others) [
      | counted m ↦ λ h. absurd h
      | summed z ↦ λ h. absurd h
      | extreme o ↦ λ h. absurd h
      | chosen o ↦ λ h. absurd h
      | collected vs ↦ λ h. IsSetOf-permuted n _ _ vs (filtered is_element (Shuffled-from_Same rows others same)) h
    ]
