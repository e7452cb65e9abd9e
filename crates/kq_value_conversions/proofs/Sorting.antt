-- A list that is put in order by a total order without ties is the one sorted list of its items.
use Rattle.std.proofs.Common.{◌≡◌, ◌<◌, ℕ, zero, suc, max, Bool, true, false, cond, List, [], ◌∷◌, length, get_or, map, refl, sym, ap, ◌∙◌, arith, add-one}
use Rattle.std.specs.Cmp.{IsTotalOrder, IsStrictWeakOrder}
use Rattle.std.specs.Ordering.{is_le, is_lt, ordering_reverse}
use Rattle.std.specs.declared.cmp.Ordering.{Ordering}
use Rattle.std.specs.declared.cmp.Ordering.TheVariants.{Less, Equal, Greater}
use Rattle.std.specs.Fn.{Called, ComparesAs}
use Rattle.std.specs.List.{swap}
use Rattle.std.specs.List.Sorted.{IsPermutation, IsSortedBy}
use Rattle.std.proofs.Math.ListN.{set}
use Rattle.std.proofs.lemmas.Cmp.{then_total, on_total, nat_cmp_total}
use Rattle.std.proofs.lemmas.Fn.{always_returns_same}
use Rattle.std.proofs.lemmas.List.Sorted.{IsPermutation-keeps, ranks_by}
use denote.Param.Members.{Mut}
use denote.Ref.{Bor}
use Rattle.kq_value.specs.Tree.{Tree, Trees, tree_depth, trees_depth, items_of}
use Rattle.kq_value.specs.TreeOrder.{tree_cmp}
use Rattle.kq_value.specs.Values.{value_tree}
use Rattle.kq_value.specs.Seen.{tree_of, dyn_of, trees_of}
use Rattle.kq_value.specs.declared.dynamic.Dyn.{Dyn}
use Rattle.kq_value.specs.declared.value.Value.TheVariants.{Dynamic}
use Rattle.kq_value.proofs.Trees.{tree_of-dyn_of, dyn_of-tree_of, items_of-trees_of}
use Rattle.kq_value.proofs.Totals.{tree_cmp_total}
use Rattle.kq_value.proofs.Equals.{both_equal, value_equal}
use Rattle.kq_value_formats.specs.Members.{sorting_cmp, sorting_rank, put_in_order, in_order, trees_from_list}
use Rattle.kq_value_conversions.proofs.Trees.{trees_of-map, trees_from-items_of}

not_true : (b : Bool) → (b ≡ true → ⊥) → b ≡ false
not_true true h = absurd (h refl)
not_true false h = refl

-- what is asked of a test `le`
record IsLinear {X : Type 0} (le : X → X → Bool) : Type 0 where
  pub total : (x y : X) → le x y ≡ false → le y x ≡ true
  pub trans : (x y z : X) → le x y ≡ true → le y z ≡ true → le x z ≡ true
  pub same : (x y : X) → le x y ≡ true → le y x ≡ true → x ≡ y

-- an item put before the first that isn't less, and so each in its place
abbrev put : {X : Type 0} → (X → X → Bool) → X → List X → List X
put le x [] = x ∷ []
put le x (y ∷ ys) = cond (le x y) (x ∷ y ∷ ys) (y ∷ put le x ys)

abbrev arranged : {X : Type 0} → (X → X → Bool) → List X → List X
arranged le [] = []
arranged le (x ∷ xs) = put le x (arranged le xs)

module _ {X : Type 0} (le : X → X → Bool) (linear : IsLinear le) where
  pair : (x y : X) (zs : List X) (a b : Bool) → le x y ≡ a → le y x ≡ b → cond a (x ∷ y ∷ zs) (y ∷ x ∷ zs) ≡ cond b (y ∷ x ∷ zs) (x ∷ y ∷ zs)
  pair x y zs true true p q = let e = linear.same x y p q in cc
  pair x y zs true false p q = refl
  pair x y zs false true p q = refl
  pair x y zs false false p q = absurd (let t = linear.total x y p in cc)

  -- x comes before z and y doesn't, so y doesn't before x
  not_before : (x y z : X) → le x z ≡ true → le y z ≡ false → le y x ≡ false
  not_before x y z p q = not_true (le y x) (λ h. let t = linear.trans y x z h p in cc)

  put_step : (x y z : X) (zs : List X) (p q : Bool) → le x z ≡ p → le y z ≡ q → put le x (put le y zs) ≡ put le y (put le x zs)
      → put le x (cond q (y ∷ z ∷ zs) (z ∷ put le y zs)) ≡ put le y (cond p (x ∷ z ∷ zs) (z ∷ put le x zs))
  put_step x y z zs true true p q h = rw (p, q) (pair x y (z ∷ zs) (le x y) (le y x) refl refl)
  put_step x y z zs true false p q h = rw (p, q, not_before x y z p q) refl
  put_step x y z zs false true p q h = rw (p, q, not_before y x z q p) refl
  put_step x y z zs false false p q h = rw (p, q) (ap (λ ws. z ∷ ws) h)

  -- it makes no difference which of two is put in first
  put_put : (x y : X) (zs : List X) → put le x (put le y zs) ≡ put le y (put le x zs)
  put_put x y [] = pair x y [] (le x y) (le y x) refl refl
  put_put x y (z ∷ zs) = put_step x y z zs (le x z) (le y z) refl refl (put_put x y zs)

  -- an item in the place of another, which is put in for it
  put_set : (x : X) (ys : List X) (j : ℕ) (d : X) → j < length ys → put le (get_or ys j d) (arranged le (set ys j x)) ≡ put le x (arranged le ys)
  put_set x [] j d h = absurd (omega arith)
  put_set x (y ∷ ys) zero d h = put_put y x (arranged le ys)
  put_set x (y ∷ ys) (suc j) d h =
      put_put (get_or ys j d) y (arranged le (set ys j x)) ∙ ap (put le y) (put_set x ys j d (omega arith)) ∙ put_put y x (arranged le ys)

  arranged_swapped : (d : X) (ys : List X) (i j : ℕ) → i < length ys → j < length ys → arranged le (set (set ys i (get_or ys j d)) j (get_or ys i d)) ≡ arranged le ys
  arranged_swapped d [] i j h k = absurd (omega arith)
  arranged_swapped d (y ∷ ys) zero zero h k = refl
  arranged_swapped d (y ∷ ys) zero (suc j) h k = put_set y ys j d (omega arith)
  arranged_swapped d (y ∷ ys) (suc i) zero h k = put_set y ys i d (omega arith)
  arranged_swapped d (y ∷ ys) (suc i) (suc j) h k = ap (put le y) (arranged_swapped d ys i j (omega arith) (omega arith))

  arranged_swap : (xs : List X) (i j : ℕ) → i < length xs → j < length xs → arranged le (swap xs i j) ≡ arranged le xs
  arranged_swap [] i j h k = refl
  arranged_swap (x ∷ xs) i j h k = arranged_swapped x (x ∷ xs) i j h k

  arranged_permuted : (xs ys : List X) → IsPermutation xs ys → arranged le ys ≡ arranged le xs
  arranged_permuted xs = IsPermutation-keeps xs (λ ys. arranged le ys ≡ arranged le xs) refl (λ ys i j h k e. arranged_swap ys i j h k ∙ e)

  arranged_sorted : (xs : List X) → ((k : ℕ) (d : X) → suc k < length xs → le (get_or xs k d) (get_or xs (suc k) d) ≡ true) → arranged le xs ≡ xs
  arranged_sorted [] h = refl
  arranged_sorted (x ∷ []) h = refl
  arranged_sorted (x ∷ y ∷ ys) h =
      let later : arranged le (y ∷ ys) ≡ y ∷ ys = arranged_sorted (y ∷ ys) (λ k d l. h (suc k) d (omega arith)) in
      let first : le x y ≡ true = h zero x (omega arith) in
      ap (put le x) later ∙ rw first refl

-- ---- the order of array_sort_asc

sorting_total : IsTotalOrder sorting_cmp
sorting_total = then_total (on_total sorting_rank nat_cmp_total) tree_cmp_total

tree_equal : (t u : Tree) → tree_cmp t u ≡ Equal → t ≡ u
tree_equal t u e =
    let whole = value_equal (Dynamic (dyn_of t)) (Dynamic (dyn_of u)) (rw (tree_of-dyn_of t, tree_of-dyn_of u) e) in
    sym (tree_of-dyn_of t) ∙ ap value_tree whole ∙ tree_of-dyn_of u

sorting_equal : (t u : Tree) → sorting_cmp t u ≡ Equal → t ≡ u
sorting_equal t u e = tree_equal t u (both_equal _ _ e).1

module _ {X : Type 0} (R : X → X → Ordering) (o : IsTotalOrder R) (same : (x y : X) → R x y ≡ Equal → x ≡ y) where
  turned : (r s : Ordering) → r ≡ ordering_reverse s → is_le r ≡ false → is_le s ≡ true
  turned r Less e h = refl
  turned r Equal e h = refl
  turned r Greater e h = absurd (let k = ap is_le e in cc)

  le_trans : (x y z : X) (r s : Ordering) → R x y ≡ r → R y z ≡ s → is_le r ≡ true → is_le s ≡ true → is_le (R x z) ≡ true
  le_trans x y z Less Less p q h k = rw (o.trans x y z p q) refl
  le_trans x y z Less Equal p q h k = let e = same y z q in rw (← e, p) refl
  le_trans x y z Equal s p q h k = let e = same x y p in rw (e, q) k
  le_trans x y z Less Greater p q h k = absurd (cc)
  le_trans x y z Greater s p q h k = absurd (cc)

  both_ways : (x y : X) (r s : Ordering) → R x y ≡ r → R y x ≡ s → is_le r ≡ true → is_le s ≡ true → x ≡ y
  both_ways x y Equal s p q h k = same x y p
  both_ways x y Less s p q h k = absurd (let e = sym p ∙ o.antisymm x y ∙ ap ordering_reverse q in worse s e k)
    where
      worse : (s : Ordering) → Less ≡ ordering_reverse s → is_le s ≡ true → ⊥
      worse Less e k = cc
      worse Equal e k = cc
      worse Greater e k = cc
  both_ways x y Greater s p q h k = absurd (cc)

  linear : IsLinear (λ x y. is_le (R x y))
  linear = record {
    total = λ x y h. turned (R x y) (R y x) (o.antisymm x y) h;
    trans = λ x y z h k. le_trans x y z (R x y) (R y z) refl refl h k;
    same = λ x y h k. both_ways x y (R x y) (R y x) refl refl h k;
  }

  not_less : (r s : Ordering) → s ≡ ordering_reverse r → is_lt r ≡ false → is_le s ≡ true
  not_less Less s e h = absurd (cc)
  not_less Equal s e h = rw e refl
  not_less Greater s e h = rw e refl

  sorted_is_arranged : (xs ys : List X) → IsPermutation xs ys → IsSortedBy (λ x y. is_lt (R x y)) ys → ys ≡ arranged (λ x y. is_le (R x y)) xs
  sorted_is_arranged xs ys p up =
      sym (arranged_sorted (λ x y. is_le (R x y)) linear ys (λ k d l.
      not_less (R (get_or ys (suc k) d) (get_or ys k d)) (R (get_or ys k d) (get_or ys (suc k) d)) (o.antisymm _ _) (rw add-one at (up k d (omega arith) (omega arith)))))
      ∙ arranged_permuted (λ x y. is_le (R x y)) linear xs ys p

abbrev by_tree : Dyn → Dyn → Ordering
by_tree a b = sorting_cmp (tree_of a) (tree_of b)

by_tree_total : IsTotalOrder by_tree
by_tree_total = on_total tree_of sorting_total

by_tree_equal : (a b : Dyn) → by_tree a b ≡ Equal → a ≡ b
by_tree_equal a b e = sym (dyn_of-tree_of a) ∙ ap dyn_of (sorting_equal (tree_of a) (tree_of b) e) ∙ dyn_of-tree_of b

put-trees : (d : Dyn) (ds : List Dyn) → map tree_of (put (λ a b. is_le (by_tree a b)) d ds) ≡ put_in_order (tree_of d) (map tree_of ds)
put-trees d [] = refl
put-trees d (e ∷ ds) = case (is_le (by_tree d e)) (put-trees d ds)
  where
    case : (b : Bool) → map tree_of (put (λ a b. is_le (by_tree a b)) d ds) ≡ put_in_order (tree_of d) (map tree_of ds)
        → map tree_of (cond b (d ∷ e ∷ ds) (e ∷ put (λ a b. is_le (by_tree a b)) d ds)) ≡ cond b (tree_of d ∷ tree_of e ∷ map tree_of ds) (tree_of e ∷ put_in_order (tree_of d) (map tree_of ds))
    case true h = refl
    case false h = ap (λ ts. tree_of e ∷ ts) h

arranged-trees : (ds : List Dyn) → map tree_of (arranged (λ a b. is_le (by_tree a b)) ds) ≡ in_order (map tree_of ds)
arranged-trees [] = refl
arranged-trees (d ∷ ds) = put-trees d (arranged (λ a b. is_le (by_tree a b)) ds) ∙ ap (put_in_order (tree_of d)) (arranged-trees ds)

sorting_ranks : IsStrictWeakOrder (λ (a : Dyn) (b : Dyn). is_lt (sorting_cmp (tree_of a) (tree_of b)))
sorting_ranks = ranks_by sorting_total tree_of

-- what a sort by a closure gives whose answers are this order's
pub sorted_by_closure : {F : Type 0} {g : Mut F (Bor Dyn × (Bor Dyn × Unit {0})) Ordering} {f : F} (ys : List Dyn)
    → ((lt : Dyn → Dyn → Bool) → IsStrictWeakOrder lt → ComparesAs g lt f → IsSortedBy lt ys)
    → ((a : Bor Dyn × (Bor Dyn × Unit {0})) (r : Ordering) (f' : F) → Called g f a r f' → (r ≡ sorting_cmp (tree_of a.0.now) (tree_of a.1.0.now)) × (f' ≡ f))
    → IsSortedBy (λ a b. is_lt (sorting_cmp (tree_of a) (tree_of b))) ys
sorted_by_closure {g = g} {f = f} ys up h =
    up (λ a b. is_lt (sorting_cmp (tree_of a) (tree_of b))) sorting_ranks
    (always_returns_same g (λ a r. is_lt r ≡ is_lt (sorting_cmp (tree_of a.0.now) (tree_of a.1.0.now))) f (λ a r f' k. (ap is_lt (h a r f' k).0, (h a r f' k).1)))

-- what a sort of an array's items gives
pub sorted-trees : (xs ys : List Dyn) → IsPermutation xs ys → IsSortedBy (λ a b. is_lt (sorting_cmp (tree_of a) (tree_of b))) ys
    → trees_of ys ≡ trees_from_list (in_order (items_of (trees_of xs)))
sorted-trees xs ys p up =
    let e : ys ≡ arranged (λ a b. is_le (by_tree a b)) xs = sorted_is_arranged by_tree by_tree_total by_tree_equal xs ys p up in
    trees_of-map ys ∙ ap trees_from_list (ap (map tree_of) e ∙ arranged-trees xs ∙ ap in_order (sym (items_of-trees_of xs)))

depth-put : (t : Tree) (us : List Tree) → trees_depth (trees_from_list (put_in_order t us)) ≡ max (tree_depth t) (trees_depth (trees_from_list us))
depth-put t [] = refl
depth-put t (u ∷ us) = case (is_le (sorting_cmp t u)) (depth-put t us)
  where
    case : (b : Bool) → trees_depth (trees_from_list (put_in_order t us)) ≡ max (tree_depth t) (trees_depth (trees_from_list us))
        → trees_depth (trees_from_list (cond b (t ∷ u ∷ us) (u ∷ put_in_order t us))) ≡ max (tree_depth t) (max (tree_depth u) (trees_depth (trees_from_list us)))
    case true h = refl
    case false h = omega (arith, h)

depth-in_order : (ts : List Tree) → trees_depth (trees_from_list (in_order ts)) ≡ trees_depth (trees_from_list ts)
depth-in_order [] = refl
depth-in_order (t ∷ ts) = depth-put t (in_order ts) ∙ ap (max (tree_depth t)) (depth-in_order ts)

-- an array in order nests as deep as before
pub depth-sorted : (ts : Trees) → trees_depth (trees_from_list (in_order (items_of ts))) ≡ trees_depth ts
depth-sorted ts = depth-in_order (items_of ts) ∙ ap trees_depth (trees_from-items_of ts)
