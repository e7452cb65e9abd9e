-- The keys of groups are those of the rows, each once.
use Rattle.std.proofs.Common.{◌≡◌, ◌<◌, ◌≤◌, ◌+◌, ℕ, zero, suc, Bool, true, false, cond, List, [], ◌∷◌, refl, sym, ap, subst, arith}
use Rattle.std.specs.Prelude.{min}
use Rattle.std.specs.List.{All, AllByRecursion, Contains, IsDistinct}
use Rattle.std.proofs.lemmas.List.Elements.{All-contains, All-contains_itself, All-weaker, recursion_from_All}
use Rattle.kq_run_groups.specs.Grouped.{AreDifferent, AreKeys}
use Rattle.kq_store_rows.specs.Chunks.{HasWidth}
use Rattle.kq_value.proofs.Equals.{is_same_row-Decides}
use Rattle.kq_value.proofs.SameLemmas.{place_of, times-itself}
use Rattle.kq_value.specs.Same.{times}
use Rattle.kq_value.specs.Values.{is_same_row}
use Rattle.kq_value.specs.declared.value.Value.{Value}
use Rattle.kq_run_laws.specs.Groups.{AreGroupKeys, AreOnceEach}

abbrev Row : Type 0
Row = List Value

-- ---- what stands in a list

stands : (k : Row) (rows : List Row) → 0 < times k rows → Contains rows k
stands k rows some = let p = place_of k rows some in (p.0, p.1.0, sym p.1.1)

counted : (k : Row) (rows : List Row) → Contains rows k → 0 < times k rows
counted k [] (i, within, is) = absurd (omega (arith, within))
counted k (x ∷ rows) (zero, within, is) = let itself = times-itself k rows in subst (λ (y : Row). 0 < times k (y ∷ rows)) (sym is) (omega (arith, itself))
counted k (x ∷ rows) (suc i, within, is) = let more = counted k rows (i, omega (arith, within), is) in omega (arith, more)

all_stand : (a b : List Row) → ((k : Row) → 0 < times k a → 0 < times k b) → All (Contains b) a
all_stand a b there = All-weaker (Contains a) (Contains b) (λ k here. stands k b (there k (counted k a here))) a (All-contains_itself a)

-- ---- none twice

unequal : (b : Bool) (n : ℕ) → (cond b 1 0) + n ≡ 0 → b ≡ false
unequal true n none = absurd (omega (arith, none))
unequal false n none = refl

apart : (x : Row) (rows : List Row) → times x rows ≡ 0 → AllByRecursion (λ y. is_same_row x y ≡ false) rows
apart x [] none = tt
apart x (y ∷ rows) none = (unequal (is_same_row x y) (times x rows) none, apart x rows (omega (arith, none)))

distinct : (rows : List Row) → ((k : Row) → times k rows ≤ 1) → IsDistinct is_same_row rows
unfolding IsDistinct
distinct [] most = tt
distinct (x ∷ rows) most =
    let one = most x in
    let itself = times-itself x rows in
    (apart x rows (omega (arith, one, itself)), distinct rows (λ k. let few = most k in omega (arith, few)))

none_apart : (x : Row) (rows : List Row) → AllByRecursion (λ y. is_same_row x y ≡ false) rows → times x rows ≡ 0
none_apart x [] others = refl
none_apart x (y ∷ rows) others =
    let here : times x (y ∷ rows) ≡ 0 + times x rows = ap (λ (b : Bool). (cond b 1 0) + times x rows) others.0 in
    let later = none_apart x rows others.1 in
    omega (arith, here, later)

at_most_once : (rows : List Row) → IsDistinct is_same_row rows → (k : Row) → times k rows ≤ 1
unfolding IsDistinct
at_most_once [] once k = omega arith
at_most_once (x ∷ rows) once k = by (is_same_row k x) refl (at_most_once rows once.1 k) where
  by : (b : Bool) → is_same_row k x ≡ b → times k rows ≤ 1 → (cond b 1 0) + times k rows ≤ 1
  by true e few =
      let same : k ≡ x = (is_same_row-Decides k x).0 e in
      let none : times k rows ≡ 0 = subst (λ (y : Row). times y rows ≡ 0) (sym same) (none_apart x rows once.0) in
      omega (arith, none)
  by false e few = omega (arith, few)

-- ---- keys

pub once_from : (keys groups : List Row) → AreDifferent keys groups → AreOnceEach keys groups
once_from keys groups are = record {
  known = all_stand groups keys (λ k some. let e = are.each k in omega (arith, e, some));
  all = all_stand keys groups (λ k some. let e = are.each k in omega (arith, e, some));
  once = distinct groups (λ k. let e = are.each k in omega (arith, e));
}

one_or_none : (m n : ℕ) → m ≤ 1 → (0 < m → 0 < n) → (0 < n → 0 < m) → m ≡ min 1 n
one_or_none zero zero few there back = refl
one_or_none zero (suc n) few there back = let more = back (omega arith) in absurd (omega (arith, more))
one_or_none (suc m) zero few there back = let more = there (omega arith) in absurd (omega (arith, more))
one_or_none (suc m) (suc n) few there back = omega (arith, few)

pub once_to : (keys groups : List Row) → AreOnceEach keys groups → AreDifferent keys groups
once_to keys groups are = record {
  each = λ k.
      one_or_none (times k groups) (times k keys) (at_most_once groups are.once k)
      (λ some. counted k keys (All-contains (Contains keys) groups k are.known (stands k groups some)))
      (λ some. counted k groups (All-contains (Contains groups) keys k are.all (stands k keys some)));
}

pub keys_from : (width : ℕ) (keys groups : List Row) → AreKeys width keys groups → AreGroupKeys width keys groups
keys_from zero keys groups are = are
keys_from (suc width) keys groups are = once_from keys groups are

pub keys_to : (width : ℕ) (keys groups : List Row) → AreGroupKeys width keys groups → AreKeys width keys groups
keys_to zero keys groups are = are
keys_to (suc width) keys groups are = once_to keys groups are

-- the keys of the groups are as wide as those of the rows
pub groups_wide : (width : ℕ) (keys groups : List Row) → All (HasWidth width) keys → AreKeys width keys groups → AllByRecursion (HasWidth width) groups
groups_wide zero keys groups wide are = subst (AllByRecursion (HasWidth {T = Value} 0)) (sym are) (refl, tt)
groups_wide (suc width) keys groups wide are =
    let known = (once_from keys groups are).known in
    recursion_from_All (HasWidth (suc width)) groups (All-weaker (Contains keys) (HasWidth (suc width)) (λ k here. All-contains (HasWidth (suc width)) keys k wide here) groups known)

no_cells : (k : Row) → HasWidth 0 k → k ≡ []
no_cells [] wide = refl
no_cells (v ∷ k) wide = absurd (omega (arith, wide))

-- each key of a row is that of a group
pub group_found : (width : ℕ) (keys groups : List Row) (k : Row) → All (HasWidth width) keys → AreKeys width keys groups → Contains keys k → Contains groups k
group_found zero keys groups k wide are here =
    let none : k ≡ [] = no_cells k (All-contains (HasWidth 0) keys k wide here) in
    subst (λ (gs : List Row). Contains gs k) (sym are) (subst (λ (x : Row). Contains ([] ∷ []) x) (sym none) (0, omega arith, refl))
group_found (suc width) keys groups k wide are here = All-contains (Contains groups) keys k (once_from keys groups are).all here
