-- What stands between two values stands to a third as they do.
use Rattle.std.proofs.Common.{◌≡◌, ◌<◌, ◌≤◌, Bool, true, false, not, refl, sym, ap, ◌∙◌, subst, arith}
use Rattle.std.specs.Cmp.{IsStrictWeakOrder, ranked}
use Rattle.std.proofs.lemmas.Cmp.{by_ranked}
use Rattle.std.specs.Ordering.{is_ge, is_gt, is_le, is_lt, nat_cmp, ordering_reverse, ordering_then}
use Rattle.std.specs.declared.cmp.Ordering.{Ordering}
use Rattle.std.specs.declared.cmp.Ordering.TheVariants.{Less, Equal, Greater}
use Rattle.std.proofs.lemmas.List.Sorted.{ranks_by}
use Rattle.kq_value.specs.declared.value.Value.{Value}
use Rattle.kq_value.specs.Values.{is_same, value_cmp, value_kind}
use Rattle.kq_value.proofs.Equals.{is_same-Decides}
use Rattle.kq_value.proofs.Totals.{value_cmp_total}
use Rattle.kq_store_column.specs.Cells.{IsAtMost}

abbrev lt : Value → Value → Bool
lt v w = is_lt (value_cmp v w)

ordered : IsStrictWeakOrder lt
ordered = ranks_by value_cmp_total (λ (v : Value). v)

le_back : (o : Ordering) → is_le (ordering_reverse o) ≡ not (is_lt o)
le_back Less = refl
le_back Equal = refl
le_back Greater = refl

gt_back : (o : Ordering) → is_gt (ordering_reverse o) ≡ is_lt o
gt_back Less = refl
gt_back Equal = refl
gt_back Greater = refl

ge_not : (o : Ordering) → is_ge o ≡ not (is_lt o)
ge_not Less = refl
ge_not Equal = refl
ge_not Greater = refl

le_lt : (v w : Value) → is_le (value_cmp v w) ≡ not (lt w v)
le_lt v w = ap is_le (value_cmp_total.antisymm v w) ∙ le_back (value_cmp w v)

gt_lt : (v w : Value) → is_gt (value_cmp v w) ≡ lt w v
gt_lt v w = ap is_gt (value_cmp_total.antisymm v w) ∙ gt_back (value_cmp w v)

not_true : (b : Bool) → not b ≡ true → b ≡ false
not_true true h = cc
not_true false h = refl

not_false : (b : Bool) → not b ≡ false → b ≡ true
not_false true h = refl
not_false false h = cc

unless : (b : Bool) → (b ≡ false → ⊥) → b ≡ true
unless true h = refl
unless false h = absurd (h refl)

unless_true : (b : Bool) → (b ≡ true → ⊥) → b ≡ false
unless_true true h = absurd (h refl)
unless_true false h = refl

differ : (b : Bool) → b ≡ true → b ≡ false → ⊥
differ true p q = cc
differ false p q = cc

-- the second doesn't stand before the first
up : (v w : Value) → IsAtMost v w → lt w v ≡ false
up v w h = not_true (lt w v) (sym (le_lt v w) ∙ h)

-- ---- where the least or the greatest doesn't stand so, none between does

pub none_below : (least v value : Value) → IsAtMost least v → is_lt (value_cmp least value) ≡ false → is_lt (value_cmp v value) ≡ false
none_below least v value low h = ordered.chain v least value (up least v low) h

pub none_at_most : (least v value : Value) → IsAtMost least v → is_le (value_cmp least value) ≡ false → is_le (value_cmp v value) ≡ false
none_at_most least v value low h =
    let before : lt value least ≡ true = not_false (lt value least) (sym (le_lt least value) ∙ h) in
    let is : lt value v ≡ true = unless (lt value v) (λ isnt. differ (lt value least) before (ordered.chain value v least isnt (up least v low))) in
    le_lt v value ∙ ap not is

pub none_above : (greatest v value : Value) → IsAtMost v greatest → is_gt (value_cmp greatest value) ≡ false → is_gt (value_cmp v value) ≡ false
none_above greatest v value high h = gt_lt v value ∙ ordered.chain value greatest v (sym (gt_lt greatest value) ∙ h) (up v greatest high)

pub none_at_least : (greatest v value : Value) → IsAtMost v greatest → is_ge (value_cmp greatest value) ≡ false → is_ge (value_cmp v value) ≡ false
none_at_least greatest v value high h =
    let before : lt greatest value ≡ true = not_false (lt greatest value) (sym (ge_not (value_cmp greatest value)) ∙ h) in
    let is : lt v value ≡ true = unless (lt v value) (λ isnt. differ (lt greatest value) before (ordered.chain greatest v value (up v greatest high) isnt)) in
    ge_not (value_cmp v value) ∙ ap not is

-- ---- a value that stands before the least or behind the greatest is none of those between

pub before_all : (least v value : Value) → IsAtMost least v → is_lt (value_cmp value least) ≡ true → is_same v value ≡ false
before_all least v value low h =
    unless_true (is_same v value) (λ same.
    let is : v ≡ value = (is_same-Decides v value).0 same in
    differ (lt value least) h (up least value (subst (IsAtMost least) is low)))

pub behind_all : (greatest v value : Value) → IsAtMost v greatest → is_lt (value_cmp greatest value) ≡ true → is_same v value ≡ false
behind_all greatest v value high h =
    unless_true (is_same v value) (λ same.
    let is : v ≡ value = (is_same-Decides v value).0 same in
    differ (lt greatest value) h (up value greatest (subst (λ (x : Value). IsAtMost x greatest) is high)))

-- ---- kinds stand in the order of values

first_le : (o p : Ordering) → is_le (ordering_then o p) ≡ true → is_gt o ≡ false
first_le Less p h = refl
first_le Equal p h = refl
first_le Greater p h = cc

not_greater : (o : Ordering) → o ≡ Greater → is_gt o ≡ false → ⊥
not_greater o is h = differ (is_gt o) (ap is_gt is) h

pub kinds_up : (v w : Value) → IsAtMost v w → value_kind v ≤ value_kind w
kinds_up v w h =
    let a = value_kind v in
    let b = value_kind w in
    by_ranked (a < b) (a ≡ b) (b < a) (nat_cmp a b) (ranked a b (nat_cmp a b) refl)
    (λ e less. omega (arith, less))
    (λ e same. omega (arith, same))
    (λ e more. absurd (not_greater (nat_cmp a b) e (first_le (nat_cmp a b) _ h)))
