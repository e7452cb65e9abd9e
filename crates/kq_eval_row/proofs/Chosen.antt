-- The steps of a walk over tests and their values.
use Rattle.std.proofs.Common.{◌≡◌, ℕ, zero, suc, ◌+◌, ◌<◌, ◌≤◌, Bool, true, false, cond, List, [], ◌∷◌, map, length, get_or, drop, refl, sym, ap, ◌∙◌, arith}
use Rattle.std.specs.Prelude.{not}
use Rattle.kq_value.specs.declared.value.Value.{Value}
use Rattle.kq_value.specs.Computed.{Computed, Is, and_then}
use Rattle.kq_value_arithmetic.specs.Logic.{is_yes}
use Rattle.kq_value_string_functions.specs.kq_value_conversions.Converted.{empty_test}
use Rattle.kq_plan_expressions.specs.declared.expr.Expr.{Expr}
use Rattle.kq_eval_row.specs.Val.{Surroundings, val, first_chosen, first_present}

turned : (b : Bool) → not b ≡ false → b ≡ true
turned true e = refl
turned false e = absurd (cc)

passed : (c o : Computed Value) (next : Computed Value) → and_then c (λ v. Is (is_yes v)) ≡ Is false → and_then c (λ v. cond (is_yes v) o next) ≡ next
passed (Is v) o next e = let fails : is_yes v ≡ false = cc in rw fails refl
passed Computed.Overflow o next e = absurd (cc)

taken : (c o : Computed Value) (next : Computed Value) → and_then c (λ v. Is (is_yes v)) ≡ Is true → and_then c (λ v. cond (is_yes v) o next) ≡ o
taken (Is v) o next e = let holds : is_yes v ≡ true = cc in rw holds refl
taken Computed.Overflow o next e = absurd (cc)

-- a test that isn't true is passed over with its value
pub chosen-more : (es : List Expr) (i : ℕ) (p : Expr) (s : Surroundings) (row : List Value) → i + 1 < length es → p ≡ get_or es i p → and_then (val p s row) (λ v. Is (is_yes v)) ≡ Is false
    → first_chosen (map val (drop i es)) s row ≡ first_chosen (map val (drop (suc (suc i)) es)) s row
chosen-more [] i p s row h is fails = absurd (omega arith)
chosen-more (x ∷ []) i p s row h is fails = absurd (omega arith)
chosen-more (x ∷ y ∷ es) zero p s row h is fails = passed (val x s row) (val y s row) (first_chosen (map val es) s row) (ap (λ z. and_then (val z s row) (λ v. Is (is_yes v))) (sym is) ∙ fails)
chosen-more (x ∷ y ∷ es) (suc i) p s row h is fails = chosen-more (y ∷ es) i p s row (omega arith) is fails

-- the value behind a test that is true
pub chosen-at : (es : List Expr) (i : ℕ) (p q : Expr) (s : Surroundings) (row : List Value) → i + 1 < length es → p ≡ get_or es i p → q ≡ get_or es (suc i) q → and_then (val p s row) (λ v. Is (is_yes v)) ≡ Is true
    → first_chosen (map val (drop i es)) s row ≡ val q s row
chosen-at [] i p q s row h is at holds = absurd (omega arith)
chosen-at (x ∷ []) i p q s row h is at holds = absurd (omega arith)
chosen-at (x ∷ y ∷ es) zero p q s row h is at holds = taken (val x s row) (val y s row) (first_chosen (map val es) s row) (ap (λ z. and_then (val z s row) (λ v. Is (is_yes v))) (sym is) ∙ holds) ∙ ap (λ z. val z s row) (sym at)
chosen-at (x ∷ y ∷ es) (suc i) p q s row h is at holds = chosen-at (y ∷ es) i p q s row (omega arith) is at holds

-- the last value, where fails test is left
pub chosen-last : (es : List Expr) (i : ℕ) (q : Expr) (s : Surroundings) (row : List Value) → i < length es → length es ≤ i + 1 → q ≡ get_or es i q → first_chosen (map val (drop i es)) s row ≡ val q s row
chosen-last [] i q s row h k at = absurd (omega arith)
chosen-last (x ∷ []) zero q s row h k at = ap (λ z. val z s row) (sym at)
chosen-last (x ∷ []) (suc i) q s row h k at = absurd (omega arith)
chosen-last (x ∷ y ∷ es) zero q s row h k at = absurd (omega arith)
chosen-last (x ∷ y ∷ es) (suc i) q s row h k at = chosen-last (y ∷ es) i q s row (omega arith) (omega arith) at

-- a value that isn't there is passed over
pub present-more : (es : List Expr) (i : ℕ) (p : Expr) (v : Value) (s : Surroundings) (row : List Value) → i + 1 < length es → p ≡ get_or es i p → val p s row ≡ Is v → not (is_yes (empty_test v)) ≡ false
    → first_present (map val (drop i es)) s row ≡ first_present (map val (drop (suc i) es)) s row
present-more [] i p v s row h is gives there = absurd (omega arith)
present-more (x ∷ []) i p v s row h is gives there = absurd (omega arith)
present-more (x ∷ y ∷ es) zero p v s row h is gives there =
    let g : val x s row ≡ Is v = ap (λ z. val z s row) (sym is) ∙ gives in
    let t : is_yes (empty_test v) ≡ true = turned (is_yes (empty_test v)) there in
    rw (g, t) refl
present-more (x ∷ y ∷ es) (suc i) p v s row h is gives there = present-more (y ∷ es) i p v s row (omega arith) is gives there
