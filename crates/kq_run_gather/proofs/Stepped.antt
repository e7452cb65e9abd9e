-- Steps by their numbers.
use Rattle.std.proofs.Common.{◌≡◌, ◌<◌, ◌≤◌, ◌-◌, ℕ, zero, suc, List, [], ◌∷◌, length, get_or, map, sym, ap, ◌∙◌, arith, length-append}
use Rattle.std.proofs.lemmas.List.{length-map}
use Rattle.kq_run_scan.specs.kq_eval_pieces.Operators.{Row}
use Rattle.kq_plan.specs.declared.plan.Step.{Step}
use Rattle.kq_plan.specs.Plans.{Doing, Stepping, stepping_of, kept, mapped, expanded}
use Rattle.kq_run_scan.specs.kq_eval_row.Val.{Surroundings}
use Rattle.kq_run_row_operators.proofs.Laws.{ran_failed}
use Rattle.kq_run_row_operators.specs.Ran.{failed, ran}
use Rattle.kq_run_gather.specs.Steps.{last_of, operator_in, operators_of, stage_at}

operators_many : (ss : List Stepping) → length (operators_of ss) ≤ length ss
operators_many [] = omega arith
operators_many (s ∷ ss) = let a = one_at_most s.doing in let b = operators_many ss in let c = length-append (operator_in s.doing) (operators_of ss) in omega (arith, a, b, c)
  where
    one_at_most : (d : Doing) → length (operator_in d) ≤ 1
    one_at_most (kept i e) = omega arith
    one_at_most (mapped i es) = omega arith
    one_at_most (expanded i e c t) = omega arith
    one_at_most d = omega arith

pub stage_is : (steps : List Step) (n : ℕ) (s : Step) → n < length steps → s ≡ get_or steps n s → s.stage ≡ stage_at (map stepping_of steps) n
stage_is [] n s within at = absurd (omega (arith, within))
stage_is (t ∷ steps) zero s within at = ap (λ (x : Step). x.stage) at
stage_is (t ∷ steps) (suc n) s within at = stage_is steps n s (omega (arith, within)) at

pub last_step : (steps : List Step) (s : Step) → 0 < length steps → s ≡ get_or steps (length steps - 1) s → last_of (map stepping_of steps) ≡ stepping_of s
last_step [] s some at = absurd (omega (arith, some))
last_step (t ∷ []) s some at = ap stepping_of (sym at)
last_step (t ∷ u ∷ steps) s some at = let e : length (t ∷ u ∷ steps) - 1 ≡ suc (length (u ∷ steps) - 1) = omega arith in last_step (u ∷ steps) s (omega arith) (at ∙ ap (λ (n : ℕ). get_or (t ∷ u ∷ steps) n s) e)

-- the number of an operator that failed is one of a step
pub failed_in_steps : (steps : List Step) (s : Surroundings) (rows : List Row) (n : ℕ) → ran (operators_of (map stepping_of steps)) s rows ≡ failed n → n < length steps
failed_in_steps steps s rows n is =
    let a = ran_failed (operators_of (map stepping_of steps)) s rows n is in
    let b = operators_many (map stepping_of steps) in
    let c = length-map steps stepping_of in
    omega (arith, a, b, c)
