-- Marks of the steps whose rows are unshared, while they are made.
use Rattle.std.proofs.Common.{◌≡◌, ◌≢◌, ◌<◌, ◌≤◌, ◌+◌, ◌-◌, inl, inr, ℕ, zero, suc, Bool, true, false, List, [], ◌∷◌, ◌++◌, Some, length, get_or, take, map, slice_get, sym, ap, ◌∙◌, subst, arith}
use Rattle.std.specs.Prelude.{Contains}
use Rattle.std.proofs.lemmas.Bool.{cases_lt}
use Rattle.std.proofs.lemmas.List.{length-map}
use Rattle.std.proofs.lemmas.List.Elements.{Contains-append_cases}
use Rattle.kq_plan.specs.declared.plan.Step.{Step}
use Rattle.kq_plan.specs.declared.work.Arm.{Arm}
use Rattle.kq_plan.specs.Plans.{Stepping, filling_of, stepping_of}
use Rattle.kq_run_plan.specs.Stretches.{AreUnshared, Cleared, Shares, arm_read, reads}

-- the rows of these and then of those
pub shares_more : (old mid new : List Bool) (place : ℕ) (is js : List ℕ) → Shares place is old mid → Shares place js mid new → Shares place (is ++ js) old new
shares_more old mid new place is js first second = record {
  long = second.long ∙ first.long;
  each = λ j marked.
      let (between, in_second) = second.each j marked in
      let (before, in_first) = first.each j between in
      (before, λ takes. elim (Contains-append_cases is js j takes) [ inl a ↦ in_first a | inr b ↦ in_second b ]);
}

-- ---- arms

arm_next : (arms : List Arm) (i : ℕ) (a : Arm) → i < length arms → a ≡ get_or arms i a → map arm_read (map filling_of (take i arms)) ++ a.input ∷ [] ≡ map arm_read (map filling_of (take (suc i) arms))
arm_next [] i a within at = absurd (omega (arith, within))
arm_next (b ∷ arms) zero a within at = ap (λ (x : Arm). x.input ∷ []) at
arm_next (b ∷ arms) (suc i) a within at = ap (λ (is : List ℕ). b.input ∷ is) (arm_next arms i a (omega (arith, within)) at)

pub shares_arm : (old mid new : List Bool) (place : ℕ) (arms : List Arm) (i : ℕ) (a : Arm) → i < length arms → a ≡ get_or arms i a
    → Shares place (map arm_read (map filling_of (take i arms))) old mid → Shares place (a.input ∷ []) mid new → Shares place (map arm_read (map filling_of (take (i + 1) arms))) old new
shares_arm old mid new place arms i a within at first second =
    let both = shares_more old mid new place (map arm_read (map filling_of (take i arms))) (a.input ∷ []) first second in
    let same : suc i ≡ i + 1 = omega arith in
    subst (λ (k : ℕ). Shares place (map arm_read (map filling_of (take k arms))) old new) same (subst (λ (is : List ℕ). Shares place is old new) (arm_next arms i a within at) both)

-- ---- steps

-- of the steps before this place none shares rows that are marked, and none of these is the answer
pub record Marked (steps : List Step) (output place : ℕ) (marks : List Bool) : Type 0 where
  pub long : length marks ≡ length steps
  pub no_answer : (i : ℕ) → get_or marks i false ≡ true → output ≢ i
  pub next : (i : ℕ) → get_or marks i false ≡ true → (k : ℕ) (s : Stepping) → k < place → slice_get (map stepping_of steps) k ≡ Some s → Contains (reads s.doing) i → k ≡ i + 1

pub Marked-start : (steps : List Step) (output : ℕ) (all new : List Bool) → length all ≡ length steps → Cleared output all new → Marked steps output 0 new
Marked-start steps output all new is cleared = record {
  long = cleared.long ∙ is;
  no_answer = λ i marked same. (cleared.each i marked).1 (sym same);
  next = λ i marked k s within there takes. absurd (omega (arith, within));
}

get_mapped : (steps : List Step) (k : ℕ) (step : Step) → k < length steps → step ≡ get_or steps k step → slice_get (map stepping_of steps) k ≡ Some (stepping_of step)
get_mapped [] k step within at = absurd (omega (arith, within))
get_mapped (t ∷ steps) zero step within at = ap (λ (x : Step). Some (stepping_of x)) (sym at)
get_mapped (t ∷ steps) (suc k) step within at = get_mapped steps k step (omega (arith, within)) at

beyond_none : (ss : List Stepping) (k : ℕ) (s : Stepping) → length ss ≤ k → slice_get ss k ≡ Some s → ⊥
beyond_none [] k s past there = absurd (cc)
beyond_none (t ∷ ss) zero s past there = absurd (omega (arith, past))
beyond_none (t ∷ ss) (suc k) s past there = beyond_none ss k s (omega (arith, past)) there

same_step : (s t : Stepping) → Some s ≡ Some t → s ≡ t
same_step s t is = cc

pub Marked-next : (steps : List Step) (output place : ℕ) (old new : List Bool) (step : Step) → Marked steps output place old → place < length steps → step ≡ get_or steps place step
    → Shares place (reads (stepping_of step).doing) old new → Marked steps output (place + 1) new
Marked-next steps output place old new step was within at shares = record {
  long = shares.long ∙ was.long;
  no_answer = λ i marked. was.no_answer i (shares.each i marked).0;
  next = λ i marked k s before there takes. elim (cases_lt k place) [
    | inl less ↦ was.next i (shares.each i marked).0 k s less there takes
    | inr not_less ↦
        let here : place ≡ k = omega (arith, before, not_less) in
        let mine : slice_get (map stepping_of steps) k ≡ Some (stepping_of step) = ap (slice_get (map stepping_of steps)) (sym here) ∙ get_mapped steps place step within at in
        let same : s ≡ stepping_of step = same_step s (stepping_of step) (sym there ∙ mine) in
        sym here ∙ (shares.each i marked).1 (subst (λ (t : Stepping). Contains (reads t.doing) i) same takes)
  ];
}

pub Marked-end : (steps : List Step) (output place : ℕ) (marks : List Bool) → Marked steps output place marks → length steps ≤ place → AreUnshared (record { steps = map stepping_of steps; output = output }) marks
Marked-end steps output place marks was past = record {
  long = was.long ∙ sym (length-map steps stepping_of);
  each = λ i marked. record { next = λ k s there takes. was.next i marked k s (inside k s there) there takes; no_answer = was.no_answer i marked };
}
  where
    inside : (k : ℕ) (s : Stepping) → slice_get (map stepping_of steps) k ≡ Some s → k < place
    inside k s there = elim (cases_lt k place) [
      | inl less ↦ less
      | inr not_less ↦ absurd (beyond_none (map stepping_of steps) k s (let a = length-map steps stepping_of in omega (arith, a, past, not_less)) there)
    ]
