-- Stretches by the numbers of their steps, and a plan between them as the code has it.
use Rattle.std.proofs.Common.{◌≡◌, ◌<◌, ◌≤◌, ◌+◌, ◌-◌, inl, inr, ℕ, ℤ, zero, suc, Bool, true, false, List, [], ◌∷◌, ◌++◌, Option, Some, length, take, drop, map, slice_get, refl, sym, ap, ◌∙◌, subst, arith, append_assoc}
use Rattle.std.specs.Prelude.{replicate}
use Rattle.std.proofs.lemmas.Bool.{cases_lt}
use Rattle.std.proofs.lemmas.List.{length_push, length-map, length-append, length-replicate, map-append, take-append-drop}
use Rattle.std.proofs.Math.ListN.{drop_of_length-le}
use Rattle.kq_plan.specs.declared.plan.Step.{Step}
use Rattle.kq_plan.specs.Names.{Known}
use Rattle.kq_plan.specs.Plans.{Planned, Stepping, stepping_of}
use Rattle.kq_value.specs.Typed.{IsMoment}
use Rattle.kq_run_plan.specs.declared.outcome.Outcome.{Outcome}
use Rattle.kq_run_plan.specs.Gives.{World, Follows}
use Rattle.kq_run_plan.specs.Outcomes.{is_fault, no_rows, outcome_at}
use Rattle.kq_run_plan.specs.Stretches.{AreNext, AreUnshared, FlowsOn, IsStretch, IsUnshared, Linked, planned_by}
use Rattle.kq_run_plan.proofs.Midway.{Midway, Midway-end, Midway-fault, Midway-more, Midway-next}

-- ---- where a stretch ends

pub stretch_more : (ss : List Stepping) (marks : List Bool) (at end : ℕ) → IsStretch ss marks at end → end < length ss → FlowsOn ss marks (end - 1) → IsStretch ss marks at (end + 1)
stretch_more ss marks at end was within goes =
    let some = was.some in
    record {
      some = omega (arith, some);
      within = omega (arith, within);
      goes_on = λ m from to. elim (cases_lt (m + 1) end) [
        | inl before ↦ was.goes_on m from before
        | inr there ↦ let same : end - 1 ≡ m = omega (arith, some, from, to, there) in subst (FlowsOn ss marks) same goes
      ];
    }

get_at : (front : List Stepping) (s : Stepping) (others : List Stepping) → slice_get (front ++ s ∷ others) (length front) ≡ Some s
get_at [] s others = refl
get_at (t ∷ front) s others = get_at front s others

get_next : (front : List Stepping) (s t : Stepping) (others : List Stepping) → slice_get (front ++ s ∷ t ∷ others) (length front + 1) ≡ Some t
get_next [] s t others = let e : 0 + 1 ≡ 1 = omega arith in subst (λ (n : ℕ). slice_get (s ∷ t ∷ others) n ≡ Some t) (sym e) refl
get_next (u ∷ front) s t others =
    let e : suc (length front) + 1 ≡ suc (length front + 1) = omega arith in
    subst (λ (n : ℕ). slice_get (u ∷ (front ++ s ∷ t ∷ others)) n ≡ Some t) (sym e) (get_next front s t others)

-- steps that are linked by their numbers are linked as a list
linked_list : (all front ss others : List Stepping) (marks : List Bool) (n : ℕ) → all ≡ front ++ (ss ++ others) → length front ≡ n → 0 < length ss
    → ((m : ℕ) → n ≤ m → m + 1 < n + length ss → FlowsOn all marks m) → Linked n ss
linked_list all front [] others marks n is long some goes = absurd (omega (arith, some))
linked_list all front (s ∷ []) others marks n is long some goes = tt
linked_list all front (s ∷ t ∷ ss) others marks n is long some goes =
    let first = goes n (omega arith) (omega arith) in
    let here : slice_get all n ≡ Some s = ap (λ (zs : List Stepping). slice_get zs n) is ∙ ap (slice_get (front ++ s ∷ t ∷ (ss ++ others))) (sym long) ∙ get_at front s (t ∷ (ss ++ others)) in
    let next : slice_get all (n + 1) ≡ Some t = ap (λ (zs : List Stepping). slice_get zs (n + 1)) is ∙ ap (λ (k : ℕ). slice_get (front ++ s ∷ t ∷ (ss ++ others)) (k + 1)) (sym long) ∙ get_next front s t (ss ++ others) in
    let linked = first.linked s t here next in
    let more : all ≡ (front ++ s ∷ []) ++ ((t ∷ ss) ++ others) = is ∙ sym (append_assoc front (s ∷ []) ((t ∷ ss) ++ others)) in
    let longer = length_push front s in
    (linked.0, linked.1, linked_list all (front ++ s ∷ []) (t ∷ ss) others marks (suc n) more (omega (arith, longer, long)) (omega arith) (λ m from to. goes m (omega (arith, from)) (omega (arith, to))))

-- ---- parts of lists

take_parts : {A : Type 0} (xs : List A) (at n : ℕ) → take at xs ++ take n (drop at xs) ≡ take (at + n) xs
take_parts xs zero n = let e : n ≡ 0 + n = omega arith in ap (λ (k : ℕ). take k xs) e
take_parts [] (suc at) zero = let e : suc at + 0 ≡ suc at = omega arith in rw e refl
take_parts [] (suc at) (suc n) = let e : suc at + suc n ≡ suc (at + suc n) = omega arith in rw e refl
take_parts {A} (x ∷ xs) (suc at) n = let e : suc at + n ≡ suc (at + n) = omega arith in rw e (ap (λ (zs : List A). x ∷ zs) (take_parts xs at n))

drop_parts : {A : Type 0} (xs : List A) (at n : ℕ) → drop n (drop at xs) ≡ drop (at + n) xs
drop_parts xs zero n = let e : n ≡ 0 + n = omega arith in ap (λ (k : ℕ). drop k xs) e
drop_parts [] (suc at) zero = let e : suc at + 0 ≡ suc at = omega arith in rw e refl
drop_parts [] (suc at) (suc n) = let e : suc at + suc n ≡ suc (at + suc n) = omega arith in rw e refl
drop_parts (x ∷ xs) (suc at) n = let e : suc at + n ≡ suc (at + n) = omega arith in rw e (drop_parts xs at n)

take_long : {A : Type 0} (xs : List A) (n : ℕ) → n ≤ length xs → length (take n xs) ≡ n
take_long xs zero within = refl
take_long [] (suc n) within = absurd (omega (arith, within))
take_long (x ∷ xs) (suc n) within = ap suc (take_long xs n (omega (arith, within)))

drop_long : {A : Type 0} (xs : List A) (n : ℕ) → n ≤ length xs → length (drop n xs) + n ≡ length xs
drop_long xs zero within = omega arith
drop_long [] (suc n) within = absurd (omega (arith, within))
drop_long (x ∷ xs) (suc n) within = let e = drop_long xs n (omega (arith, within)) in omega (arith, e)

part_long : {A : Type 0} (xs : List A) (at end : ℕ) → at ≤ end → end ≤ length xs → length (take (end - at) (drop at xs)) ≡ end - at
part_long xs at end from to = let e = drop_long xs at (omega (arith, from, to)) in take_long (drop at xs) (end - at) (omega (arith, from, to, e))

-- ---- midway, as the code has it

module _ (known : List ℕ → Option Known) (w : World) (now : ℤ) (p : Planned) where
  fault_of : (before stretch others : List Stepping) (xs : List Outcome) → Midway known w now p before (stretch ++ others) xs → 0 < length stretch → (last : ℕ) (o : Outcome) → last ≡ length xs + (length stretch - 1)
      → Follows w now before xs stretch last o → is_fault o ≡ true → Follows w now [] [] p.steps p.output o
  fault_of before [] others xs here some last o at follows fault = absurd (omega (arith, some))
  fault_of before (s ∷ ss) others xs here some last o at follows fault = Midway-fault known w now p before s ss others xs here last o (omega (arith, at)) follows fault

  more_of : IsMoment now → (before stretch others : List Stepping) (xs : List Outcome) → Midway known w now p before (stretch ++ others) xs → (n k last : ℕ) (o : Outcome) → length stretch ≡ k + 1 → last ≡ length xs + (length stretch - 1)
      → Linked n stretch → ((m : ℕ) → length before ≤ m → m + 1 < length before + length stretch → IsUnshared p m) → Follows w now before xs stretch last o → is_fault o ≡ false
      → Midway known w now p (before ++ stretch) others (xs ++ (replicate k no_rows ++ o ∷ []))
  more_of moment before [] others xs here n k last o long at linked unshared follows no_fault = absurd (omega (arith, long))
  more_of moment before (s ∷ ss) others xs here n k last o long at linked unshared follows no_fault =
      let same : length ss ≡ k = omega (arith, long) in
      subst (λ (j : ℕ). Midway known w now p (before ++ (s ∷ ss)) others (xs ++ (replicate j no_rows ++ o ∷ []))) same
      (Midway-more known w now p before s ss others xs here moment n last o (omega (arith, at)) linked unshared follows no_fault)

abbrev pub before_of : List Step → ℕ → List Stepping
before_of steps at = map stepping_of (take at steps)

abbrev pub rest_of : List Step → ℕ → List Stepping
rest_of steps at = map stepping_of (drop at steps)

abbrev pub part_of : List Step → ℕ → ℕ → List Stepping
part_of steps at end = map stepping_of (take (end - at) (drop at steps))

-- after the first steps, for which these outcomes are kept
abbrev pub IsAt : (List ℕ → Option Known) → World → ℤ → List Step → ℕ → ℕ → List Outcome → Type 0
IsAt known w now steps output at xs = (length xs ≡ at) × (at ≤ length steps) × Midway known w now (planned_by steps output) (before_of steps at) (rest_of steps at) xs

module _ (steps : List Step) (marks : List Bool) (at end : ℕ) (is : IsStretch (map stepping_of steps) marks at end) where
  pub to_end : end ≤ length steps
  to_end = let a = is.within in let b = length-map steps stepping_of in omega (arith, a, b)

  part_many : length (part_of steps at end) ≡ end - at
  part_many = let a = is.some in length-map (take (end - at) (drop at steps)) stepping_of ∙ part_long steps at end (omega (arith, a)) to_end

  front_many : length (before_of steps at) ≡ at
  front_many = let a = is.some in length-map (take at steps) stepping_of ∙ take_long steps at (let b = to_end in omega (arith, a, b))

  here_to_end : at + (end - at) ≡ end
  here_to_end = let a = is.some in omega (arith, a)

  rest_parts : rest_of steps at ≡ part_of steps at end ++ rest_of steps end
  rest_parts =
      let back : drop (end - at) (drop at steps) ≡ drop end steps = drop_parts steps at (end - at) ∙ ap (λ (k : ℕ). drop k steps) here_to_end in
      ap (map stepping_of) (sym (take-append-drop (end - at) (drop at steps)))
      ∙ map-append stepping_of (take (end - at) (drop at steps)) (drop (end - at) (drop at steps))
      ∙ ap (λ (zs : List Step). part_of steps at end ++ map stepping_of zs) back

  front_parts : before_of steps at ++ part_of steps at end ≡ before_of steps end
  front_parts =
      sym (map-append stepping_of (take at steps) (take (end - at) (drop at steps)))
      ∙ ap (map stepping_of) (take_parts steps at (end - at) ∙ ap (λ (k : ℕ). take k steps) here_to_end)

  whole : map stepping_of steps ≡ before_of steps at ++ (part_of steps at end ++ rest_of steps end)
  whole =
      ap (map stepping_of) (sym (take-append-drop at steps)) ∙ map-append stepping_of (take at steps) (drop at steps) ∙ ap (λ (zs : List Stepping). before_of steps at ++ zs) rest_parts

  pub stretch_linked : Linked at (part_of steps at end)
  stretch_linked =
      let a = is.some in
      let b = part_many in
      linked_list (map stepping_of steps) (before_of steps at) (part_of steps at end) (rest_of steps end) marks at whole front_many (omega (arith, a, b)) (λ m from to. is.goes_on m from (omega (arith, to, a, b)))

  module _ (known : List ℕ → Option Known) (w : World) (now : ℤ) (output : ℕ) (xs : List Outcome) (here : IsAt known w now steps output at xs) where
    here_parts : Midway known w now (planned_by steps output) (before_of steps at) (part_of steps at end ++ rest_of steps end) xs
    here_parts = subst (λ (zs : List Stepping). Midway known w now (planned_by steps output) (before_of steps at) zs xs) rest_parts here.2

    pub IsAt-next : AreNext known w (before_of steps at) xs (part_of steps at end)
    IsAt-next = Midway-next known w now (planned_by steps output) (before_of steps at) (part_of steps at end) (rest_of steps end) xs here_parts

    pub IsAt-linked : Linked (length xs) (part_of steps at end)
    IsAt-linked = subst (λ (n : ℕ). Linked n (part_of steps at end)) (sym here.0) stretch_linked

    last_of_part : (length xs + (length (take (end - at) (drop at steps)) - 1)) ≡ length xs + (length (part_of steps at end) - 1)
    last_of_part = ap (λ (n : ℕ). length xs + (n - 1)) (sym (length-map (take (end - at) (drop at steps)) stepping_of))

    module _ (o : Outcome) (follows : Follows w now (before_of steps at) xs (part_of steps at end) (length xs + (length (take (end - at) (drop at steps)) - 1)) o) where
      -- a fault is what the plan comes to
      pub IsAt-fault : is_fault o ≡ true → Follows w now [] [] (map stepping_of steps) output o
      IsAt-fault fault =
          let a = is.some in
          let b = part_many in
          fault_of known w now (planned_by steps output) (before_of steps at) (part_of steps at end) (rest_of steps end) xs here_parts (omega (arith, a, b)) _ o last_of_part follows fault

      -- the plan goes on behind a stretch, with no rows in place of those in between
      pub IsAt-more : IsMoment now → AreUnshared (planned_by steps output) marks → is_fault o ≡ false → IsAt known w now steps output end ((xs ++ replicate (end - at - 1) no_rows) ++ o ∷ [])
      IsAt-more moment unshared no_fault =
          let a = is.some in
          let b = part_many in
          let c = front_many in
          let k = end - at - 1 in
          let nones = replicate k no_rows in
          let all = more_of known w now (planned_by steps output) moment (before_of steps at) (part_of steps at end) (rest_of steps end) xs here_parts at k _ o (omega (arith, a, b)) last_of_part stretch_linked
          (λ m from to. unshared.each m (is.goes_on m (omega (arith, from, c)) (omega (arith, to, b, c))).unshared) follows no_fault in
          let moved = subst (λ (bs : List Stepping). Midway known w now (planned_by steps output) bs (rest_of steps end) (xs ++ (nones ++ o ∷ []))) front_parts all in
          let kept = subst (λ (ys : List Outcome). Midway known w now (planned_by steps output) (before_of steps end) (rest_of steps end) ys) (sym (append_assoc xs nones (o ∷ []))) moved in
          let d = length_push (xs ++ nones) o in
          let e = length-append xs nones in
          let f = length-replicate k no_rows in
          let g = here.0 in
          (omega (arith, a, d, e, f, g), to_end, kept)

-- after the last step, the step of the output decides
pub IsAt-end : (known : List ℕ → Option Known) (w : World) (now : ℤ) (steps : List Step) (output at : ℕ) (xs : List Outcome) (o : Outcome) → IsAt known w now steps output at xs → length steps ≤ at → o ≡ outcome_at xs output
    → Follows w now [] [] (map stepping_of steps) output o
IsAt-end known w now steps output at xs o here past is =
    let nothing : rest_of steps at ≡ [] = ap (map stepping_of) (drop_of_length-le steps past) in
    let all = subst (λ (zs : List Stepping). Midway known w now (planned_by steps output) (before_of steps at) zs xs) nothing here.2 in
    Midway-end known w now (planned_by steps output) (before_of steps at) xs o all is
