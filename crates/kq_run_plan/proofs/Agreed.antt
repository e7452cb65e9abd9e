-- Outcomes that agree on what is read: what follows over those, follows over these.
use Rattle.std.proofs.Common.{◌≡◌, ◌<◌, ◌≤◌, ◌+◌, ℕ, ℤ, zero, suc, Bool, true, false, List, [], ◌∷◌, ◌++◌, Some, length, map, slice_get, refl, sym, ap, ◌∙◌, subst, arith}
use Rattle.std.specs.Prelude.{Contains}
use Rattle.std.specs.Bool.{MatchBool}
use Rattle.std.proofs.lemmas.List.{length_push}
use Rattle.kq_value.specs.Computed.{each}
use Rattle.kq_plan.specs.Plans.{Doing, Filling, Stepping, leaf, one_row, numbers, written, scalar, kept, mapped, cut, counted, sorted, topped, apart, summarized, joined, united, expanded}
use Rattle.kq_run_reshape.specs.Union.{Filled, united as together}
use Rattle.kq_run_gather.specs.kq_eval_row.Val.{surroundings, meaning}
use Rattle.kq_value.specs.declared.schema.Field.{Field}
use Rattle.kq_value.specs.declared.value.Value.{Value}
use Rattle.kq_run_gather.specs.kq_eval_pieces.Operators.{filtered, values_at}
use Rattle.kq_run_plan.specs.declared.outcome.Outcome.{Outcome}
use Rattle.kq_run_plan.specs.declared.outcome.Outcome.TheVariants as outcome
use Rattle.kq_run_plan.specs.Gives.{World, Does, Follows, SortsTo, TopsTo}
use Rattle.kq_run_plan.specs.Grouping.{GroupsTo}
use Rattle.kq_run_plan.specs.Operators.{Taken, cell_in_stage, in_stage, single, tally}
use Rattle.kq_run_plan.specs.Outcomes.{cells_of, is_fault, no_rows, order_in, outcome_at, rows_in}
use Rattle.kq_run_plan.specs.Reshaped.{DiffersTo, JoinsTo, arm_given, columns_before, come_in_stage, expanded_by, range_at}
use Rattle.kq_run_plan.specs.Stretches.{arm_read, reads}
use Rattle.kq_run_plan.proofs.Stretched.{cells_of-append}

-- what holds at the end, or of the rest, where what is known of the rest changes
pub MatchBool-then : {A B : Type 0} (E : Type 0) (b : Bool) → (b ≡ false → A → B) → MatchBool b E A → MatchBool b E B
MatchBool-then E true f e = e
MatchBool-then E false f a = f refl a

-- some step of these takes the rows of this number
pub record TakenBy (ss : List Stepping) (i : ℕ) : Type 0 where
  pub place : ℕ
  pub step : Stepping
  pub there : slice_get ss place ≡ Some step
  pub takes : Contains (reads step.doing) i

pub taken_here : (s : Stepping) (ss : List Stepping) (i : ℕ) → Contains (reads s.doing) i → TakenBy (s ∷ ss) i
taken_here s ss i takes = record { place = 0; step = s; there = refl; takes = takes }

pub taken_later : (s : Stepping) (ss : List Stepping) (i : ℕ) → TakenBy ss i → TakenBy (s ∷ ss) i
taken_later s ss i by = record { place = suc by.place; step = by.step; there = by.there; takes = by.takes }

get_front : (xs ys : List Stepping) (k : ℕ) (x : Stepping) → slice_get xs k ≡ Some x → slice_get (xs ++ ys) k ≡ Some x
get_front [] ys k x is = absurd (cc)
get_front (z ∷ xs) ys zero x is = is
get_front (z ∷ xs) ys (suc k) x is = get_front xs ys k x is

pub taken_front : (ss others : List Stepping) (i : ℕ) → TakenBy ss i → TakenBy (ss ++ others) i
taken_front [] others i by = absurd (none by.place by.there)
  where
    none : (k : ℕ) → slice_get [] k ≡ Some by.step → ⊥
    none k is = absurd (cc)
taken_front (s ∷ ss) others i by = by_place by.place by.there
  where
    by_place : (k : ℕ) → slice_get (s ∷ ss) k ≡ Some by.step → TakenBy (s ∷ (ss ++ others)) i
    by_place zero is = record { place = 0; step = by.step; there = is; takes = by.takes }
    by_place (suc k) is = record { place = suc k; step = by.step; there = get_front ss others k by.step is; takes = by.takes }

pub get_behind : (front ss : List Stepping) (k : ℕ) (s : Stepping) → slice_get ss k ≡ Some s → slice_get (front ++ ss) (length front + k) ≡ Some s
get_behind [] ss k s is = let e : 0 + k ≡ k = omega arith in subst (λ (n : ℕ). slice_get ss n ≡ Some s) (sym e) is
get_behind (t ∷ front) ss k s is =
    let e : suc (length front) + k ≡ suc (length front + k) = omega arith in subst (λ (n : ℕ). slice_get (t ∷ (front ++ ss)) n ≡ Some s) (sym e) (get_behind front ss k s is)

pub taken_behind : (front ss : List Stepping) (i : ℕ) → TakenBy ss i → TakenBy (front ++ ss) i
taken_behind front ss i by = record { place = length front + by.place; step = by.step; there = get_behind front ss by.place by.step by.there; takes = by.takes }

-- ---- one step

-- what holds of an outcome and of the cells of the lets, holds of the same ones
by_one : {x y : Outcome} {vs ws : List Value} (P : Outcome → List Value → Type 0) → x ≡ y → vs ≡ ws → P x vs → P y ws
by_one {x} {y} {vs} {ws} P is are holds = subst (λ (z : Outcome). P z ws) is (subst (λ (us : List Value). P x us) are holds)

module _ (xs ds : List Outcome) (cells : cells_of xs ≡ cells_of ds) where
  abbrev Same : ℕ → Type 0
  Same i = outcome_at xs i ≡ outcome_at ds i

  first_same : (i : ℕ) (is : List ℕ) → ((j : ℕ) → Contains (i ∷ is) j → Same j) → Same i
  first_same i is all = all i (0, omega arith, refl)

  arms_same : (arms : List Filling) → ((j : ℕ) → Contains (map arm_read arms) j → Same j) → map (arm_given xs) arms ≡ map (arm_given ds) arms
  arms_same [] all = refl
  arms_same (a ∷ arms) all =
      let first : arm_given xs a ≡ arm_given ds a = ap (λ (o : Outcome). (rows_in o, a.1)) (first_same (arm_read a) (map arm_read arms) all) in
      let rest = arms_same arms (λ j at. all j (suc at.0, omega (arith, at.1), at.2)) in
      ap (λ (f : Filled). f ∷ map (arm_given xs) arms) first ∙ ap (λ (fs : List Filled). arm_given ds a ∷ fs) rest

  does_same : (w : World) (now : ℤ) (before : List Stepping) (stage : ℕ) (cs : List Field) (d : Doing) (o : Outcome) → ((j : ℕ) → Contains (reads d) j → Same j)
      → Does w now before xs stage cs d o → Does w now before ds stage cs d o
  does_same w now before stage cs (leaf kind name) o all does = does
  does_same w now before stage cs (one_row es) o all does = subst (λ (vs : List Value). o ≡ in_stage stage false (single es (surroundings now vs))) cells does
  does_same w now before stage cs (written rows) o all does = does
  does_same w now before stage cs (scalar e) o all does = subst (λ (vs : List Value). o ≡ cell_in_stage stage (meaning e (surroundings now vs) [])) cells does
  does_same w now before stage cs (numbers from to by) o all does = subst (λ (vs : List Value). o ≡ come_in_stage stage (range_at from to by (surroundings now vs))) cells does
  does_same w now before stage cs (kept i e) o all does =
      by_one (λ x vs. o ≡ in_stage stage (order_in x) (filtered e (surroundings now vs) (rows_in x))) (first_same i [] all) cells does
  does_same w now before stage cs (mapped i es) o all does =
      by_one (λ x vs. o ≡ in_stage stage (order_in x) (each (values_at es (surroundings now vs)) (rows_in x))) (first_same i [] all) cells does
  does_same w now before stage cs (cut i n) o all does = by_one (λ x vs. Taken (order_in x) (rows_in x) n o) (first_same i [] all) cells does
  does_same w now before stage cs (counted i) o all does = by_one (λ x vs. o ≡ outcome.Table false (tally (rows_in x))) (first_same i [] all) cells does
  does_same w now before stage cs (sorted i ks) o all does = by_one (λ x vs. SortsTo ks (surroundings now vs) (rows_in x) stage o) (first_same i [] all) cells does
  does_same w now before stage cs (topped i n k) o all does = by_one (λ x vs. TopsTo n k (surroundings now vs) (rows_in x) stage o) (first_same i [] all) cells does
  does_same w now before stage cs (apart i is) o all does = by_one (λ x vs. DiffersTo is (rows_in x) o) (first_same i [] all) cells does
  does_same w now before stage cs (joined kind i j on) o all does =
      let left = by_one (λ x vs. JoinsTo kind on (columns_before before i) (columns_before before j) (rows_in x) (rows_in (outcome_at xs j)) o) (first_same i (j ∷ []) all) cells does in
      by_one (λ x vs. JoinsTo kind on (columns_before before i) (columns_before before j) (rows_in (outcome_at ds i)) (rows_in x) o) (all j (1, omega arith, refl)) cells left
  does_same w now before stage cs (united arms) o all does = does ∙ ap (λ (fs : List Filled). outcome.Table false (together cs fs)) (arms_same arms all)
  does_same w now before stage cs (expanded i e c t) o all does =
      by_one (λ x vs. o ≡ in_stage stage false (expanded_by e (surroundings now vs) c t (rows_in x))) (first_same i [] all) cells does
  does_same w now before stage cs (summarized i es gs) o all does =
      by_one (λ x vs. GroupsTo es gs cs (surroundings now vs) (rows_in x) stage o) (first_same i [] all) cells does

-- ---- more outcomes

pub outcome_at-past : (xs : List Outcome) (i : ℕ) → length xs ≤ i → outcome_at xs i ≡ no_rows
outcome_at-past [] i past = refl
outcome_at-past (x ∷ xs) zero past = absurd (omega (arith, past))
outcome_at-past (x ∷ xs) (suc i) past = outcome_at-past xs i (omega (arith, past))

pub same_push : (xs ds : List Outcome) (x : Outcome) (i : ℕ) → length xs ≡ length ds → outcome_at xs i ≡ outcome_at ds i → outcome_at (xs ++ x ∷ []) i ≡ outcome_at (ds ++ x ∷ []) i
same_push [] [] x i long same = refl
same_push [] (d ∷ ds) x i long same = absurd (omega (arith, long))
same_push (y ∷ xs) [] x i long same = absurd (omega (arith, long))
same_push (y ∷ xs) (d ∷ ds) x zero long same = same
same_push (y ∷ xs) (d ∷ ds) x (suc i) long same = same_push xs ds x i (omega (arith, long)) same

pub cells_more : (xs ds more others : List Outcome) → cells_of xs ≡ cells_of ds → cells_of more ≡ cells_of others → cells_of (xs ++ more) ≡ cells_of (ds ++ others)
cells_more xs ds more others a b =
    cells_of-append xs more ∙ ap (λ (vs : List Value). vs ++ cells_of more) a ∙ ap (λ (vs : List Value). cells_of ds ++ vs) b ∙ sym (cells_of-append ds others)

-- both are as long, and outcomes that stand behind others in their places differ no more
skips : (p q : List Outcome) (o : Outcome) (i : ℕ) → length p ≡ length q → (i < length p → ⊥) → outcome_at (p ++ o ∷ []) i ≡ outcome_at (q ++ o ∷ []) i
skips [] [] o i long past = refl
skips [] (y ∷ q) o i long past = absurd (omega (arith, long))
skips (x ∷ p) [] o i long past = absurd (omega (arith, long))
skips (x ∷ p) (y ∷ q) o zero long past = absurd (past (omega arith))
skips (x ∷ p) (y ∷ q) o (suc i) long past = skips p q o i (omega (arith, long)) (λ within. past (omega (arith, within)))

pub same_beside : (xs ds p q : List Outcome) (o : Outcome) (i : ℕ) → length xs ≡ length ds → length p ≡ length q → outcome_at xs i ≡ outcome_at ds i → (length xs ≤ i → i < length xs + length p → ⊥)
    → outcome_at (xs ++ (p ++ o ∷ [])) i ≡ outcome_at (ds ++ (q ++ o ∷ [])) i
same_beside [] [] p q o i long many same past = skips p q o i many (λ within. past (omega arith) (omega (arith, within)))
same_beside [] (d ∷ ds) p q o i long many same past = absurd (omega (arith, long))
same_beside (x ∷ xs) [] p q o i long many same past = absurd (omega (arith, long))
same_beside (x ∷ xs) (d ∷ ds) p q o zero long many same past = same
same_beside (x ∷ xs) (d ∷ ds) p q o (suc i) long many same past = same_beside xs ds p q o i (omega (arith, long)) many same (λ a b. past (omega (arith, a)) (omega (arith, b)))

-- ---- all steps

pub follows_same : (w : World) (now : ℤ) (before ss : List Stepping) (xs ds : List Outcome) (output : ℕ) (o : Outcome)
    → length xs ≡ length ds → cells_of xs ≡ cells_of ds → outcome_at xs output ≡ outcome_at ds output → ((i : ℕ) → TakenBy ss i → outcome_at xs i ≡ outcome_at ds i)
    → Follows w now before xs ss output o → Follows w now before ds ss output o
follows_same w now before [] xs ds output o long cells answer same is = is ∙ answer
follows_same w now before (s ∷ ss) xs ds output o long cells answer same (x, case, rest) =
    let a = length_push xs x in
    let b = length_push ds x in (
      x,
      does_same xs ds cells w now before s.stage s.columns s.doing x (λ i takes. same i (taken_here s ss i takes)) case,
      MatchBool-then _ (is_fault x)
          (λ no_fault more. follows_same w now (before ++ s ∷ []) ss (xs ++ x ∷ []) (ds ++ x ∷ []) output o (omega (arith, a, b, long))
          (cells_more xs ds (x ∷ []) (x ∷ []) cells refl) (same_push xs ds x output long answer)
          (λ i by. same_push xs ds x i long (same i (taken_later s ss i by))) more)
          rest,
    )
