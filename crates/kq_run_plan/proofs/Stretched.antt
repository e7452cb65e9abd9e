-- From what a stretch comes to as a whole, to what each of its steps gives.
use Rattle.std.proofs.Common.{◌≡◌, ◌<◌, ◌≤◌, ◌+◌, ◌-◌, ℕ, ℤ, zero, suc, Bool, true, false, List, [], ◌∷◌, ◌++◌, Some, None, length, get_or, map, refl, sym, ap, ◌∙◌, subst, arith, append-nil, length-append}
use Rattle.std.proofs.lemmas.Bool.{false≢true}
use Rattle.std.proofs.lemmas.List.{length_push, length-map}
use Rattle.kq_value.specs.Computed.{Computed, Is, Overflow, each}
use Rattle.kq_plan.specs.declared.plan.Step.{Step}
use Rattle.kq_plan.specs.Plans.{Doing, Stepping, doing_of, stepping_of, leaf, one_row, numbers, written, scalar, kept, mapped, cut, counted, sorted, topped, apart, summarized, joined, united, expanded}
use Rattle.kq_run_gather.specs.kq_eval_row.Val.{Surroundings, surroundings}
use Rattle.kq_run_gather.specs.kq_run_row_operators.Operators.{Rowwise, applied, keeping, making, mv_expanding}
use Rattle.kq_run_gather.specs.kq_run_row_operators.Ran.{Ran, came, failed, later, ran, staged}
use Rattle.kq_value.specs.declared.schema.Field.{Field}
use Rattle.kq_value.specs.declared.value.Value.{Value}
use Rattle.kq_run_gather.specs.kq_eval_pieces.Operators.{filtered, values_at}
use Rattle.kq_run_plan.specs.declared.outcome.Outcome.{Outcome}
use Rattle.kq_run_plan.specs.declared.outcome.Outcome.TheVariants as outcome
use Rattle.kq_run_plan.specs.declared.sinks.Ended.{Ended}
use Rattle.kq_run_plan.specs.declared.sinks.Ended.TheVariants as ended
use Rattle.kq_run_plan.specs.Ended.{EndsAs}
use Rattle.kq_run_plan.specs.Gives.{World, Case, Does, Follows, around}
use Rattle.kq_run_plan.specs.Operators.{in_stage, tally}
use Rattle.std.specs.Bool.{MatchBool}
use Rattle.kq_run_plan.specs.Outcomes.{Row, cells_of, is_fault, order_in, order_of, outcome_at, rows_in, rows_of}
use Rattle.kq_run_plan.specs.Reshaped.{expanded_by}
use Rattle.kq_run_gather.proofs.Stepped.{failed_in_steps, last_step}
use Rattle.kq_run_gather.specs.Steps.{is_rowwise, last_of, operator_in, operators_of, stage_at}
use Rattle.kq_run_plan.specs.Stretches.{Closes, ClosesWith, ComesTo, EndsIn, Linked, flows_into, order_after, order_by}

-- ---- outcomes

pub outcome_at-end : (done : List Outcome) (x : Outcome) → outcome_at (done ++ x ∷ []) (length done) ≡ x
outcome_at-end [] x = refl
outcome_at-end (y ∷ done) x = outcome_at-end done x

pub cells_of-append : (xs ys : List Outcome) → cells_of (xs ++ ys) ≡ cells_of xs ++ cells_of ys
cells_of-append [] ys = refl
cells_of-append (outcome.Table ordered rows ∷ xs) ys = cells_of-append xs ys
cells_of-append (outcome.Cell v ∷ xs) ys = ap (λ (vs : List Value). v ∷ vs) (cells_of-append xs ys)
cells_of-append (outcome.Overflow stage ∷ xs) ys = cells_of-append xs ys
cells_of-append (outcome.Full limit ∷ xs) ys = cells_of-append xs ys

cells_of-table : (done : List Outcome) (ordered : Bool) (rows : List Row) → cells_of (done ++ outcome.Table ordered rows ∷ []) ≡ cells_of done
cells_of-table done ordered rows = cells_of-append done (outcome.Table ordered rows ∷ []) ∙ append-nil (cells_of done)

-- ---- row-wise steps

same_input : (i j : ℕ) → Some i ≡ Some j → i ≡ j
same_input i j is = cc

-- what a step gives that makes its rows of one row at a time
record GoesByRows (w : World) (now : ℤ) (before : List Stepping) (done : List Outcome) (stage : ℕ) (cs : List Field) (d : Doing) (i : ℕ) : Type 0 where
  operator : Rowwise
  is : operator_in d ≡ operator ∷ []
  does : Does w now before done stage cs d (in_stage stage (order_by d (order_of done i)) (applied operator (around now done) (rows_of done i)))

goes_by_rows : (w : World) (now : ℤ) (before : List Stepping) (done : List Outcome) (stage : ℕ) (cs : List Field) (d : Doing) (i : ℕ) → is_rowwise d ≡ true → flows_into d ≡ Some i → GoesByRows w now before done stage cs d i
goes_by_rows w now before done stage cs (kept j e) i wise from =
    subst (GoesByRows w now before done stage cs (kept j e)) (same_input j i from) (record { operator = keeping e; is = refl; does = refl })
goes_by_rows w now before done stage cs (mapped j es) i wise from =
    subst (GoesByRows w now before done stage cs (mapped j es)) (same_input j i from) (record { operator = making es; is = refl; does = refl })
goes_by_rows w now before done stage cs (expanded j e c t) i wise from =
    subst (GoesByRows w now before done stage cs (expanded j e c t)) (same_input j i from) (record { operator = mv_expanding e c t; is = refl; does = refl })
goes_by_rows w now before done stage cs d i wise from = absurd (false≢true wise)

-- ---- the last step

staged_alone : (c : Computed (List Row)) (ordered : Bool) (stages : ℕ → ℕ) (o : Outcome) → EndsIn (λ rows p. p ≡ outcome.Table ordered rows) stages (staged c came) o → o ≡ in_stage (stages 0) ordered c
staged_alone (Is rows) ordered stages o e = e
staged_alone Overflow ordered stages o e = e

module _ (w : World) (now : ℤ) (before : List Stepping) (done : List Outcome) (cs : List Field) (stages : ℕ → ℕ) (o : Outcome) where
  abbrev LastDoes : Doing → ℕ → Type 0
  LastDoes d i =
      EndsIn (Closes d (stages 0) cs (around now done) (order_by d (order_of done i))) stages (ran (operator_in d ++ []) (around now done) (rows_of done i)) o
      → Does w now before done (stages 0) cs d o

  last_does : (d : Doing) (i : ℕ) → flows_into d ≡ Some i → LastDoes d i
  last_does (kept j e) i from =
      subst (LastDoes (kept j e)) (same_input j i from) (λ ends. staged_alone (filtered e (around now done) (rows_of done j)) (order_of done j) stages o ends)
  last_does (mapped j es) i from =
      subst (LastDoes (mapped j es)) (same_input j i from) (λ ends. staged_alone (each (values_at es (around now done)) (rows_of done j)) (order_of done j) stages o ends)
  last_does (expanded j e c t) i from =
      subst (LastDoes (expanded j e c t)) (same_input j i from) (λ ends. staged_alone (expanded_by e (around now done) c t (rows_of done j)) false stages o ends)
  last_does (counted j) i from = subst (LastDoes (counted j)) (same_input j i from) (λ ends. ends)
  last_does (summarized j es gs) i from = subst (LastDoes (summarized j es gs)) (same_input j i from) (λ ends. ends)
  last_does (leaf kind name) i from = absurd (cc)
  last_does (one_row es) i from = absurd (cc)
  last_does (numbers from to by) i is = absurd (cc)
  last_does (written rows) i from = absurd (cc)
  last_does (scalar e) i from = absurd (cc)
  last_does (cut j n) i from = absurd (cc)
  last_does (sorted j ks) i from = absurd (cc)
  last_does (topped j n k) i from = subst (LastDoes (topped j n k)) (same_input j i from) (λ ends. ends)
  last_does (apart j is) i from = subst (LastDoes (apart j is)) (same_input j i from) (λ ends. ends)
  last_does (joined kind j k on) i from = absurd (cc)
  last_does (united arms) i from = absurd (cc)

-- ---- a whole stretch

-- the outcome of a step behind which no others follow
pub follows_alone : (w : World) (now : ℤ) (before : List Stepping) (done : List Outcome) (s : Stepping) (last : ℕ) (o : Outcome) → last ≡ length done → Case w now before done s o → Follows w now before done (s ∷ []) last o
follows_alone w now before done s last o is case = (o, case, by_end o refl)
  where
    there : o ≡ outcome_at (done ++ o ∷ []) last
    there = sym (ap (outcome_at (done ++ o ∷ [])) is ∙ outcome_at-end done o)

    by_end : (p : Outcome) → p ≡ o → MatchBool (is_fault p) (o ≡ o) (o ≡ outcome_at (done ++ o ∷ []) last)
    by_end (outcome.Table ordered rows) same = there
    by_end (outcome.Cell v) same = there
    by_end (outcome.Overflow stage) same = refl
    by_end (outcome.Full limit) same = refl

unlater : (these : List Row → Outcome → Type 0) (s : Stepping) (ss : List Stepping) (r : Ran) (o : Outcome) → EndsIn these (stage_at (s ∷ ss)) (later r) o → EndsIn these (stage_at ss) r o
unlater these s ss (came rows) o e = e
unlater these s ss (failed n) o e = e

-- the first of several steps, with what the others are known to follow
by_first : (w : World) (now : ℤ) (before : List Stepping) (done : List Outcome) (s : Stepping) (ss : List Stepping) (last : ℕ) (o : Outcome) (these : List Row → Outcome → Type 0) (ordered : Bool) (others : List Row → Ran) (c : Computed (List Row))
    → Case w now before done s (in_stage s.stage ordered c)
    → ((rows : List Row) → EndsIn these (stage_at ss) (others rows) o → Follows w now (before ++ s ∷ []) (done ++ outcome.Table ordered rows ∷ []) ss last o)
    → EndsIn these (stage_at (s ∷ ss)) (staged c others) o → Follows w now before done (s ∷ ss) last o
by_first w now before done s ss last o these ordered others (Is rows) case more e = (outcome.Table ordered rows, case, more rows (unlater these s ss (others rows) o e))
by_first w now before done s ss last o these ordered others Overflow case more e = (outcome.Overflow s.stage, case, e)

-- what the others come to, over the rows of the one before them
module _ (now : ℤ) (done : List Outcome) (ss : List Stepping) (o : Outcome) (ordered : Bool) (rows : List Row) where
  abbrev Over : Outcome → List Value → Type 0
  Over x vs = ComesTo ss (surroundings now vs) (order_in x) (ran (operators_of ss) (surroundings now vs) (rows_in x)) o

  over_more : Over (outcome.Table ordered rows) (cells_of done)
      → ComesTo ss (around now (done ++ outcome.Table ordered rows ∷ [])) (order_of (done ++ outcome.Table ordered rows ∷ []) (length done)) (ran (operators_of ss) (around now (done ++ outcome.Table ordered rows ∷ [])) (rows_of (done ++ outcome.Table ordered rows ∷ []) (length done))) o
  over_more e =
      let x = outcome.Table ordered rows in
      let first = subst (λ (vs : List Value). Over x vs) (sym (cells_of-table done ordered rows)) e in
      subst (λ (y : Outcome). Over y (cells_of (done ++ x ∷ []))) (sym (outcome_at-end done x)) first

pub stretch_follows : (w : World) (now : ℤ) (before : List Stepping) (done : List Outcome) (s : Stepping) (ss : List Stepping) (i last : ℕ) (o : Outcome)
    → flows_into s.doing ≡ Some i → Linked (length done) (s ∷ ss) → last ≡ length done + length ss
    → ComesTo (s ∷ ss) (around now done) (order_of done i) (ran (operators_of (s ∷ ss)) (around now done) (rows_of done i)) o
    → Follows w now before done (s ∷ ss) last o
stretch_follows w now before done s [] i last o from linked is e =
    follows_alone w now before done s last o (omega (arith, is)) (last_does w now before done s.columns (stage_at (s ∷ [])) o s.doing i from e)
stretch_follows w now before done s (t ∷ ss) i last o from linked is e =
    let g = goes_by_rows w now before done s.stage s.columns s.doing i linked.0 from in
    let ordered = order_by s.doing (order_of done i) in
    let these = ClosesWith (last_of (t ∷ ss)) (around now done) (order_after (t ∷ ss) ordered) in
    let others = ran (operators_of (t ∷ ss)) (around now done) in
    let whole = subst (λ (os : List Rowwise). EndsIn these (stage_at (s ∷ t ∷ ss)) (ran (os ++ operators_of (t ∷ ss)) (around now done) (rows_of done i)) o) g.is e in
    by_first w now before done s (t ∷ ss) last o these ordered others (applied g.operator (around now done) (rows_of done i)) g.does
    (λ rows ends.
    let x = outcome.Table ordered rows in
    let long : length (done ++ x ∷ []) ≡ suc (length done) = length_push done x ∙ omega arith in
    stretch_follows w now (before ++ s ∷ []) (done ++ x ∷ []) t ss (length done) last o linked.1
    (subst (λ (n : ℕ). Linked n (t ∷ ss)) (sym long) linked.2) (omega (arith, is, long)) (over_more now done (t ∷ ss) o ordered rows ends))
    whole

-- ---- a stretch as the code has it

rowwise_flows : (d : Doing) → is_rowwise d ≡ true → flows_into d ≡ None → ⊥
rowwise_flows (kept i e) wise none = absurd (cc)
rowwise_flows (mapped i es) wise none = absurd (cc)
rowwise_flows (expanded i e c t) wise none = absurd (cc)
rowwise_flows d wise none = false≢true wise

module _ (w : World) (now : ℤ) (before : List Stepping) (done : List Outcome) (first : Step) (o : Outcome) where
  pub stretch_comes : (stretch : List Step) (i : ℕ) → first ≡ get_or stretch 0 first → flows_into (doing_of first.work) ≡ Some i → Linked (length done) (map stepping_of stretch)
      → ComesTo (map stepping_of stretch) (around now done) (order_of done i) (ran (operators_of (map stepping_of stretch)) (around now done) (rows_of done i)) o
      → Follows w now before done (map stepping_of stretch) (length done + (length stretch - 1)) o
  stretch_comes [] i at from linked e = absurd linked
  stretch_comes (s ∷ ss) i at from linked e =
      let many = length-map ss stepping_of in
      stretch_follows w now before done (stepping_of s) (map stepping_of ss) i (length done + (length (s ∷ ss) - 1)) o (ap (λ (x : Step). flows_into (doing_of x.work)) (sym at) ∙ from) linked (omega (arith, many)) e

  pub stretch_alone : (stretch : List Step) → first ≡ get_or stretch 0 first → flows_into (doing_of first.work) ≡ None → Linked (length done) (map stepping_of stretch)
      → Case w now before done (stepping_of first) o → Follows w now before done (map stepping_of stretch) (length done + (length stretch - 1)) o
  stretch_alone [] at none linked case = absurd linked
  stretch_alone (s ∷ []) at none linked case =
      follows_alone w now before done (stepping_of s) (length done + (length (s ∷ []) - 1)) o (omega arith) (subst (λ (x : Step). Case w now before done (stepping_of x) o) at case)
  stretch_alone (s ∷ t ∷ ss) at none linked case = absurd (rowwise_flows (doing_of s.work) linked.0 (ap (λ (x : Step). flows_into (doing_of x.work)) (sym at) ∙ none))

-- a count of which no step stands in front, counts the rows that it takes
pub count_comes : (stretch : List Step) (first : Step) (n i : ℕ) (around : Surroundings) (ordered : Bool) (rows : List Row) (o : Outcome) → first ≡ get_or stretch 0 first → doing_of first.work ≡ counted i
    → Linked n (map stepping_of stretch) → o ≡ outcome.Table false (tally rows) → ComesTo (map stepping_of stretch) around ordered (ran (operators_of (map stepping_of stretch)) around rows) o
count_comes [] first n i around ordered rows o at is linked e = absurd linked
count_comes (s ∷ []) first n i around ordered rows o at is linked e =
    let here : doing_of s.work ≡ counted i = ap (λ (x : Step). doing_of x.work) (sym at) ∙ is in
    subst (λ (d : Doing). EndsIn (Closes d s.stage s.columns.items around (order_by d ordered)) (stage_at (stepping_of s ∷ [])) (ran (operator_in d ++ []) around rows) o) (sym here) e
count_comes (s ∷ t ∷ ss) first n i around ordered rows o at is linked e =
    let here : doing_of s.work ≡ counted i = ap (λ (x : Step). doing_of x.work) (sym at) ∙ is in
    absurd (false≢true (ap is_rowwise (sym here) ∙ linked.0))

-- ---- failures

-- what came of the rows, as an outcome or as a failure
ended_gave : (these : List Row → Outcome → Type 0) (stages : ℕ → ℕ) (r : Ran) (o : Outcome) → EndsAs these r (ended.Gave o) → EndsIn these stages r o
ended_gave these stages (came rows) o e = e
ended_gave these stages (failed n) o e = absurd e

ended_failed : (these : List Row → Outcome → Type 0) (r : Ran) (n : ℕ) → EndsAs these r (ended.Failed n) → r ≡ failed n
ended_failed these (came rows) n e = absurd e
ended_failed these (failed m) n e = ap failed (sym e)

module _ (stretch : List Step) (last : Step) (around : Surroundings) (ordered : Bool) (rows : List Row) where
  abbrev steps : List Stepping
  steps = map stepping_of stretch

  abbrev Ran_so : Ran
  Ran_so = ran (operators_of steps) around rows

  abbrev These : Stepping → List Row → Outcome → Type 0
  These s = ClosesWith s around (order_after steps ordered)

  pub comes_gave : 0 < length stretch → last ≡ get_or stretch (length stretch - 1) last → (e : Ended) (o : Outcome) → EndsAs (These (stepping_of last)) Ran_so e → e ≡ ended.Gave o → ComesTo steps around ordered Ran_so o
  comes_gave some at e o ends is =
      let gave = subst (λ (f : Ended). EndsAs (These (stepping_of last)) Ran_so f) is ends in
      ended_gave (These (last_of steps)) (stage_at steps) Ran_so o (subst (λ (s : Stepping). EndsAs (These s) Ran_so (ended.Gave o)) (sym (last_step stretch last some at)) gave)

  has_failed : (e : Ended) (n : ℕ) → EndsAs (These (stepping_of last)) Ran_so e → e ≡ ended.Failed n → Ran_so ≡ failed n
  has_failed e n ends is = ended_failed (These (stepping_of last)) Ran_so n (subst (λ (f : Ended). EndsAs (These (stepping_of last)) Ran_so f) is ends)

  pub comes_failed : (e : Ended) (n stage : ℕ) → EndsAs (These (stepping_of last)) Ran_so e → e ≡ ended.Failed n → stage ≡ stage_at steps n → ComesTo steps around ordered Ran_so (outcome.Overflow stage)
  comes_failed e n stage ends is at =
      subst (λ (r : Ran). EndsIn (These (last_of steps)) (stage_at steps) r (outcome.Overflow stage)) (sym (has_failed e n ends is)) (ap (λ (k : ℕ). outcome.Overflow k) at)

  pub failed_within : (e : Ended) (n : ℕ) → EndsAs (These (stepping_of last)) Ran_so e → e ≡ ended.Failed n → n < length stretch
  failed_within e n ends is = failed_in_steps stretch around rows n (has_failed e n ends is)

  -- of the rows that flowed, by what the code has of them
  pub ends_so : (os : List Rowwise) (r : Ran) (kept_so : Bool) (e : Ended) → r ≡ ran os around rows → os ≡ operators_of steps → kept_so ≡ order_after steps ordered → EndsAs (ClosesWith (stepping_of last) around kept_so) r e
      → EndsAs (These (stepping_of last)) Ran_so e
  ends_so os r kept_so e is are keeps ends =
      let first = subst (λ (z : Ran). EndsAs (ClosesWith (stepping_of last) around kept_so) z e) is ends in
      let second = subst (λ (zs : List Rowwise). EndsAs (ClosesWith (stepping_of last) around kept_so) (ran zs around rows) e) are first in
      subst (λ (b : Bool). EndsAs (ClosesWith (stepping_of last) around b) Ran_so e) keeps second
