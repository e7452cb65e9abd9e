-- A plan between its stretches: true outcomes stand beside those that are kept, which are no rows where nothing reads them any more.
use Rattle.std.proofs.Common.{◌≡◌, ◌<◌, ◌≤◌, ◌+◌, ◌⊎◌, inl, inr, ℕ, ℤ, zero, suc, Bool, true, false, List, [], ◌∷◌, ◌++◌, Option, Some, length, slice_get, refl, sym, ap, ◌∙◌, subst, arith, append-nil, append_assoc, length-append}
use Rattle.std.specs.Prelude.{replicate}
use Rattle.std.specs.Bool.{MatchBool}
use Rattle.std.proofs.lemmas.Bool.{false≢true}
use Rattle.std.proofs.lemmas.List.{length_push}
use Rattle.std.proofs.lemmas.List.Elements.{All-nil}
use Rattle.kq_plan.specs.Fits.{FitAfter, FitsStep}
use Rattle.kq_plan.specs.Names.{Known}
use Rattle.kq_plan.specs.Plans.{Doing, Planned, Stepping, scalar, kept}
use Rattle.kq_value.specs.declared.schema.Field.{Field}
use Rattle.kq_value.specs.Typed.{HasTypes, IsMoment}
use Rattle.kq_run_plan.specs.declared.outcome.Outcome.{Outcome}
use Rattle.kq_run_plan.specs.declared.outcome.Outcome.TheVariants as outcome
use Rattle.kq_run_plan.specs.Gives.{World, Case, Follows}
use Rattle.kq_run_plan.specs.Outcomes.{cells_of, is_fault, no_rows, outcome_at}
use Rattle.kq_run_gather.specs.Steps.{is_rowwise, last_of}
use Rattle.kq_run_plan.specs.Stretches.{AreNext, IsUnshared, Linked}
use Rattle.kq_run_plan.specs.Typed.{IsTypedBy, IsTypedTable, Stands, Stood, TypedWorld}
use Rattle.kq_run_plan.proofs.Agreed.{MatchBool-then, TakenBy, cells_more, follows_same, get_behind, outcome_at-past, same_beside, taken_behind, taken_front}
use Rattle.kq_run_plan.proofs.Stretched.{outcome_at-end}
use Rattle.kq_run_plan.proofs.TypedOutcomes.{Stood-push}
use Rattle.kq_run_plan.proofs.TypedSteps.{does_typed}

-- ---- a stretch's fault ends its plan

last_is : (done : List Outcome) (x o : Outcome) (last : ℕ) → last ≡ length done → o ≡ outcome_at (done ++ x ∷ []) last → o ≡ x
last_is done x o last at is = is ∙ ap (outcome_at (done ++ x ∷ [])) at ∙ outcome_at-end done x

differ : (x o : Outcome) → is_fault o ≡ true → is_fault x ≡ false → o ≡ x → ⊥
differ x o fault no_fault is = false≢true (sym no_fault ∙ ap is_fault (sym is) ∙ fault)

pub follows_fault : (w : World) (now : ℤ) (before : List Stepping) (done : List Outcome) (s : Stepping) (ss others : List Stepping) (last output : ℕ) (o : Outcome)
    → is_fault o ≡ true → last ≡ length done + length ss → Follows w now before done (s ∷ ss) last o → Follows w now before done (s ∷ (ss ++ others)) output o
follows_fault w now before done s [] others last output o fault at (x, case, rest) =
    (x, case, MatchBool-then _ (is_fault x) (λ no_fault is. absurd (differ x o fault no_fault (last_is done x o last (omega (arith, at)) is))) rest)
follows_fault w now before done s (t ∷ ss) others last output o fault at (x, case, rest) =
    let a = length_push done x in (
      x,
      case,
      MatchBool-then _ (is_fault x) (λ no_fault more. follows_fault w now (before ++ s ∷ []) (done ++ x ∷ []) t ss others last output o fault (omega (arith, at, a)) more) rest,
    )

-- ---- a stretch that goes to its end

past : {A : Type 0} (x o : Outcome) (b : Bool) → is_fault x ≡ b → is_fault o ≡ false → MatchBool b (o ≡ x) A → (is_fault x ≡ false) × A
past x o true fault no_fault is = absurd (false≢true (sym no_fault ∙ ap is_fault is ∙ fault))
past x o false fault no_fault rest = (fault, rest)

going : {A : Type 0} (E : Type 0) (b : Bool) → b ≡ false → A → MatchBool b E A
going E true is a = absurd (false≢true (sym is))
going E false is a = a

rowwise_typed : (d : Doing) (cs : List Field) (x : Outcome) → is_rowwise d ≡ true → IsTypedBy d cs x → IsTypedTable cs x
rowwise_typed (scalar e) cs x wise typed = absurd (false≢true wise)
rowwise_typed d cs x wise typed = typed

typed_rowwise : (d : Doing) (cs : List Field) (x : Outcome) → is_rowwise d ≡ true → IsTypedTable cs x → IsTypedBy d cs x
typed_rowwise (scalar e) cs x wise typed = absurd (false≢true wise)
typed_rowwise d cs x wise typed = typed

no_cell : (cs : List Field) (x : Outcome) (xs : List Outcome) → IsTypedTable cs x → cells_of (x ∷ xs) ≡ cells_of xs
no_cell cs (outcome.Table ordered rows) xs typed = refl
no_cell cs (outcome.Cell v) xs typed = absurd typed
no_cell cs (outcome.Overflow stage) xs typed = refl
no_cell cs (outcome.Full limit) xs typed = refl

-- what the steps of a stretch gave, the last of them o
pub record Went (w : World) (now : ℤ) (before : List Stepping) (done : List Outcome) (ss : List Stepping) (o : Outcome) : Type 0 where
  pub between : List Outcome
  pub long : length between + 1 ≡ length ss
  pub no_cells : cells_of between ≡ []
  pub goes_on : (others : List Stepping) (output : ℕ) (p : Outcome) → Follows w now (before ++ ss) (done ++ (between ++ o ∷ [])) others output p → Follows w now before done (ss ++ others) output p
  pub stood : Stood (before ++ ss) (done ++ (between ++ o ∷ []))
  pub last : Stands (last_of ss) o

module _ (known : List ℕ → Option Known) (w : World) (now : ℤ) (moment : IsMoment now) (typed : TypedWorld known w) where
  -- what a step gives stands, if it is no fault
  stands : (before : List Stepping) (done : List Outcome) (s : Stepping) (x : Outcome) → Stood before done → FitsStep known before s.doing s.columns → Case w now before done s x → is_fault x ≡ false → Stands s x
  stands before done s x stood fits case no_fault = record { typed = does_typed known w now before done s.stage s.columns s.doing x moment typed stood fits case; no_fault = no_fault }

  went_alone : (before : List Stepping) (done : List Outcome) (s : Stepping) (o : Outcome) → Stood before done → FitsStep known before s.doing s.columns → is_fault o ≡ false → Case w now before done s o → Went w now before done (s ∷ []) o
  went_alone before done s o stood fits no_fault case =
      let here = stands before done s o stood fits case no_fault in
      record {
        between = [];
        long = omega arith;
        no_cells = refl;
        goes_on = λ others output p more. (o, case, going _ (is_fault o) no_fault more);
        stood = Stood-push before done s o stood here;
        last = here;
      }

  -- what a stretch came to by its steps
  pub went : (before : List Stepping) (done : List Outcome) (s : Stepping) (ss : List Stepping) (n last : ℕ) (o : Outcome) → Stood before done → FitAfter known before (s ∷ ss) → Linked n (s ∷ ss)
      → last ≡ length done + length ss → is_fault o ≡ false → Follows w now before done (s ∷ ss) last o → Went w now before done (s ∷ ss) o
  went before done s [] n last o stood fits linked at no_fault (x, case, rest) =
      let (goes, is) = past x o (is_fault x) refl no_fault rest in
      let same : o ≡ x = last_is done x o last (omega (arith, at)) is in
      went_alone before done s o stood fits.0 no_fault (subst (λ (p : Outcome). Case w now before done s p) (sym same) case)
  went before done s (t ∷ ss) n last o stood fits linked at no_fault (x, case, rest) =
      let (goes, more) = past x o (is_fault x) refl no_fault rest in
      let here = stands before done s x stood fits.0 case goes in
      let a = length_push done x in
      let g = went (before ++ s ∷ []) (done ++ x ∷ []) t ss (suc n) last o (Stood-push before done s x stood here) fits.1 linked.2 (omega (arith, at, a)) no_fault more in
      let steps : (before ++ s ∷ []) ++ (t ∷ ss) ≡ before ++ (s ∷ t ∷ ss) = append_assoc before (s ∷ []) (t ∷ ss) in
      let gave : (done ++ x ∷ []) ++ (g.between ++ o ∷ []) ≡ done ++ ((x ∷ g.between) ++ o ∷ []) = append_assoc done (x ∷ []) (g.between ++ o ∷ []) in
      record {
        between = x ∷ g.between;
        long = omega (arith, g.long);
        no_cells = no_cell s.columns x g.between (rowwise_typed s.doing s.columns x linked.0 here.typed) ∙ g.no_cells;
        goes_on = λ others output p follows.
            let first = subst (λ (bs : List Stepping). Follows w now bs (done ++ ((x ∷ g.between) ++ o ∷ [])) others output p) (sym steps) follows in
            let second = subst (λ (ds : List Outcome). Follows w now ((before ++ s ∷ []) ++ (t ∷ ss)) ds others output p) (sym gave) first in
            (x, case, going _ (is_fault x) goes (g.goes_on others output p second));
        stood = subst (λ (ds : List Outcome). Stood (before ++ (s ∷ t ∷ ss)) ds) gave (subst (λ (bs : List Stepping). Stood bs ((done ++ x ∷ []) ++ (g.between ++ o ∷ []))) steps g.stood);
        last = g.last;
      }

-- ---- no rows in place of those in between

length-stood : (before : List Stepping) (done : List Outcome) → Stood before done → length before ≡ length done
length-stood [] [] stood = refl
length-stood [] (o ∷ done) stood = absurd stood
length-stood (s ∷ before) [] stood = absurd stood
length-stood (s ∷ before) (o ∷ done) stood = ap suc (length-stood before done stood.1)

none_stands : (s : Stepping) → is_rowwise s.doing ≡ true → Stands s no_rows
none_stands s wise = record { typed = typed_rowwise s.doing s.columns no_rows wise (All-nil (HasTypes s.columns)); no_fault = refl }

stood_away : (before : List Stepping) (xs : List Outcome) (s : Stepping) (ss : List Stepping) (n : ℕ) (o : Outcome) → Stood before xs → Linked n (s ∷ ss) → Stands (last_of (s ∷ ss)) o
    → Stood (before ++ (s ∷ ss)) (xs ++ (replicate (length ss) no_rows ++ o ∷ []))
stood_away before xs s [] n o stood linked last = Stood-push before xs s o stood last
stood_away before xs s (t ∷ ss) n o stood linked last =
    let g = stood_away (before ++ s ∷ []) (xs ++ no_rows ∷ []) t ss (suc n) o (Stood-push before xs s no_rows stood (none_stands s linked.0)) linked.2 last in
    let nones = replicate (length ss) no_rows ++ o ∷ [] in
    subst (λ (ys : List Outcome). Stood (before ++ (s ∷ t ∷ ss)) ys) (append_assoc xs (no_rows ∷ []) nones)
    (subst (λ (bs : List Stepping). Stood bs ((xs ++ no_rows ∷ []) ++ nones)) (append_assoc before (s ∷ []) (t ∷ ss)) g)

length-nones : (n : ℕ) → length (replicate n no_rows) ≡ n
length-nones zero = refl
length-nones (suc n) = ap suc (length-nones n)

cells-nones : (n : ℕ) → cells_of (replicate n no_rows) ≡ []
cells-nones zero = refl
cells-nones (suc n) = cells-nones n

-- ---- midway

-- its rows are the answer, or a step behind takes them
abbrev pub IsNeeded : List Stepping → ℕ → ℕ → Type 0
IsNeeded rest output i = (i ≡ output) ⊎ TakenBy rest i

-- after the steps before, for which these outcomes are kept: they agree with true ones where a later step reads, and what the rest may come to over
-- those, the plan may come to
pub record Midway (known : List ℕ → Option Known) (w : World) (now : ℤ) (p : Planned) (before rest : List Stepping) (xs : List Outcome) : Type 0 where
  pub whole : p.steps ≡ before ++ rest
  pub typed : TypedWorld known w
  pub fits : FitAfter known before rest
  pub kept_stood : Stood before xs
  pub done : List Outcome
  pub stood : Stood before done
  pub cells : cells_of xs ≡ cells_of done
  pub same : (i : ℕ) → IsNeeded rest p.output i → outcome_at xs i ≡ outcome_at done i
  pub comes : (o : Outcome) → Follows w now before done rest p.output o → Follows w now [] [] p.steps p.output o

-- after the last step, the step of the output decides
pub Midway-end : (known : List ℕ → Option Known) (w : World) (now : ℤ) (p : Planned) (before : List Stepping) (xs : List Outcome) (o : Outcome) → Midway known w now p before [] xs → o ≡ outcome_at xs p.output
    → Follows w now [] [] p.steps p.output o
Midway-end known w now p before xs o here is = here.comes o (is ∙ here.same p.output (inl refl))

fits_front : (known : List ℕ → Option Known) (before ss others : List Stepping) → FitAfter known before (ss ++ others) → FitAfter known before ss
fits_front known before [] others fits = tt
fits_front known before (s ∷ ss) others fits = (fits.0, fits_front known (before ++ s ∷ []) ss others fits.1)

fits_behind : (known : List ℕ → Option Known) (before ss others : List Stepping) → FitAfter known before (ss ++ others) → FitAfter known (before ++ ss) others
fits_behind known before [] others fits = subst (λ (bs : List Stepping). FitAfter known bs others) (sym (append-nil before)) fits
fits_behind known before (s ∷ ss) others fits =
    subst (λ (bs : List Stepping). FitAfter known bs others) (append_assoc before (s ∷ []) ss) (fits_behind known (before ++ s ∷ []) ss others fits.1)

pub Midway-next : (known : List ℕ → Option Known) (w : World) (now : ℤ) (p : Planned) (before ss others : List Stepping) (xs : List Outcome) → Midway known w now p before (ss ++ others) xs
    → AreNext known w before xs ss
Midway-next known w now p before ss others xs here = record { typed = here.typed; stood = here.kept_stood; fits = fits_front known before ss others here.fits }

module _ (known : List ℕ → Option Known) (w : World) (now : ℤ) (p : Planned) (before : List Stepping) (s : Stepping) (ss others : List Stepping) (xs : List Outcome) (here : Midway known w now p before (s ∷ (ss ++ others)) xs) where
  kept_long : length before ≡ length xs
  kept_long = length-stood before xs here.kept_stood

  done_long : length before ≡ length here.done
  done_long = length-stood before here.done here.stood

  -- what a stretch came to over the kept outcomes, it may come to over the true ones
  over_done : (last : ℕ) (o : Outcome) → last ≡ length xs + length ss → Follows w now before xs (s ∷ ss) last o → Follows w now before here.done (s ∷ ss) last o
  over_done last o at follows =
      let a = kept_long in
      let b = done_long in
      let answer : outcome_at xs last ≡ outcome_at here.done last = outcome_at-past xs last (omega (arith, at)) ∙ sym (outcome_at-past here.done last (omega (arith, at, a, b))) in
      follows_same w now before (s ∷ ss) xs here.done last o (omega (arith, a, b)) here.cells answer (λ i by. here.same i (inr (taken_front (s ∷ ss) others i by))) follows

  -- a fault is what the plan comes to
  pub Midway-fault : (last : ℕ) (o : Outcome) → last ≡ length xs + length ss → Follows w now before xs (s ∷ ss) last o → is_fault o ≡ true → Follows w now [] [] p.steps p.output o
  Midway-fault last o at follows fault =
      let a = kept_long in
      let b = done_long in
      here.comes o (follows_fault w now before here.done s ss others last p.output o fault (omega (arith, at, a, b)) (over_done last o at follows))

  -- the rows of those in between are needed no more
  not_needed : ((m : ℕ) → length before ≤ m → m + 1 < length before + length (s ∷ ss) → IsUnshared p m) → (i : ℕ) → IsNeeded others p.output i → length xs ≤ i → i < length xs + length ss → ⊥
  not_needed unshared i (inl is) from to =
      let a = kept_long in
      let hidden = unshared i (omega (arith, a, from)) (omega (arith, a, to)) in
      hidden.no_answer (sym is)
  not_needed unshared i (inr by) from to =
      let a = kept_long in
      let hidden = unshared i (omega (arith, a, from)) (omega (arith, a, to)) in
      let front = before ++ (s ∷ ss) in
      let all : p.steps ≡ front ++ others = here.whole ∙ sym (append_assoc before (s ∷ ss) others) in
      let there : slice_get p.steps (length front + by.place) ≡ Some by.step = subst (λ (zs : List Stepping). slice_get zs (length front + by.place) ≡ Some by.step) (sym all) (get_behind front others by.place by.step by.there) in
      let next : length front + by.place ≡ i + 1 = hidden.next (length front + by.place) by.step there by.takes in
      let long : length front ≡ length before + length (s ∷ ss) = length-append before (s ∷ ss) in
      omega (arith, a, next, long, to)

  -- the plan goes on behind a stretch, with no rows in place of those in between
  pub Midway-more : IsMoment now → (n last : ℕ) (o : Outcome) → last ≡ length xs + length ss → Linked n (s ∷ ss) → ((m : ℕ) → length before ≤ m → m + 1 < length before + length (s ∷ ss) → IsUnshared p m)
      → Follows w now before xs (s ∷ ss) last o → is_fault o ≡ false → Midway known w now p (before ++ (s ∷ ss)) others (xs ++ (replicate (length ss) no_rows ++ o ∷ []))
  Midway-more moment n last o at linked unshared follows no_fault =
      let a = kept_long in
      let b = done_long in
      let nones = replicate (length ss) no_rows in
      let many = length-nones (length ss) in
      let g = went known w now moment here.typed before here.done s ss n last o here.stood (fits_front known before (s ∷ ss) others here.fits) linked (omega (arith, at, a, b)) no_fault (over_done last o at follows) in
      let between : length nones ≡ length g.between = let l = g.long in omega (arith, many, l) in
      let no_cells : cells_of (nones ++ o ∷ []) ≡ cells_of (g.between ++ o ∷ []) = cells_more nones g.between (o ∷ []) (o ∷ []) (cells-nones (length ss) ∙ sym g.no_cells) refl in
      record {
        whole = here.whole ∙ sym (append_assoc before (s ∷ ss) others);
        typed = here.typed;
        fits = fits_behind known before (s ∷ ss) others here.fits;
        kept_stood = stood_away before xs s ss n o here.kept_stood linked g.last;
        done = here.done ++ (g.between ++ o ∷ []);
        stood = g.stood;
        cells = cells_more xs here.done (nones ++ o ∷ []) (g.between ++ o ∷ []) here.cells no_cells;
        same = λ i needed. same_beside xs here.done nones g.between o i (omega (arith, a, b)) between (here.same i (still_needed i needed)) (λ from to. not_needed unshared i needed from (omega (arith, to, many)));
        comes = λ q more. here.comes q (g.goes_on others p.output q more);
      }
    where
      still_needed : (i : ℕ) → IsNeeded others p.output i → IsNeeded (s ∷ (ss ++ others)) p.output i
      still_needed i (inl is) = inl is
      still_needed i (inr by) = inr (taken_behind (s ∷ ss) others i by)
