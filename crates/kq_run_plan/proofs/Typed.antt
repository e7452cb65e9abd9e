-- What a fitting plan gives has the types of its columns.
use Rattle.std.proofs.Common.{◌≡◌, ℤ, ℕ, false, List, [], ◌∷◌, ◌++◌, Option, refl, sym, subst, append_assoc}
use Rattle.std.proofs.lemmas.List.{append-nil}
use Rattle.std.specs.Bool.{MatchBool}
use Rattle.kq_plan.specs.Fits.{FitAfter, FitsNames, GivesColumns}
use Rattle.kq_plan.specs.Names.{Known}
use Rattle.kq_plan.specs.Plans.{Planned, Stepping}
use Rattle.kq_value.specs.declared.schema.Field.{Field}
use Rattle.kq_value.specs.Typed.{IsMoment}
use Rattle.kq_run_plan.specs.declared.outcome.Outcome.{Outcome}
use Rattle.kq_run_plan.specs.declared.outcome.Outcome.TheVariants as outcome
use Rattle.kq_run_plan.specs.Gives.{Follows, Gives, World}
use Rattle.kq_run_plan.specs.Outcomes.{is_fault}
use Rattle.kq_run_plan.specs.Typed.{IsTypedTable, Stood, TypedWorld}
use Rattle.kq_run_plan.proofs.TypedOutcomes.{Stood-push, outcome_typed}
use Rattle.kq_run_plan.proofs.TypedSteps.{does_typed}

-- a fault ends the plan, and is typed
ended_or_not : (cs : List Field) (x o : Outcome) (Rest : Type 0)
    → (is_fault x ≡ false → Rest → IsTypedTable cs o) → MatchBool (is_fault x) (o ≡ x) Rest → IsTypedTable cs o
ended_or_not cs (outcome.Table ordered rows) o Rest more goes_on = more refl goes_on
ended_or_not cs (outcome.Cell v) o Rest more goes_on = more refl goes_on
ended_or_not cs (outcome.Overflow stage) o Rest more is = subst (IsTypedTable cs) (sym is) tt
ended_or_not cs (outcome.Full limit) o Rest more is = subst (IsTypedTable cs) (sym is) tt

follows_typed : (known : List ℕ → Option Known) (w : World) (now : ℤ) (before steps : List Stepping) (done : List Outcome) (output : ℕ)
    (cs : List Field) (o : Outcome)
    → IsMoment now → TypedWorld known w → Stood before done → FitAfter known before steps → GivesColumns (before ++ steps) output cs
    → Follows w now before done steps output o → IsTypedTable cs o
follows_typed known w now before [] done output cs o m typed stood fit gives is =
    let last = subst (λ (ss : List Stepping). GivesColumns ss output cs) (append-nil before) gives in
    subst (IsTypedTable cs) (sym is) (outcome_typed before done output cs stood last)
follows_typed known w now before (s ∷ steps) done output cs o m typed stood fit gives (x, does, next) =
    let is = does_typed known w now before done s.stage s.columns s.doing x m typed stood fit.0 does in
    let rest = subst (λ (ss : List Stepping). GivesColumns ss output cs) (sym (append_assoc before (s ∷ []) steps)) gives in
    ended_or_not cs x o (Follows w now (before ++ s ∷ []) (done ++ x ∷ []) steps output o)
    (λ no_fault goes_on. follows_typed known w now (before ++ s ∷ []) steps (done ++ x ∷ []) output cs o m typed
    (Stood-push before done s x stood (record { typed = is; no_fault = no_fault })) fit.1 rest goes_on)
    next

pub gives_typed : (known : List ℕ → Option Known) (w : World) (now : ℤ) (p : Planned) (cs : List Field) (o : Outcome)
    → IsMoment now → TypedWorld known w → FitsNames known p cs → Gives p w now o → IsTypedTable cs o
gives_typed known w now p cs o m typed fits gives = follows_typed known w now [] p.steps [] p.output cs o m typed tt fits.steps fits.output gives
