-- The entries that stand, their plans, and what these give.
use Rattle.std.proofs.Common.{◌≡◌, ◌<◌, ◌≤◌, ℕ, pos, [], List, All, IfOk, Some, None, Result, Ok, Err, get_or, length, ap, sym, ◌∙◌, subst, arith}
use Rattle.std.specs.List.{slice_get}
use Rattle.std.proofs.lemmas.List.{get_or_past}
use Rattle.std.proofs.lemmas.Option.{slice_get-get_or, slice_get_within}
use Rattle.kq_policy_cascade.specs.declared.tables.QueryFault.{QueryFault}
use Rattle.kq_policy_cascade.specs.declared.tables.QueryFault.TheVariants.{Fails, Memory}
use Rattle.kq_policy_cascade.specs.Queried.{AnswersEntry}
use Rattle.kq_catalog_journal.specs.declared.limits.Limits.{Limits}
use Rattle.kq_catalog_journal.specs.declared.policy.Due.{Due}
use Rattle.kq_catalog_journal.specs.declared.policy.Entry.{Entry}
use Rattle.kq_catalog_journal.specs.Beside.{DueGives, EntryGives, beside}
use Rattle.kq_catalog_journal.specs.Derived.{Row}
use Rattle.kq_catalog_journal.specs.Force.{IsStanding, policy_at}
use Rattle.kq_catalog_journal.specs.History.{History, Log, log, tables}
use Rattle.kq_catalog_journal.specs.Lawful.{AreLawful}
use Rattle.kq_catalog_journal.specs.Policies.{policies}
use Rattle.kq_catalog_journal.specs.Records.{schema_of}
use Rattle.kq_catalog_journal.specs.Typed.{IsLead}
use Rattle.kq_catalog_journal.proofs.Entered.{AreBound-lawful, AreTyped-bound, IsBound, beside-typed}
use Rattle.kq_catalog_journal.proofs.Policies.{length-policies}
use Rattle.kq_run_plan.specs.declared.outcome.Outcome.{Outcome}
use Rattle.kq_run_plan.specs.declared.outcome.Outcome.TheVariants as outcome
use Rattle.kq_run_plan.specs.Gives.{Gives}
use Rattle.kq_run_plan.specs.Typed.{FitsWorld, IsTypedTable}
use Rattle.kq_run_plan.proofs.Typed.{gives_typed}
use Rattle.kq_plan.specs.Fits.{FitsNames}
use Rattle.kq_plan.specs.Plans.{planned_of}
use Rattle.kq_value.specs.declared.schema.Field.{Field}
use Rattle.kq_value.specs.Typed.{HasTypes, IsMoment}
use Rattle.kq_policy_run.specs.Reading.{known_as_read}
use Rattle.kq_policy_run.specs.World.{IsNoCell}
use Rattle.kq_policy_run.proofs.Reading.{FitsNames-later}

-- ---- where they stand

module _ (l : Log) (d : Due) (standing : IsStanding (policies l) d) where
  target_past : length (policies l) ≤ d.target → ⊥
  target_past past =
      let none : slice_get (policy_at (policies l) d.target) d.place ≡ None = ap (λ (es : List Entry). slice_get es d.place) (get_or_past (policies l) d.target [] past) in
      let stands = standing.stands in cc

  pub target_within : d.target < length (tables l)
  target_within = let not_past = target_past in let same = length-policies l in omega (arith, not_past, same)

  -- the source of the entry that stands there
  pub source_of : (e : Entry) → slice_get (policy_at (policies l) d.target) d.place ≡ Some e → d.source ≡ e.source
  source_of e at =
      let same : Some standing.entry ≡ Some e = sym standing.stands ∙ at in
      let own : standing.entry ≡ e = cc in
      ap (λ (x : Due). x.source) standing.is ∙ ap (λ (x : Entry). x.source) own

  -- what is read there
  pub place_within : (es : List Entry) → es ≡ policy_at (policies l) d.target → d.place < length es
  place_within es is = subst (λ (xs : List Entry). d.place < length xs) (sym is) (slice_get_within (policy_at (policies l) d.target) d.place standing.entry standing.stands)

  pub stands_there : (es : List Entry) (e : Entry) → es ≡ policy_at (policies l) d.target → e ≡ get_or es d.place e → slice_get (policy_at (policies l) d.target) d.place ≡ Some e
  stands_there es e is here =
      let at : slice_get es d.place ≡ Some (get_or es d.place e) = slice_get-get_or es d.place e (place_within es is) in
      ap (λ (xs : List Entry). slice_get xs d.place) (sym is) ∙ at ∙ ap (λ (x : Entry). Some x) (sym here)

-- ---- their plans

fits_log : (l : Log) (t : ℕ) (e : Entry) (is : IsBound l t e) → FitsNames (known_as_read l (planned_of e.plan)) (planned_of e.plan) is.columns
fits_log l t e is =
    subst (λ (k : Log). FitsNames (known_as_read k (planned_of e.plan)) (planned_of e.plan) is.columns) (sym is.is) (FitsNames-later is.since is.rest (planned_of e.plan) is.columns is.fits)

at_start : IsMoment (pos 0)
at_start = (omega arith, omega arith)

no_cell : (columns : List Field) (o : Outcome) → IsTypedTable columns o → IsNoCell o
no_cell columns (outcome.Table ordered rows) typed = tt
no_cell columns (outcome.Cell v) typed = absurd typed
no_cell columns (outcome.Overflow stage) typed = tt
no_cell columns (outcome.Full limit) typed = tt

module _ (limits : Limits) (h : History) (lawful : AreLawful limits h) (t place : ℕ) (e : Entry) (at : slice_get (policy_at (policies (log h)) t) place ≡ Some e) (rows : List Row) where
  bound : IsBound (log h) t e
  bound = AreBound-lawful limits h lawful t place e at

  pub plan_fits : FitsWorld (planned_of e.plan) (known_as_read (log h) (planned_of e.plan)) (beside (log h) e.source rows)
  plan_fits = record { columns = bound.columns; typed = beside-typed (log h) e.source rows (known_as_read (log h) (planned_of e.plan)); fits = fits_log (log h) t e bound }

  pub gives_no_cell : (o : Outcome) → Gives (planned_of e.plan) (beside (log h) e.source rows) (pos 0) o → IsNoCell o
  gives_no_cell o gives =
      let known = known_as_read (log h) (planned_of e.plan) in
      no_cell bound.columns o (gives_typed known (beside (log h) e.source rows) (pos 0) (planned_of e.plan) bound.columns o at_start (beside-typed (log h) e.source rows known) (fits_log (log h) t e bound) gives)

-- ---- what they give

pub due_answers : (l : Log) (d : Due) (e : Entry) (rows : List Row) (r : Result (List Row) QueryFault) → slice_get (policy_at (policies l) d.target) d.place ≡ Some e → AnswersEntry (EntryGives l e rows) r → AnswersEntry (DueGives l d rows) r
due_answers l d e rows (Ok given) at gives = record { entry = e; stands = at; gives = gives }
due_answers l d e rows (Err (Fails cause)) at gives = record { entry = e; stands = at; gives = gives }
due_answers l d e rows (Err Memory) at gives = tt

pub due_typed : (limits : Limits) (h : History) → AreLawful limits h → (d : Due) (rows : List Row) (r : Result (List Row) QueryFault) → IsStanding (policies (log h)) d → All (HasTypes (schema_of (log h) d.source)) rows → AnswersEntry (DueGives (log h) d rows) r
    → IfOk r (All (IsLead (schema_of (log h) d.target)))
due_typed limits h lawful d rows (Ok given) standing typed gives = AreTyped-bound (log h) (AreBound-lawful limits h lawful) d rows given standing typed gives
due_typed limits h lawful d rows (Err fault) standing typed gives = tt
