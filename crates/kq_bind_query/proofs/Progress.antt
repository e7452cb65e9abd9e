-- Steps that fit, with one that fits after them: they fit, what they gave is kept, and so are the lets.
use Rattle.std.proofs.Common.{◌≡◌, ℕ, zero, suc, ◌+◌, List, [], ◌∷◌, ◌++◌, All, Option, Some, None, Ok, Err, length, refl, sym, ap, ◌∙◌, subst, append_assoc, append-nil}
use Rattle.std.specs.Prelude.{slice_get, slice_index_or, option_and_then}
use Rattle.kq_bind_query.specs.kq_bind_operators.Flows.{Progressing, Flowing, columns_of, columns_at, next_stage, added, following, after}
use Rattle.kq_bind_query.specs.kq_bind_operators.Scopes.{Scoping, Tabling}
use Rattle.kq_bind_expressions.specs.Verdicts.{Verdict, and_then}
use Rattle.kq_plan.specs.Fits.{cells_in, lets_of, rows_in, columns_given, GivesColumns, FitsStep, FitAfter}
use Rattle.kq_plan.specs.Names.{Known}
use Rattle.kq_plan.specs.Plans.{Doing, scalar, Stepping}
use Rattle.kq_value.specs.declared.schema.Field.{Field}

-- ---- verdicts

pub then_ok : {A B : Type 0} (v : Verdict A) (k : A → Verdict B) (y : B) → and_then v k ≡ Ok y → (x : A) × (v ≡ Ok x) × (k x ≡ Ok y)
then_ok (Ok x) k y e = (x, refl, e)
then_ok (Err b) k y e = absurd (cc)

abbrev pub done : {A : Type 0} → A → Verdict A
done x = Ok x

pub done_is : {A : Type 0} (x y : A) → done x ≡ Ok y → x ≡ y
done_is x y e = cc

-- ---- what steps give

abbrev pub IsGiven : List Stepping → ℕ → Type 0
IsGiven ss i = GivesColumns ss i (columns_at ss i)

abbrev pub Kept : List Stepping → List Stepping → Type 0
Kept before now = (i : ℕ) (cs : List Field) → GivesColumns before i cs → GivesColumns now i cs

row_is : (d : Doing) (a b : List Field) → rows_in d a ≡ Some b → a ≡ b
row_is (scalar e) a b is = absurd (cc)
row_is _ a b is = cc

given_is : (o : Option Stepping) (cs : List Field) → option_and_then columns_given o ≡ Some cs → columns_of o ≡ cs
given_is (Some s) cs e = row_is s.doing s.columns cs e
given_is None cs e = absurd (cc)

-- the columns that a step gives are those that it has
pub columns_are : (ss : List Stepping) (i : ℕ) (cs : List Field) → GivesColumns ss i cs → columns_at ss i ≡ cs
columns_are ss i cs e = given_is (slice_get ss i) cs e

pub is_given : (ss : List Stepping) (i : ℕ) (cs : List Field) → GivesColumns ss i cs → IsGiven ss i
is_given ss i cs e = subst (GivesColumns ss i) (sym (columns_are ss i cs e)) e

pub given_kept : (before now : List Stepping) (i : ℕ) → Kept before now → IsGiven before i → IsGiven now i
given_kept before now i kept e = is_given now i (columns_at before i) (kept i (columns_at before i) e)

pub kept_behind : (ss ts : List Stepping) → Kept ss (ss ++ ts)
kept_behind [] ts i cs e = absurd (cc)
kept_behind (s ∷ ss) ts zero cs e = e
kept_behind (s ∷ ss) ts (suc i) cs e = kept_behind ss ts i cs e

last_given : (ss : List Stepping) (s : Stepping) (cs : List Field) → columns_given s ≡ Some cs → GivesColumns (ss ++ s ∷ []) (length ss) cs
last_given [] s cs e = e
last_given (t ∷ ss) s cs e = last_given ss s cs e

-- ---- one step more

pub lets_behind : (ss ts : List Stepping) → lets_of (ss ++ ts) ≡ lets_of ss ++ lets_of ts
lets_behind [] ts = refl
lets_behind (s ∷ ss) ts =
    let front = cells_in s.doing s.columns in ap (λ (cs : List Field). front ++ cs) (lets_behind ss ts) ∙ sym (append_assoc front (lets_of ss) (lets_of ts))

pub fit_behind : (known : List ℕ → Option Known) (before ss : List Stepping) (s : Stepping) → FitAfter known before ss
    → FitsStep known (before ++ ss) s.doing s.columns → FitAfter known before (ss ++ s ∷ [])
fit_behind known before [] s h f = (subst (λ b. FitsStep known b s.doing s.columns) (append-nil before) f, tt)
fit_behind known before (t ∷ ss) s h f =
    (h.0, fit_behind known (before ++ t ∷ []) ss s h.1 (subst (λ b. FitsStep known b s.doing s.columns) (sym (append_assoc before (t ∷ []) ss)) f))

-- ---- what holds on the way

abbrev pub IsTable : List Stepping → Tabling → Type 0
IsTable ss t = IsGiven ss t.input

-- the steps fit, and the scope has their lets
pub record Holds (s : Scoping) (ss : List Stepping) : Type 0 where
  pub fits : FitAfter s.known [] ss
  pub lets : lets_of ss ≡ s.lets
  pub tables : All (IsTable ss) s.tables

-- after these steps, rows go on
pub record Goes (s : Scoping) (before : List Stepping) (w : Flowing) : Type 0 where
  pub holds : Holds s w.progress.steps
  pub rows : IsGiven w.progress.steps w.input
  pub kept : Kept before w.progress.steps

-- a step that gives rows goes on
pub goes_on : (s : Scoping) (before : List Stepping) (p : Progressing) (stage : ℕ) (d : Doing) (cs : List Field) → Holds s p.steps → Kept before p.steps
    → FitsStep s.known p.steps d cs → rows_in d cs ≡ Some cs → cells_in d cs ≡ [] → Goes s before (added p stage d cs)
goes_on s before p stage d cs h kept f rows cells =
    let one : Stepping = record { stage = stage; doing = d; columns = cs } in
    let more = kept_behind p.steps (one ∷ []) in
    record {
      holds = record {
        fits = fit_behind s.known [] p.steps one h.fits f;
        lets = lets_behind p.steps (one ∷ []) ∙ ap (λ (x : List Field). lets_of p.steps ++ (x ++ [])) cells ∙ append-nil (lets_of p.steps) ∙ h.lets;
        tables = λ k t less. given_kept p.steps (p.steps ++ one ∷ []) (slice_index_or s.tables k t).input more (h.tables k t less);
      };
      rows = is_given (p.steps ++ one ∷ []) (length p.steps) cs (last_given p.steps one cs rows);
      kept = λ i ds e. more i ds (kept i ds e);
    }

pub following_goes : (s : Scoping) (p : Progressing) (d : Doing) (cs : List Field) → Holds s p.steps → FitsStep s.known p.steps d cs → rows_in d cs ≡ Some cs
    → cells_in d cs ≡ [] → Goes s p.steps (following p d cs)
following_goes s p d cs h f rows cells = goes_on s p.steps (next_stage p) (p.stages + 1) d cs h (λ i ds e. e) f rows cells

pub after_goes : (s : Scoping) (ss : List Stepping) (w : Flowing) (d : ℕ → Doing) (cs : List Field) → Goes s ss w
    → FitsStep s.known w.progress.steps (d w.input) cs → rows_in (d w.input) cs ≡ Some cs → cells_in (d w.input) cs ≡ [] → Goes s ss (after w d cs)
after_goes s ss w d cs g f rows cells = goes_on s ss (next_stage w.progress) (w.progress.stages + 1) (d w.input) cs g.holds g.kept f rows cells

-- what holds over the lets of the scope holds over those of the steps
pub over_lets : (s : Scoping) (ss : List Stepping) (P : List Field → Type 0) → Holds s ss → P s.lets → P (lets_of ss)
over_lets s ss P h is = subst P (sym h.lets) is
