-- The groups of rows by columns alone are their different rows.
use Rattle.std.proofs.Common.{◌≡◌, ◌<◌, ◌++◌, ◌∙◌, ℕ, suc, false, IfOk, List, [], ◌∷◌, Option, Result, drop, length, map, arith, ap, append-nil, refl, subst, sym}
use Rattle.std.proofs.lemmas.Option.{unwrap_or-slice_get}
use Rattle.std.proofs.lemmas.Result.{IfOk-weaker}
use Rattle.std.specs.declared.alloc.AllocError.{AllocError}
use Rattle.kq_value.specs.Computed.{Computed, Is, and_then, each}
use Rattle.kq_plan_expressions.specs.Terms.{Term, column}
use Rattle.kq_run_gather.proofs.Columns.{last_columns}
use Rattle.kq_run_gather.specs.Grouping.{ThenComes, arguments_over, under}
use Rattle.kq_run_gather.specs.kq_run_groups.Grouped.{GroupRows, Grouped}
use Rattle.kq_run_gather.specs.kq_eval_pieces.Operators.{values_at}
use Rattle.kq_run_gather.specs.Pipelines.{CollectsTo}
use Rattle.kq_run_gather.specs.Steps.{last_of}
use Rattle.kq_run_gather.specs.declared.collecting.Collected.{Collected}
use Rattle.kq_run_gather.specs.declared.collecting.Collected.TheVariants as collected
use Rattle.kq_run_gather.specs.kq_eval_row.Val.{Surroundings, cell_of}
use Rattle.kq_run_gather.specs.kq_run_row_operators.Ran.{Ran, came, failed}
use Rattle.kq_plan.specs.Fits.{FitAfter, FitsStep, HaveTypes, ty_of}
use Rattle.kq_plan.specs.Names.{Known}
use Rattle.kq_plan.specs.Plans.{Doing, Stepping, apart}
use Rattle.kq_run_reshape.specs.Distinct.{Apart, chosen}
use Rattle.kq_value.specs.declared.schema.Field.{Field}
use Rattle.kq_value.specs.declared.ty.Ty.TheVariants as ty
use Rattle.kq_value.specs.declared.value.Value.{Value}
use Rattle.kq_value.specs.declared.value.Value.TheVariants.{Null}
use Rattle.kq_run_plan.specs.declared.outcome.Outcome.{Outcome}
use Rattle.kq_run_plan.specs.declared.outcome.Outcome.TheVariants as outcome
use Rattle.kq_run_plan.specs.declared.sinks.Ended.{Ended}
use Rattle.kq_run_plan.specs.declared.sinks.Ended.TheVariants as ended
use Rattle.kq_run_plan.specs.Ended.{EndsAs, EndsInGroups}
use Rattle.kq_run_plan.specs.Grouping.{GroupsTo}
use Rattle.kq_run_plan.specs.Operators.{in_stage}
use Rattle.kq_run_plan.specs.Outcomes.{Row}
use Rattle.kq_run_plan.specs.Reshaped.{DiffersTo}
use Rattle.kq_run_plan.specs.Stretches.{HasFields}

-- ---- columns

length-HaveTypes : (from : List Field) (is : List ℕ) (fs : List Field) → HaveTypes from is fs → length is ≡ length fs
length-HaveTypes from [] [] have = refl
length-HaveTypes from [] (f ∷ fs) have = absurd have
length-HaveTypes from (i ∷ is) [] have = absurd have
length-HaveTypes from (i ∷ is) (f ∷ fs) have = ap suc (length-HaveTypes from is fs have.1)

fields_long : (known : List ℕ → Option Known) (before : List Stepping) (d : Doing) (cs : List Field) → FitsStep known before d cs → HasFields d cs
fields_long known before (apart i is) cs (from, gives, have, flat) = sym (length-HaveTypes from is cs have)
fields_long known before d cs fits = last_columns known before (record { stage = 0; doing = d; columns = cs } ∷ []) (fits, tt)

pub last_fields : (known : List ℕ → Option Known) (before ss : List Stepping) → FitAfter known before ss → HasFields (last_of ss).doing (last_of ss).columns
last_fields known before [] fits = tt
last_fields known before (s ∷ []) fits = fields_long known before s.doing s.columns fits.0
last_fields known before (s ∷ t ∷ ss) fits = last_fields known (before ++ s ∷ []) (t ∷ ss) fits.1

-- ---- groups

chosen_are : (is : List ℕ) (s : Surroundings) (r : Row) → values_at (map column is) s r ≡ Is (chosen is r)
chosen_are [] s r = refl
chosen_are (i ∷ is) s r =
    ap (λ (c : Computed Row). and_then c (λ vs. Is (cell_of r i ∷ vs))) (chosen_are is s r) ∙ ap (λ (v : Value). Is (v ∷ chosen is r)) (unwrap_or-slice_get r i (Null ty.Long))

keys_are : (is : List ℕ) (s : Surroundings) (rows : List Row) → each (values_at (map column is) s) rows ≡ Is (map (chosen is) rows)
keys_are is s [] = refl
keys_are is s (r ∷ rows) = λ i. and_then (chosen_are is s r i) (λ k. and_then (keys_are is s rows i) (λ ks. Is (k ∷ ks)))

-- groups without aggregates have rows of their keys alone
keys_alone : (groups keys : List Row) (out : Computed (List Row)) → GroupRows [] groups keys [] out → out ≡ Is groups
keys_alone [] keys out is = is
keys_alone (g ∷ groups) keys out (first, others, cells, more, is) =
    is ∙ (λ i. and_then (cells i) (λ x. and_then (keys_alone groups keys others more i) (λ rows. Is ((g ++ x) ∷ rows)))) ∙ ap (λ (r : Row). Is (r ∷ groups)) (append-nil g)

groups_differ : (is : List ℕ) (cs : List Field) (s : Surroundings) (rows : List Row) (stage : ℕ) (o : Outcome) → 0 < length is → GroupsTo (map column is) [] cs s rows stage o → DiffersTo is rows o
groups_differ [] cs s rows stage o some to = absurd (omega (arith, some))
groups_differ (i ∷ is) cs s rows stage o some to =
    let es = map column (i ∷ is) in
    let these = λ (c : Computed (List Row)). ThenComes c (λ keys. ThenComes (each (arguments_over s rows) []) (λ args. Grouped (length es) (under [] (map ty_of (drop (length es) cs))) keys args)) to.came in
    let (groups, different, made) = subst these (keys_are (i ∷ is) s rows) to.grouped_so in
    record {
      out = groups;
      apart_so = record { each = different.each };
      is = to.is ∙ ap (in_stage stage false) (keys_alone groups (map (chosen (i ∷ is)) rows) to.came made);
    }

ends_apart : (is : List ℕ) (cs : List Field) (stage : ℕ) (s : Surroundings) (r : Ran) (e : Ended) → 0 < length is → EndsInGroups (map column is) [] cs stage s r e → EndsAs (DiffersTo is) r e
ends_apart is cs stage s (came rows) (ended.Gave o) some ends = groups_differ is cs s rows stage o some ends
ends_apart is cs stage s (came rows) (ended.Failed n) some ends = ends
ends_apart is cs stage s (failed m) (ended.Gave o) some ends = ends
ends_apart is cs stage s (failed m) (ended.Failed n) some ends = ends

pub different_if : (is : List ℕ) (es : List Term) (cs : List Field) (stage : ℕ) (s : Surroundings) (r : Ran) (answer : Result Ended AllocError) → 0 < length is → es ≡ map column is
    → IfOk answer (EndsInGroups es [] cs stage s r) → IfOk answer (EndsAs (DiffersTo is) r)
different_if is es cs stage s r answer some keys ends =
    IfOk-weaker answer (EndsInGroups es [] cs stage s r) (EndsAs (DiffersTo is) r)
    (λ e groups. ends_apart is cs stage s r e some (subst (λ (ts : List Term). EndsInGroups ts [] cs stage s r e) keys groups)) ends

-- ---- rows that were kept

differ_kept : (is : List ℕ) (w : ℕ) (r : Ran) (rows out : List Row) (o : Outcome) → CollectsTo w r (collected.Rows rows) → Apart is rows out → o ≡ outcome.Table false out → EndsAs (DiffersTo is) r (ended.Gave o)
differ_kept is w (came all) rows out o collects apart_so is_so = record { out = out; apart_so = subst (λ (rs : List Row). Apart is rs out) collects.0 apart_so; is = is_so }
differ_kept is w (failed m) rows out o collects apart_so is_so = absurd collects

pub differ_collected : (is : List ℕ) (w : ℕ) (r : Ran) (k : Collected) (rows out : List Row) (o : Outcome) → CollectsTo w r k → k ≡ collected.Rows rows → Apart is rows out → o ≡ outcome.Table false out
    → EndsAs (DiffersTo is) r (ended.Gave o)
differ_collected is w r k rows out o collects kept apart_so is_so = differ_kept is w r rows out o (subst (CollectsTo w r) kept collects) apart_so is_so

failed_kept : (is : List ℕ) (w : ℕ) (r : Ran) (n : ℕ) → CollectsTo w r (collected.Failed n) → EndsAs (DiffersTo is) r (ended.Failed n)
failed_kept is w (came all) n collects = absurd collects
failed_kept is w (failed m) n collects = collects

pub failed_collected : (is : List ℕ) (w : ℕ) (r : Ran) (k : Collected) (n : ℕ) → CollectsTo w r k → k ≡ collected.Failed n → EndsAs (DiffersTo is) r (ended.Failed n)
failed_collected is w r k n collects kept = failed_kept is w r n (subst (CollectsTo w r) kept collects)
