-- Typed outcomes, side by side with their steps.
use Rattle.std.proofs.Common.{◌≡◌, ℤ, ℕ, zero, suc, Bool, true, false, List, [], ◌∷◌, ◌++◌, length, pos, take, map, Option, Some, None, slice_get, refl, sym, subst}
use Rattle.std.specs.Prelude.{All, option_and_then}
use Rattle.std.specs.List.{AllZip}
use Rattle.std.proofs.lemmas.List.Elements.{All-nil, All-take}
use Rattle.kq_run_gather.proofs.kq_value_arithmetic.Typed.{GivesType}
use Rattle.kq_value.specs.Computed.{Computed, Is, Overflow, each}
use Rattle.kq_plan_expressions.specs.Terms.{Term}
use Rattle.kq_plan.specs.declared.work.LeafKind.{LeafKind}
use Rattle.kq_plan.specs.Fits.{AreTyped, FitsLeaf, FitsStep, GivesColumns, IsTyped, cells_in, lets_of, columns_given, rows_in as columns_in_rows, ty_of}
use Rattle.kq_plan.specs.Names.{Known}
use Rattle.kq_plan.specs.Plans.{Doing, Sorting, Stepping, leaf, one_row, numbers, written, scalar, kept, mapped, cut, counted, sorted, topped, apart, summarized, joined, united, expanded}
use Rattle.kq_run_gather.specs.kq_eval_row.Val.{Surroundings, meaning}
use Rattle.kq_value.proofs.SameLemmas.{All-Same, Same-sym}
use Rattle.kq_value.specs.declared.schema.Field.{Field}
use Rattle.kq_value.specs.declared.ty.Ty.{Ty}
use Rattle.kq_value.specs.declared.ty.Ty.TheVariants as ty
use Rattle.kq_value.specs.declared.value.Value.{Value}
use Rattle.kq_value.specs.declared.value.Value.TheVariants.{Long}
use Rattle.kq_value.specs.Typed.{HasTypes, IsMoment}
use Rattle.kq_run_plan.specs.declared.outcome.Outcome.{Outcome}
use Rattle.kq_run_plan.specs.declared.outcome.Outcome.TheVariants as outcome
use Rattle.kq_run_plan.specs.Gives.{Does, Handed, SortsTo, TopsTo, Unordered, World, around}
use Rattle.kq_run_gather.specs.kq_eval_pieces.Operators.{filtered, values_at}
use Rattle.kq_run_plan.specs.Operators.{Taken, cell_in_stage, in_stage, single, tally}
use Rattle.kq_run_sort.specs.Orders.{Sorted, Topped}
use Rattle.kq_run_plan.specs.Outcomes.{Row, cells_of, is_fault, order_of, outcome_at, rows_in, rows_of}
use Rattle.kq_run_plan.specs.Reshaped.{columns_before, columns_in}
use Rattle.kq_run_plan.specs.Typed.{IsTypedBy, IsTypedCell, IsTypedTable, Stands, Stood, TypedWorld}
use Rattle.kq_run_plan.proofs.TypedRows.{All-NoOftener, All-one, GivesRows, HasTypes-append, HasTypes-one, Surrounds, each_typed, filtered_typed, meaning_typed, single_typed, values_typed}

-- ---- outcomes

pub Stood-push : (before : List Stepping) (done : List Outcome) (s : Stepping) (o : Outcome)
    → Stood before done → Stands s o → Stood (before ++ s ∷ []) (done ++ o ∷ [])
Stood-push [] [] s o stood next = (next, tt)
Stood-push [] (p ∷ done) s o stood next = absurd stood
Stood-push (t ∷ before) [] s o stood next = absurd stood
Stood-push (t ∷ before) (p ∷ done) s o stood next = (stood.0, Stood-push before done s o stood.1 next)

cells_next : (doing : Doing) (cs : List Field) (o : Outcome) (lets : List Field) (done : List Outcome) → IsTypedBy doing cs o → is_fault o ≡ false
    → HasTypes lets (cells_of done) → HasTypes (cells_in doing cs ++ lets) (cells_of (o ∷ done))
cells_next doing cs (outcome.Overflow stage) lets done typed stood more = absurd (cc)
cells_next doing cs (outcome.Full limit) lets done typed stood more = absurd (cc)
cells_next (scalar e) cs (outcome.Table ordered rows) lets done typed stood more = absurd typed
cells_next (scalar e) cs (outcome.Cell v) lets done typed stood more = HasTypes-append cs lets (v ∷ []) (cells_of done) typed more
cells_next doing cs (outcome.Table ordered rows) lets done typed stood more = more
cells_next doing cs (outcome.Cell v) lets done typed stood more = absurd typed

-- the cells of the lets have the types of the lets
pub cells_typed : (before : List Stepping) (done : List Outcome) → Stood before done → HasTypes (lets_of before) (cells_of done)
cells_typed [] [] stood = tt
cells_typed [] (o ∷ done) stood = absurd stood
cells_typed (s ∷ before) [] stood = absurd stood
cells_typed (s ∷ before) (o ∷ done) stood =
    cells_next s.doing s.columns o (lets_of before) done stood.0.typed stood.0.no_fault (cells_typed before done stood.1)

columns_typed : (own cs : List Field) (o : Outcome) → Some own ≡ Some cs → IsTypedTable own o → IsTypedTable cs o
columns_typed own cs o is typed = let same : own ≡ cs = cc in subst (λ (fs : List Field). IsTypedTable fs o) same typed

given_typed : (doing : Doing) (own cs : List Field) (o : Outcome) → columns_in_rows doing own ≡ Some cs → IsTypedBy doing own o → IsTypedTable cs o
given_typed (scalar e) own cs o is typed = absurd (cc)
given_typed doing own cs o is typed = columns_typed own cs o is typed

-- a step that gives rows of these columns gave a table of their types
pub outcome_typed : (before : List Stepping) (done : List Outcome) (i : ℕ) (cs : List Field)
    → Stood before done → GivesColumns before i cs → IsTypedTable cs (outcome_at done i)
outcome_typed [] [] i cs stood is = absurd (cc)
outcome_typed [] (o ∷ done) i cs stood is = absurd stood
outcome_typed (s ∷ before) [] i cs stood is = absurd stood
outcome_typed (s ∷ before) (o ∷ done) zero cs stood is = given_typed s.doing s.columns cs o is stood.0.typed
outcome_typed (s ∷ before) (o ∷ done) (suc i) cs stood is = outcome_typed before done i cs stood.1 is

rows_within : (cs : List Field) (o : Outcome) → IsTypedTable cs o → All (HasTypes cs) (rows_in o)
rows_within cs (outcome.Table ordered rows) typed = typed
rows_within cs (outcome.Cell v) typed = absurd typed
rows_within cs (outcome.Overflow stage) typed = All-nil (HasTypes cs)
rows_within cs (outcome.Full limit) typed = All-nil (HasTypes cs)

pub rows_typed : (before : List Stepping) (done : List Outcome) (i : ℕ) (cs : List Field)
    → Stood before done → GivesColumns before i cs → All (HasTypes cs) (rows_of done i)
rows_typed before done i cs stood is = rows_within cs (outcome_at done i) (outcome_typed before done i cs stood is)

pub around_typed : (now : ℤ) (before : List Stepping) (done : List Outcome)
    → IsMoment now → Stood before done → Surrounds (lets_of before) (around now done)
around_typed now before done moment stood = record { moment = moment; typed = cells_typed before done stood }

-- ---- from what is computed to an outcome

pub table_typed : (cs : List Field) (ordered : Bool) (rows : List Row) (o : Outcome)
    → o ≡ outcome.Table ordered rows → All (HasTypes cs) rows → IsTypedTable cs o
table_typed cs ordered rows o is all = subst (IsTypedTable cs) (sym is) all

in_stage_typed : (cs : List Field) (stage : ℕ) (ordered : Bool) (c : Computed (List Row)) → GivesRows cs c → IsTypedTable cs (in_stage stage ordered c)
in_stage_typed cs stage ordered (Is rows) all = all
in_stage_typed cs stage ordered Overflow all = tt

pub staged_typed : (cs : List Field) (stage : ℕ) (ordered : Bool) (c : Computed (List Row)) (o : Outcome)
    → o ≡ in_stage stage ordered c → GivesRows cs c → IsTypedTable cs o
staged_typed cs stage ordered c o is all = subst (IsTypedTable cs) (sym is) (in_stage_typed cs stage ordered c all)

pub cell_typed : (cs : List Field) (t : Ty) (stage : ℕ) (c : Computed Value)
    → map ty_of cs ≡ t ∷ [] → GivesType t c → IsTypedCell cs (cell_in_stage stage c)
cell_typed cs t stage (Is v) one has = HasTypes-one cs t v one has
cell_typed cs t stage Overflow one has = tt

pub unordered_typed : (cs : List Field) (stage : ℕ) (given : Computed (List Row)) (o : Outcome)
    → Unordered stage given o → GivesRows cs given → IsTypedTable cs o
unordered_typed cs stage (Is given) o (rows, same, is) all = table_typed cs false rows o is (All-Same (HasTypes cs) given rows (Same-sym rows given same) all)
unordered_typed cs stage Overflow o is all = subst (IsTypedTable cs) (sym is) tt

-- ---- columns

same_columns : (doing : Doing) (own cs : List Field) → columns_in_rows doing own ≡ Some cs → own ≡ cs
same_columns (scalar e) own cs is = absurd (cc)
same_columns doing own cs is = cc

columns_known : (o : Option Stepping) (cs : List Field) → option_and_then columns_given o ≡ Some cs → columns_in o ≡ cs
columns_known (Some s) cs is = same_columns s.doing s.columns cs is
columns_known None cs is = absurd (cc)

-- the columns of a step that gives rows of them
pub columns_before-given : (before : List Stepping) (i : ℕ) (cs : List Field) → GivesColumns before i cs → columns_before before i ≡ cs
columns_before-given before i cs is = columns_known (slice_get before i) cs is
