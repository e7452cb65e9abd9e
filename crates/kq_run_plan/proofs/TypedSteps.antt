-- What a fitting step gives after typed outcomes is typed: a lemma for each operator.
use Rattle.std.proofs.Common.{◌≡◌, ℤ, ℕ, zero, suc, Bool, true, false, List, [], ◌∷◌, ◌++◌, length, pos, take, map, Option, Some, refl, sym, subst}
use Rattle.std.specs.Prelude.{All}
use Rattle.std.specs.List.{AllZip}
use Rattle.std.proofs.lemmas.List.Elements.{All-nil, All-take}
use Rattle.kq_run_gather.proofs.kq_value_arithmetic.Typed.{GivesType}
use Rattle.kq_value.specs.Computed.{Computed, Is, Overflow, each}
use Rattle.kq_plan_expressions.specs.Terms.{Term}
use Rattle.kq_plan.specs.declared.work.LeafKind.{LeafKind}
use Rattle.kq_plan.specs.Fits.{AreTyped, FitsLeaf, FitsStep, GivesColumns, IsTyped, cells_in, lets_of, ty_of}
use Rattle.kq_plan.specs.Names.{Known}
use Rattle.kq_plan.specs.Plans.{Doing, Sorting, Stepping, leaf, one_row, numbers, written, scalar, kept, mapped, cut, counted, sorted, topped, apart, summarized, joined, united, expanded}
use Rattle.kq_run_gather.specs.kq_eval_row.Val.{Surroundings, meaning}
use Rattle.kq_value.proofs.SameLemmas.{All-Same, Same-sym}
use Rattle.kq_value.specs.declared.schema.Field.{Field}
use Rattle.kq_value.specs.declared.ty.Ty.{Ty}
use Rattle.kq_value.specs.declared.ty.Ty.TheVariants as ty
use Rattle.kq_value.specs.declared.value.Value.{Value}
use Rattle.kq_value.specs.declared.value.Value.TheVariants.{Long}
use Rattle.kq_value.specs.Typed.{HasTypes, IsMoment}
use Rattle.kq_run_plan.specs.declared.outcome.Outcome.{Outcome}
use Rattle.kq_run_plan.specs.declared.outcome.Outcome.TheVariants as outcome
use Rattle.kq_run_plan.specs.Gives.{Does, Handed, SortsTo, TopsTo, Unordered, World, around}
use Rattle.kq_run_gather.specs.kq_eval_pieces.Operators.{filtered, values_at}
use Rattle.kq_run_plan.specs.Operators.{Taken, cell_in_stage, in_stage, single, tally}
use Rattle.kq_run_sort.specs.Orders.{Sorted, Topped}
use Rattle.kq_run_plan.specs.Outcomes.{Row, cells_of, is_fault, order_of, outcome_at, rows_in, rows_of}
use Rattle.kq_run_plan.specs.Typed.{IsTypedBy, IsTypedCell, IsTypedTable, Stands, Stood, TypedWorld}
use Rattle.kq_run_plan.proofs.TypedGroups.{summarized_typed}
use Rattle.kq_run_plan.proofs.TypedOutcomes.{around_typed, cell_typed, rows_typed, staged_typed, table_typed, unordered_typed}
use Rattle.kq_run_plan.proofs.TypedReshaped.{apart_typed, expanded_typed, joined_typed, numbers_typed, united_typed}
use Rattle.kq_run_plan.proofs.TypedRows.{All-NoOftener, All-one, GivesRows, HasTypes-append, HasTypes-one, Surrounds, each_typed, filtered_typed, meaning_typed, single_typed, values_typed}

-- ---- operators

world_typed : (known : List ℕ → Option Known) (w : World) (kind : LeafKind) (name : List ℕ) (cs : List Field) (given : Computed (List Row))
    → TypedWorld known w → FitsLeaf kind (known name) cs → w name kind cs given → GivesRows cs given
world_typed known w kind name cs (Is rows) typed fits may = typed name kind cs rows fits may
world_typed known w kind name cs Overflow typed fits may = tt

leaf_typed : (known : List ℕ → Option Known) (w : World) (kind : LeafKind) (name : List ℕ) (cs : List Field) (stage : ℕ) (o : Outcome)
    → TypedWorld known w → FitsLeaf kind (known name) cs → Handed (w name kind cs) stage o → IsTypedTable cs o
leaf_typed known w kind name cs stage o typed fits (given, may, is) =
    unordered_typed cs stage given o is (world_typed known w kind name cs given typed fits may)

row_typed : (lets cs : List Field) (s : Surroundings) (es : List Term) (stage : ℕ) (o : Outcome)
    → Surrounds lets s → AreTyped lets [] es cs → o ≡ in_stage stage false (single es s) → IsTypedTable cs o
row_typed lets cs s es stage o around are is = staged_typed cs stage false (single es s) o is (single_typed lets cs s es around are)

scalar_typed : (lets cs : List Field) (s : Surroundings) (e : Term) (t : Ty) (stage : ℕ) (o : Outcome)
    → Surrounds lets s → map ty_of cs ≡ t ∷ [] → IsTyped lets [] e t → o ≡ cell_in_stage stage (meaning e s []) → IsTypedCell cs o
scalar_typed lets cs s e t stage o around one has is =
    subst (IsTypedCell cs) (sym is) (cell_typed cs t stage (meaning e s []) one (meaning_typed lets [] s [] e t around tt has))

kept_typed : (cs : List Field) (s : Surroundings) (e : Term) (rows : List Row) (stage : ℕ) (ordered : Bool) (o : Outcome)
    → All (HasTypes cs) rows → o ≡ in_stage stage ordered (filtered e s rows) → IsTypedTable cs o
kept_typed cs s e rows stage ordered o all is = staged_typed cs stage ordered (filtered e s rows) o is (filtered_typed cs e s rows all)

mapped_typed : (lets from cs : List Field) (s : Surroundings) (es : List Term) (rows : List Row) (stage : ℕ) (ordered : Bool) (o : Outcome)
    → Surrounds lets s → AreTyped lets from es cs → All (HasTypes from) rows → o ≡ in_stage stage ordered (each (values_at es s) rows)
    → IsTypedTable cs o
mapped_typed lets from cs s es rows stage ordered o around are all is =
    let came = each_typed from cs (values_at es s) (λ r has. values_typed lets from s r es cs around has are) rows all in
    staged_typed cs stage ordered (each (values_at es s) rows) o is came

cut_typed : (cs : List Field) (ordered : Bool) (rows : List Row) (n : ℕ) (o : Outcome)
    → All (HasTypes cs) rows → Taken ordered rows n o → IsTypedTable cs o
cut_typed cs true rows n o all is = table_typed cs true (take n rows) o is (All-take (HasTypes cs) n rows all)
cut_typed cs false rows n o all (few, many, less, is) = table_typed cs false few o is (All-NoOftener (HasTypes cs) few rows less all)

counted_typed : (cs : List Field) (rows : List Row) (o : Outcome)
    → map ty_of cs ≡ ty.Long ∷ [] → o ≡ outcome.Table false (tally rows) → IsTypedTable cs o
counted_typed cs rows o one is =
    let v = Long (pos (length rows)) in
    table_typed cs false (tally rows) o is (All-one cs (v ∷ []) (HasTypes-one cs ty.Long v one (refl, tt)))

in_order_typed : (cs : List Field) (ks : List Sorting) (s : Surroundings) (rows : List Row) (came : Computed (List Row))
    → All (HasTypes cs) rows → Sorted ks s rows came → GivesRows cs came
in_order_typed cs ks s rows (Is out) all (keys, computed, same, up) = All-Same (HasTypes cs) rows out (Same-sym out rows same) all
in_order_typed cs ks s rows Overflow all over = tt

sorted_typed : (cs : List Field) (ks : List Sorting) (s : Surroundings) (rows : List Row) (stage : ℕ) (o : Outcome)
    → All (HasTypes cs) rows → SortsTo ks s rows stage o → IsTypedTable cs o
sorted_typed cs ks s rows stage o all to = staged_typed cs stage true to.came o to.is (in_order_typed cs ks s rows to.came all to.sorted_so)

first_typed : (cs : List Field) (n : ℕ) (k : Sorting) (s : Surroundings) (rows : List Row) (came : Computed (List Row))
    → All (HasTypes cs) rows → Topped n k s rows came → GivesRows cs came
first_typed cs n k s rows (Is first) all (out, order, is) =
    subst (All (HasTypes cs)) (sym is) (All-take (HasTypes cs) n out (in_order_typed cs (k ∷ []) s rows (Is out) all order))
first_typed cs n k s rows Overflow all over = tt

topped_typed : (cs : List Field) (n : ℕ) (k : Sorting) (s : Surroundings) (rows : List Row) (stage : ℕ) (o : Outcome)
    → All (HasTypes cs) rows → TopsTo n k s rows stage o → IsTypedTable cs o
topped_typed cs n k s rows stage o all to = staged_typed cs stage true to.came o to.is (first_typed cs n k s rows to.came all to.topped_so)

-- a line for each operator: the rows of its inputs and what stands around them are typed, and so is what it gives
pub does_typed : (known : List ℕ → Option Known) (w : World) (now : ℤ) (before : List Stepping) (done : List Outcome) (stage : ℕ) (cs : List Field)
    (doing : Doing) (o : Outcome)
    → IsMoment now → TypedWorld known w → Stood before done → FitsStep known before doing cs → Does w now before done stage cs doing o
    → IsTypedBy doing cs o
does_typed known w now before done stage cs (leaf kind name) o m typed stood fits does = leaf_typed known w kind name cs stage o typed fits does
does_typed known w now before done stage cs (one_row es) o m typed stood fits does =
    row_typed (lets_of before) cs (around now done) es stage o (around_typed now before done m stood) fits does
does_typed known w now before done stage cs (written rows) o m typed stood fits does = table_typed cs false rows o does fits
does_typed known w now before done stage cs (scalar e) o m typed stood (t, one, has) does =
    scalar_typed (lets_of before) cs (around now done) e t stage o (around_typed now before done m stood) one has does
does_typed known w now before done stage cs (kept i e) o m typed stood (gives, has) does =
    kept_typed cs (around now done) e (rows_of done i) stage (order_of done i) o (rows_typed before done i cs stood gives) does
does_typed known w now before done stage cs (mapped i es) o m typed stood (from, gives, are) does =
    mapped_typed (lets_of before) from cs (around now done) es (rows_of done i) stage (order_of done i) o (around_typed now before done m stood) are
    (rows_typed before done i from stood gives) does
does_typed known w now before done stage cs (cut i n) o m typed stood gives does =
    cut_typed cs (order_of done i) (rows_of done i) n o (rows_typed before done i cs stood gives) does
does_typed known w now before done stage cs (counted i) o m typed stood (from, gives, one) does = counted_typed cs (rows_of done i) o one does
does_typed known w now before done stage cs (sorted i ks) o m typed stood (gives, keys) does =
    sorted_typed cs ks (around now done) (rows_of done i) stage o (rows_typed before done i cs stood gives) does
does_typed known w now before done stage cs (topped i n k) o m typed stood (gives, key) does =
    topped_typed cs n k (around now done) (rows_of done i) stage o (rows_typed before done i cs stood gives) does
does_typed known w now before done stage cs (numbers from to by) o m typed stood fits does =
    numbers_typed (lets_of before) cs (around now done) from to by stage o (around_typed now before done m stood) fits does
does_typed known w now before done stage cs (apart i is) o m typed stood (from, gives, have, flat) does =
    apart_typed from cs is (rows_of done i) o have (rows_typed before done i from stood gives) does
does_typed known w now before done stage cs (joined kind i j on) o m typed stood (ls, rs, left, right, match, is) does =
    joined_typed kind on before ls rs cs i j (rows_of done i) (rows_of done j) o left right (rows_typed before done i ls stood left) (rows_typed before done j rs stood right) is does
does_typed known w now before done stage cs (united arms) o m typed stood fits does = united_typed before done cs arms o stood fits does
does_typed known w now before done stage cs (expanded i e c t) o m typed stood (from, gives, has, is) does =
    expanded_typed (lets_of before) from cs (around now done) e c t (rows_of done i) stage o (around_typed now before done m stood) has is (rows_typed before done i from stood gives) does
does_typed known w now before done stage cs (summarized i es gs) o m typed stood (from, gives, ks, made, is, are, plain, fit) does =
    summarized_typed (lets_of before) from ks made cs (around now done) es gs (rows_of done i) stage o (around_typed now before done m stood) is are fit (rows_typed before done i from stood gives) does
