-- The rows of groups have the types of the keys and of the aggregates' columns.
use Rattle.std.proofs.Common.{◌≡◌, ℕ, zero, suc, Bool, true, false, cond, List, [], ◌∷◌, ◌++◌, length, map, refl, sym, subst, arith}
use Rattle.std.specs.List.{All}
use Rattle.std.proofs.lemmas.List.Elements.{All-nil, All-cons, All-head, All-tail}
use Rattle.kq_run_aggregates.specs.Aggregates.{aggregate_kind}
use Rattle.kq_run_aggregates.proofs.Typed.{GivesTypes, HaveTheTypes, finished-typed}
use Rattle.kq_run_aggregates.specs.Holds.{Cell}
use Rattle.kq_value.specs.Computed.{Computed, Is, Overflow, and_then}
use Rattle.kq_run_aggregates.specs.kq_plan.Fits.{FitsAggregate, ty_of}
use Rattle.kq_run_aggregates.specs.kq_plan.Plans.{Aggregating as Planned, rows_counted, summed, least_of, greatest_of, at_greatest, at_least, any_of, set_of}
use Rattle.kq_value.proofs.SameLemmas.{All-Same, Same-sym, rest_of}
use Rattle.kq_value.proofs.Types.{HasTypes-append}
use Rattle.kq_value.specs.Same.{NoOftener}
use Rattle.kq_value.specs.Typed.{HasTypes}
use Rattle.kq_value.specs.Values.{is_same_row}
use Rattle.kq_value.specs.declared.schema.Field.{Field}
use Rattle.kq_value.specs.declared.value.Value.{Value}
use Rattle.kq_run_groups.specs.Grouped.{AggregateShape, AreKeys, Cells, GroupRows, Grouped, args_of}

-- these are the plan's aggregates, over arguments of their types, and these are their columns one after another
abbrev pub FitTypes : List Field → List Field → List Planned → List AggregateShape → List (List (List Value)) → List Field → Type 0
FitTypes lets from [] [] [] cs = cs ≡ []
FitTypes lets from (g ∷ gs) (a ∷ others) (rows ∷ args) cs =
    (own : List Field) × (more : List Field)
    × (cs ≡ own ++ more) × (a ≡ record { kind = aggregate_kind g; types = map ty_of own }) × FitsAggregate lets from g own × HaveTheTypes g own rows × FitTypes lets from gs others args more
FitTypes lets from gs others args cs = ⊥

abbrev Row : Type 0
Row = List Value

-- ---- rows

All-front : (P : Row → Type 0) (a b : List Row) → All P (a ++ b) → All P a
All-front P [] b all = All-nil P
All-front P (x ∷ a) b all = All-cons P x a (All-head P x (a ++ b) all) (All-front P a b (All-tail P x (a ++ b) all))

All-NoOftener : (P : Row → Type 0) (few rows : List Row) → NoOftener few rows → All P rows → All P few
All-NoOftener P few rows less all =
    let more = rest_of few rows less in
    All-front P few more.0 (All-Same P rows (few ++ more.0) (Same-sym (few ++ more.0) rows more.1) all)

-- the rows of one key are some of the rows
All-cond : (P : Row → Type 0) (b : Bool) (r : Row) (rows : List Row) → P r → All P rows → All P (cond b (r ∷ rows) rows)
All-cond P true r rows has all = All-cons P r rows has all
All-cond P false r rows has all = all

All-args_of : (P : Row → Type 0) (k : Row) (keys rows : List Row) → All P rows → All P (args_of k keys rows)
All-args_of P k [] rows all = All-nil P
All-args_of P k (j ∷ keys) [] all = All-nil P
All-args_of P k (j ∷ keys) (r ∷ rows) all =
    All-cond P (is_same_row k j) r (args_of k keys rows) (All-head P r rows all) (All-args_of P k keys rows (All-tail P r rows all))

have_some : (g : Planned) (cs : List Field) (k : Row) (keys rows : List Row) → HaveTheTypes g cs rows → HaveTheTypes g cs (args_of k keys rows)
have_some rows_counted cs k keys rows have = tt
have_some (summed e) cs k keys rows have = tt
have_some (set_of e n) cs k keys rows have = tt
have_some (least_of e) cs k keys rows have = All-args_of (HasTypes cs) k keys rows have
have_some (greatest_of e) cs k keys rows have = All-args_of (HasTypes cs) k keys rows have
have_some (at_greatest e is) cs k keys rows have = All-args_of (HasTypes cs) k keys rows have
have_some (at_least e is) cs k keys rows have = All-args_of (HasTypes cs) k keys rows have
have_some (any_of is) cs k keys rows have = All-args_of (HasTypes cs) k keys rows have

-- ---- keys

keys_typed : (width : ℕ) (ks : List Field) (keys groups : List Row) → length ks ≡ width → All (HasTypes ks) keys → AreKeys width keys groups → All (HasTypes ks) groups
keys_typed zero [] keys groups wide all are = subst (All (HasTypes [])) (sym are) (All-cons (HasTypes []) [] [] tt (All-nil (HasTypes [])))
keys_typed zero (f ∷ ks) keys groups wide all are = absurd (omega (arith, wide))
keys_typed (suc width) ks keys groups wide all are =
    All-NoOftener (HasTypes ks) groups keys (record { each = λ k. let e = are.each k in omega (arith, e) }) all

-- ---- cells

both_typed : (own more : List Field) (c d : Computed Row) → GivesTypes own c → GivesTypes more d → GivesTypes (own ++ more) (and_then c (λ x. and_then d (λ y. Is (x ++ y))))
both_typed own more (Is x) (Is y) p q = HasTypes-append own more x y p q
both_typed own more (Is x) Overflow p q = tt
both_typed own more Overflow d p q = tt

-- what an aggregate of these columns may give
cell_typed : (lets from own : List Field) (g : Planned) (a : AggregateShape) (rows : List Row) (c : Computed Row)
    → a ≡ record { kind = aggregate_kind g; types = map ty_of own } → FitsAggregate lets from g own → HaveTheTypes g own rows → Cell a.kind a.types rows c → GivesTypes own c
cell_typed lets from own g a rows c is fits have cell =
    let (kept, holds, ends) = subst (λ (b : AggregateShape). Cell b.kind b.types rows c) is cell in
    subst (GivesTypes own) ends (finished-typed lets from g own rows kept fits have holds)

cells_typed : (lets from : List Field) (gs : List Planned) (aggregates : List AggregateShape) (key : Row) (keys : List Row) (args : List (List Row)) (made : List Field) (c : Computed Row)
    → FitTypes lets from gs aggregates args made → Cells aggregates key keys args c → GivesTypes made c
cells_typed lets from [] [] key keys [] made c fit is = rw (fit, is) tt
cells_typed lets from [] [] key keys (rows ∷ args) made c fit is = absurd fit
cells_typed lets from [] (a ∷ aggregates) key keys args made c fit is = absurd fit
cells_typed lets from (g ∷ gs) [] key keys args made c fit is = absurd fit
cells_typed lets from (g ∷ gs) (a ∷ aggregates) key keys [] made c fit is = absurd fit
cells_typed lets from (g ∷ gs) (a ∷ aggregates) key keys (rows ∷ args) made c (own, more, apart, same, fits, have, later) (first, rest, cell, cells, is) =
    rw (apart, is)
    (both_typed own more first rest (cell_typed lets from own g a (args_of key keys rows) first same fits (have_some g own key keys rows have) cell)
    (cells_typed lets from gs aggregates key keys args more rest later cells))

-- ---- rows of groups

-- rows of these types, or an overflow
abbrev GiveTypes : List Field → Computed (List Row) → Type 0
GiveTypes cs (Is rows) = All (HasTypes cs) rows
GiveTypes cs Overflow = Unit {0}

row_and_rows : (ks made : List Field) (k : Row) (c : Computed Row) (others : Computed (List Row)) → HasTypes ks k → GivesTypes made c → GiveTypes (ks ++ made) others
    → GiveTypes (ks ++ made) (and_then c (λ x. and_then others (λ rows. Is ((k ++ x) ∷ rows))))
row_and_rows ks made k (Is x) (Is rows) key cells more = All-cons (HasTypes (ks ++ made)) (k ++ x) rows (HasTypes-append ks made k x key cells) more
row_and_rows ks made k (Is x) Overflow key cells more = tt
row_and_rows ks made k Overflow others key cells more = tt

rows_typed : (lets from : List Field) (gs : List Planned) (aggregates : List AggregateShape) (ks made : List Field) (groups keys : List Row) (args : List (List Row)) (c : Computed (List Row))
    → FitTypes lets from gs aggregates args made → All (HasTypes ks) groups → GroupRows aggregates groups keys args c → GiveTypes (ks ++ made) c
rows_typed lets from gs aggregates ks made [] keys args c fit all is = rw is (All-nil (HasTypes (ks ++ made)))
rows_typed lets from gs aggregates ks made (k ∷ groups) keys args c fit all (first, others, cells, later, is) =
    rw is
    (row_and_rows ks made k first others (All-head (HasTypes ks) k groups all) (cells_typed lets from gs aggregates k keys args made first fit cells)
    (rows_typed lets from gs aggregates ks made groups keys args others fit (All-tail (HasTypes ks) k groups all) later))

-- over keys and arguments of their types, the rows of groups have the types of the keys and then of the aggregates
pub grouped-typed : (lets from : List Field) (gs : List Planned) (aggregates : List AggregateShape) (ks made : List Field) (keys : List Row) (args : List (List Row)) (rows : List Row)
    → All (HasTypes ks) keys → FitTypes lets from gs aggregates args made → Grouped (length ks) aggregates keys args (Is rows) → All (HasTypes (ks ++ made)) rows
grouped-typed lets from gs aggregates ks made keys args rows all fit (groups, are, so) =
    rows_typed lets from gs aggregates ks made groups keys args (Is rows) fit (keys_typed (length ks) ks keys groups refl all are) so
