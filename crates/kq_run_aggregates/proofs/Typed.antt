-- What aggregates give has the types of their columns.
use Rattle.std.proofs.Common.{◌≡◌, ◌⊎◌, inl, inr, ℤ, Bool, true, false, List, [], ◌∷◌, map, Option, Some, None, refl}
use Rattle.std.specs.Prelude.{if◌then◌else◌}
use Rattle.std.specs.declared.cmp.Ordering.{Ordering}
use Rattle.std.specs.List.{All}
use Rattle.std.proofs.lemmas.List.Elements.{All-contains, All-filter, All-map, All-weaker}
use Rattle.kq_value.specs.Computed.{Is, Overflow, and_then, Computed}
use Rattle.kq_plan.specs.Fits.{FitsAggregate, ty_of}
use Rattle.kq_plan.specs.Plans.{Aggregating, rows_counted, summed as sum_of, least_of, greatest_of, at_greatest, at_least, any_of, set_of}
use Rattle.kq_value.specs.Typed.{HasType, HasTypes, missing_of}
use Rattle.kq_value.specs.declared.schema.Field.{Field}
use Rattle.kq_value.specs.declared.ty.Ty.{Ty}
use Rattle.kq_value.specs.declared.ty.Ty.TheVariants as ty
use Rattle.kq_value.specs.declared.value.Value.{Value}
use Rattle.kq_value.specs.declared.value.Value.TheVariants.{Long, Span}
use Rattle.kq_value_conversions.specs.kq_value_formats.Numerals.{is_long}
use Rattle.kq_run_aggregates.specs.Aggregates.{aggregate_kind}
use Rattle.kq_run_aggregates.specs.Holds.{Kept, counted, summed, extreme, chosen, collected, Holds, Cell, finished, firsts, present, is_present}
use Rattle.kq_run_aggregates.specs.Ranks.{first_of, side_cmp, choice_cmp, IsLast}
use Rattle.kq_run_aggregates.specs.declared.kind.Kind.{Kind}
use Rattle.kq_run_aggregates.proofs.Chosen.{last_from_IsTakenBy, last_from_IsAnyOf}
use Rattle.kq_run_aggregates.specs.declared.kind.Side.TheVariants as side
use Rattle.kq_run_aggregates.specs.declared.kind.Choice.TheVariants as choice

-- the rows of arguments of the aggregates that give some of these have the types of what is given
abbrev pub HaveTheTypes : Aggregating → List Field → List (List Value) → Type 0
HaveTheTypes rows_counted cs rows = Unit {0}
HaveTheTypes (sum_of e) cs rows = Unit {0}
HaveTheTypes (set_of e n) cs rows = Unit {0}
HaveTheTypes g cs rows = All (HasTypes cs) rows

-- the cells, if there are any, are ones of these columns
abbrev pub GivesTypes : List Field → Computed (List Value) → Type 0
GivesTypes cs (Is cells) = HasTypes cs cells
GivesTypes cs Overflow = Unit {0}

abbrev pub Rows : Type 0
Rows = List (List Value)

-- what a state ends with is what the aggregate may give over its rows
pub Cell-finished : (k : Kind) (ts : List Ty) (rows : Rows) (kept : Kept) → Holds k rows kept → Cell k ts rows (finished ts kept)
Cell-finished k ts rows kept h = (kept, h, refl)

one_typed : (cs : List Field) (t : Ty) (v : Value) → map ty_of cs ≡ t ∷ [] → HasType t v → HasTypes cs (v ∷ [])
one_typed [] t v e h = absurd cc
one_typed (c ∷ []) t v e h = let same : c.ty ≡ t = cc in (rw same h, tt)
one_typed (c ∷ d ∷ cs) t v e h = absurd cc

missing_typed : (t : Ty) → HasType t (missing_of t)
missing_typed ty.Long = (refl, (λ e. absurd cc, λ e. absurd cc))
missing_typed ty.Int = (refl, (λ e. absurd cc, λ e. absurd cc))
missing_typed ty.Text = (refl, tt)
missing_typed ty.Bool = (refl, (λ e. absurd cc, λ e. absurd cc))
missing_typed ty.Moment = (refl, (λ e. absurd cc, λ e. absurd cc))
missing_typed ty.Span = (refl, (λ e. absurd cc, λ e. absurd cc))
missing_typed ty.Dynamic = (refl, tt)

all_missing : (cs : List Field) → HasTypes cs (map missing_of (map ty_of cs))
all_missing [] = tt
all_missing (c ∷ cs) = (missing_typed c.ty, all_missing cs)

-- ---- sums

tested : (cs : List Field) (t : Ty) (v : Value) (b : Bool) → map ty_of cs ≡ t ∷ [] → HasType t v → GivesTypes cs (and_then (if b then Is v else Overflow) (λ w. Is (w ∷ [])))
tested cs t v true e h = one_typed cs t v e h
tested cs t v false e h = tt

sum_typed : (cs : List Field) (t : Ty) (z : ℤ) → map ty_of cs ≡ t ∷ [] → (t ≡ ty.Long) ⊎ (t ≡ ty.Span) → GivesTypes cs (finished (map ty_of cs) (summed z))
sum_typed cs t z e (inl l) = let f : map ty_of cs ≡ ty.Long ∷ [] = cc in rw f (tested cs ty.Long (Long z) (is_long z) f (refl, tt))
sum_typed cs t z e (inr s) = let f : map ty_of cs ≡ ty.Span ∷ [] = cc in rw f (tested cs ty.Span (Span z) (is_long z) f (refl, tt))

-- ---- the least and the greatest

first_typed : (cs : List Field) (t : Ty) (row : List Value) → map ty_of cs ≡ t ∷ [] → HasTypes cs row → HasType t (first_of row)
first_typed [] t row e h = absurd cc
first_typed (c ∷ cs) t [] e h = absurd h
first_typed (c ∷ cs) t (v ∷ row) e h = let same : c.ty ≡ t = cc in rw same at h.0

extreme_typed : (cs : List Field) (t : Ty) (rows : Rows) (cmp : Value → Value → Ordering) (o : Option Value) → map ty_of cs ≡ t ∷ [] → All (HasTypes cs) rows
    → IsLast cmp (present (firsts rows)) o → GivesTypes cs (finished (map ty_of cs) (extreme o))
extreme_typed cs t rows cmp None e all h = all_missing cs
extreme_typed cs t rows cmp (Some v) e all h =
    let typed : All (HasType t) (firsts rows) =
    All-map (HasType t) first_of rows (All-weaker (HasTypes cs) (λ (row : List Value). HasType t (first_of row)) (λ row. first_typed cs t row e) rows all) in
    one_typed cs t v e (All-contains (HasType t) (present (firsts rows)) v (All-filter is_present (HasType t) (firsts rows) typed) h.0)

-- ---- rows

chosen_typed : (cs : List Field) (rows : Rows) (cmp : List Value → List Value → Ordering) (o : Option (List Value)) → All (HasTypes cs) rows → IsLast cmp rows o
    → GivesTypes cs (finished (map ty_of cs) (chosen o))
chosen_typed cs rows cmp None all h = all_missing cs
chosen_typed cs rows cmp (Some row) all h = All-contains (HasTypes cs) rows row all h.0

-- ---- all aggregates

abbrev Finishes-typed : Aggregating → List Field → Rows → Kept → Type 0
Finishes-typed g cs rows kept = Holds (aggregate_kind g) rows kept → GivesTypes cs (finished (map ty_of cs) kept)

pub finished-typed : (lets from : List Field) (g : Aggregating) (cs : List Field) (rows : Rows) (kept : Kept) → FitsAggregate lets from g cs
    → HaveTheTypes g cs rows → Finishes-typed g cs rows kept
finished-typed lets from rows_counted cs rows kept fits typed =
    elim kept as (Finishes-typed rows_counted cs rows) [
      | counted n ↦ λ h. one_typed cs ty.Long _ fits (refl, tt)
      | summed z ↦ λ h. absurd h
      | extreme o ↦ λ h. absurd h
      | chosen o ↦ λ h. absurd h
      | collected vs ↦ λ h. absurd h
    ]
finished-typed lets from (sum_of e) cs rows kept fits typed =
    elim kept as (Finishes-typed (sum_of e) cs rows) [
      | counted n ↦ λ h. absurd h
      | summed z ↦ λ h. sum_typed cs fits.0 z fits.1 fits.3
      | extreme o ↦ λ h. absurd h
      | chosen o ↦ λ h. absurd h
      | collected vs ↦ λ h. absurd h
    ]
finished-typed lets from (least_of e) cs rows kept fits typed =
    elim kept as (Finishes-typed (least_of e) cs rows) [
      | counted n ↦ λ h. absurd h
      | summed z ↦ λ h. absurd h
      | extreme o ↦ λ h. extreme_typed cs fits.0 rows (side_cmp side.Least) o fits.1 typed h
      | chosen o ↦ λ h. absurd h
      | collected vs ↦ λ h. absurd h
    ]
finished-typed lets from (greatest_of e) cs rows kept fits typed =
    elim kept as (Finishes-typed (greatest_of e) cs rows) [
      | counted n ↦ λ h. absurd h
      | summed z ↦ λ h. absurd h
      | extreme o ↦ λ h. extreme_typed cs fits.0 rows (side_cmp side.Greatest) o fits.1 typed h
      | chosen o ↦ λ h. absurd h
      | collected vs ↦ λ h. absurd h
    ]
finished-typed lets from (at_greatest e is) cs rows kept fits typed =
    elim kept as (Finishes-typed (at_greatest e is) cs rows) [
      | counted n ↦ λ h. absurd h
      | summed z ↦ λ h. absurd h
      | extreme o ↦ λ h. absurd h
      | chosen o ↦ λ h. chosen_typed cs rows (choice_cmp (choice.By side.Greatest)) o typed (last_from_IsTakenBy side.Greatest rows o h)
      | collected vs ↦ λ h. absurd h
    ]
finished-typed lets from (at_least e is) cs rows kept fits typed =
    elim kept as (Finishes-typed (at_least e is) cs rows) [
      | counted n ↦ λ h. absurd h
      | summed z ↦ λ h. absurd h
      | extreme o ↦ λ h. absurd h
      | chosen o ↦ λ h. chosen_typed cs rows (choice_cmp (choice.By side.Least)) o typed (last_from_IsTakenBy side.Least rows o h)
      | collected vs ↦ λ h. absurd h
    ]
finished-typed lets from (any_of is) cs rows kept fits typed =
    elim kept as (Finishes-typed (any_of is) cs rows) [
      | counted n ↦ λ h. absurd h
      | summed z ↦ λ h. absurd h
      | extreme o ↦ λ h. absurd h
      | chosen o ↦ λ h. chosen_typed cs rows (choice_cmp choice.Any) o typed (last_from_IsAnyOf rows o h)
      | collected vs ↦ λ h. absurd h
    ]
finished-typed lets from (set_of e n) cs rows kept fits typed =
    elim kept as (Finishes-typed (set_of e n) cs rows) [
      | counted n ↦ λ h. absurd h
      | summed z ↦ λ h. absurd h
      | extreme o ↦ λ h. absurd h
      | chosen o ↦ λ h. absurd h
      | collected vs ↦ λ h. one_typed cs ty.Dynamic _ fits.2 (refl, tt)
    ]
