-- What a summarize comes to is typed.
use Rattle.std.proofs.Common.{◌≡◌, ◌+◌, false, ℕ, suc, List, [], ◌∷◌, ◌++◌, drop, length, map, take, refl, sym, ap, ◌∙◌, subst, arith, length-append}
use Rattle.std.specs.List.{All}
use Rattle.kq_run_gather.specs.kq_run_aggregates.Aggregates.{aggregate_kind}
use Rattle.kq_run_gather.proofs.kq_run_aggregates.Typed.{HaveTheTypes}
use Rattle.kq_value.specs.Computed.{Computed, Is, Overflow, and_then, each}
use Rattle.kq_plan_expressions.specs.Terms.{Term}
use Rattle.kq_run_gather.proofs.kq_run_groups.Typed.{grouped-typed, FitTypes}
use Rattle.kq_run_gather.specs.kq_run_groups.Grouped.{Grouped}
use Rattle.kq_plan.specs.Fits.{AreTyped, FitAggregates, FitsAggregate, HaveTypes, ty_of}
use Rattle.kq_plan.specs.Plans.{Aggregating, rows_counted, summed, least_of, greatest_of, at_greatest, at_least, any_of, set_of}
use Rattle.kq_run_reshape.proofs.Typed.{chosen_typed}
use Rattle.kq_run_reshape.specs.Distinct.{chosen}
use Rattle.kq_run_gather.specs.kq_eval_row.Val.{Surroundings}
use Rattle.kq_value.proofs.Types.{HasTypes-append}
use Rattle.kq_value.specs.declared.schema.Field.{Field}
use Rattle.kq_value.specs.declared.ty.Ty.{Ty}
use Rattle.kq_value.specs.Typed.{HasTypes}
use Rattle.kq_run_plan.specs.declared.outcome.Outcome.{Outcome}
use Rattle.kq_run_gather.specs.Grouping.{ThenComes, all_made, arguments_at, arguments_over, columns_made, columns_taken, terms_taken, under}
use Rattle.kq_run_plan.specs.Grouping.{GroupsTo}
use Rattle.kq_run_gather.specs.kq_eval_pieces.Operators.{values_at}
use Rattle.kq_run_plan.specs.Outcomes.{Row}
use Rattle.kq_run_plan.specs.Typed.{IsTypedTable}
use Rattle.kq_run_gather.proofs.Arguments.{each_parts}
use Rattle.kq_run_gather.proofs.Columns.{length-AreTyped, width_made}
use Rattle.kq_run_plan.proofs.TypedOutcomes.{staged_typed}
use Rattle.kq_run_plan.proofs.TypedRows.{GivesRow, GivesRows, Surrounds, each_typed, values_typed}

-- ---- the types of arguments

more_typed : (first others : List Field) (c : Computed Row) (cells : Row) → GivesRow first c → HasTypes others cells → GivesRow (first ++ others) (and_then c (λ vs. Is (vs ++ cells)))
more_typed first others (Is vs) cells has more = HasTypes-append first others vs cells has more
more_typed first others Overflow cells has more = tt

-- the arguments over a row have the types of the terms, and then those of the columns
arguments_typed : (lets from first others : List Field) (g : Aggregating) (s : Surroundings) (r : Row) → Surrounds lets s → AreTyped lets from (terms_taken g) first → HaveTypes from (columns_taken g) others → HasTypes from r
    → GivesRow (first ++ others) (arguments_at g s r)
arguments_typed lets from first others g s r around are have typed =
    more_typed first others (values_at (terms_taken g) s r) (chosen (columns_taken g) r) (values_typed lets from s r (terms_taken g) first around typed are) (chosen_typed from r (columns_taken g) others typed have)

given_rows : (cs : List Field) (c : Computed (List Row)) (rows : List Row) → GivesRows cs c → c ≡ Is rows → All (HasTypes cs) rows
given_rows cs c rows gives is = subst (GivesRows cs) is gives

all_typed : (lets from first others : List Field) (g : Aggregating) (s : Surroundings) (rows args : List Row) → Surrounds lets s → AreTyped lets from (terms_taken g) first → HaveTypes from (columns_taken g) others
    → All (HasTypes from) rows → arguments_over s rows g ≡ Is args → All (HasTypes (first ++ others)) args
all_typed lets from first others g s rows args around are have all is =
    given_rows (first ++ others) (arguments_over s rows g) args
    (each_typed from (first ++ others) (arguments_at g s) (λ r typed. arguments_typed lets from first others g s r around are have typed) rows all) is

-- the arguments of an aggregate have the types that it asks for
have_types : (lets from : List Field) (g : Aggregating) (cs : List Field) (s : Surroundings) (rows args : List Row) → Surrounds lets s → FitsAggregate lets from g cs → All (HasTypes from) rows → arguments_over s rows g ≡ Is args
    → HaveTheTypes g cs args
have_types lets from rows_counted cs s rows args around fits all is = tt
have_types lets from (summed e) cs s rows args around fits all is = tt
have_types lets from (set_of e n) cs s rows args around fits all is = tt
have_types lets from (least_of e) [] s rows args around (t, one, has, plain) all is = absurd cc
have_types lets from (least_of e) (c ∷ []) s rows args around (t, one, has, plain) all is =
    let same : c.ty ≡ t = cc in
    all_typed lets from (c ∷ []) [] (least_of e) s rows args around (rw same has, tt) tt all is
have_types lets from (least_of e) (c ∷ d ∷ cs) s rows args around (t, one, has, plain) all is = absurd cc
have_types lets from (greatest_of e) [] s rows args around (t, one, has, plain) all is = absurd cc
have_types lets from (greatest_of e) (c ∷ []) s rows args around (t, one, has, plain) all is =
    let same : c.ty ≡ t = cc in
    all_typed lets from (c ∷ []) [] (greatest_of e) s rows args around (rw same has, tt) tt all is
have_types lets from (greatest_of e) (c ∷ d ∷ cs) s rows args around (t, one, has, plain) all is = absurd cc
have_types lets from (at_greatest e columns) [] s rows args around fits all is = absurd fits
have_types lets from (at_greatest e columns) (c ∷ cs) s rows args around (has, plain, have) all is = all_typed lets from (c ∷ []) cs (at_greatest e columns) s rows args around (has, tt) have all is
have_types lets from (at_least e columns) [] s rows args around fits all is = absurd fits
have_types lets from (at_least e columns) (c ∷ cs) s rows args around (has, plain, have) all is = all_typed lets from (c ∷ []) cs (at_least e columns) s rows args around (has, tt) have all is
have_types lets from (any_of columns) cs s rows args around fits all is = all_typed lets from [] cs (any_of columns) s rows args around tt fits all is

-- ---- aggregates under their columns

front_types : (own more : List Field) → take (length own) (map ty_of (own ++ more)) ≡ map ty_of own
front_types [] more = refl
front_types (c ∷ own) more = ap (λ (ts : List Ty). c.ty ∷ ts) (front_types own more)

rest_types : (own more : List Field) → drop (length own) (map ty_of (own ++ more)) ≡ map ty_of more
rest_types [] more = refl
rest_types (c ∷ own) more = rest_types own more

rest_fields : (own more : List Field) → drop (length own) (own ++ more) ≡ more
rest_fields [] more = refl
rest_fields (c ∷ own) more = rest_fields own more

fit_types : (lets from : List Field) (gs : List Aggregating) (made : List Field) (s : Surroundings) (rows : List Row) (args : List (List Row)) → Surrounds lets s → FitAggregates lets from gs made → All (HasTypes from) rows
    → each (arguments_over s rows) gs ≡ Is args → FitTypes lets from gs (under gs (map ty_of made)) args made
fit_types lets from [] made s rows args around fit all e = let is : args ≡ [] = cc in subst (λ (those : List (List Row)). FitTypes lets from [] [] those made) (sym is) fit
fit_types lets from (g ∷ gs) made s rows args around (own, more, apart, fits, fit) all e =
    let (first, others, one, rest, is) = each_parts (arguments_over s rows g) (each (arguments_over s rows) gs) args e in
    let many = width_made lets from g own fits in
    let front : take (columns_made g) (map ty_of made) ≡ map ty_of own =
    ap (λ (cs : List Field). take (columns_made g) (map ty_of cs)) apart ∙ ap (λ (n : ℕ). take n (map ty_of (own ++ more))) (sym many) ∙ front_types own more in
    let behind : drop (columns_made g) (map ty_of made) ≡ map ty_of more =
    ap (λ (cs : List Field). drop (columns_made g) (map ty_of cs)) apart ∙ ap (λ (n : ℕ). drop n (map ty_of (own ++ more))) (sym many) ∙ rest_types own more in
    let later = fit_types lets from gs more s rows others around fit all rest in
    subst (λ (those : List (List Row)). FitTypes lets from (g ∷ gs) (under (g ∷ gs) (map ty_of made)) those made) (sym is) (
      own,
      more,
      apart,
      ap (λ (ts : List Ty). record { kind = aggregate_kind g; types = ts }) front,
      fits,
      have_types lets from g own s rows first around fits all one,
      subst (λ (ts : List Ty). FitTypes lets from gs (under gs ts) others more) (sym behind) later,
    )

-- ---- groups

grouped_typed : (lets from ks made : List Field) (gs : List Aggregating) (keys : List Row) (args : List (List Row)) (n : ℕ) (ts : List Ty) (came : Computed (List Row)) → n ≡ length ks → ts ≡ map ty_of made
    → All (HasTypes ks) keys → FitTypes lets from gs (under gs (map ty_of made)) args made → Grouped n (under gs ts) keys args came → GivesRows (ks ++ made) came
grouped_typed lets from ks made gs keys args n ts (Is rows) wide is all fit so =
    grouped-typed lets from gs (under gs (map ty_of made)) ks made keys args rows all fit
    (subst (λ (us : List Ty). Grouped (length ks) (under gs us) keys args (Is rows)) is (subst (λ (m : ℕ). Grouped m (under gs ts) keys args (Is rows)) wide so))
grouped_typed lets from ks made gs keys args n ts Overflow wide is all fit so = tt

came_typed : {A : Type 0} (cs : List Field) (c : Computed A) (these : A → Computed (List Row) → Type 0) (came : Computed (List Row)) → ((x : A) → c ≡ Is x → these x came → GivesRows cs came) → ThenComes c these came → GivesRows cs came
came_typed {A} cs (Is x) these came typed so = typed x refl so
came_typed {A} cs Overflow these came typed so = subst (GivesRows cs) (sym so) tt

pub summarized_typed : (lets from ks made cs : List Field) (s : Surroundings) (es : List Term) (gs : List Aggregating) (rows : List Row) (stage : ℕ) (o : Outcome)
    → Surrounds lets s → cs ≡ ks ++ made → AreTyped lets from es ks → FitAggregates lets from gs made → All (HasTypes from) rows → GroupsTo es gs cs s rows stage o → IsTypedTable cs o
summarized_typed lets from ks made cs s es gs rows stage o around is are fit all to =
    let long = length-AreTyped lets from es ks are in
    let types : map ty_of (drop (length es) cs) ≡ map ty_of made =
    ap (λ (fs : List Field). map ty_of (drop (length es) fs)) is ∙ ap (λ (n : ℕ). map ty_of (drop n (ks ++ made))) long ∙ ap (map ty_of) (rest_fields ks made) in
    let keyed = each_typed from ks (values_at es s) (λ r typed. values_typed lets from s r es ks around typed are) rows all in
    staged_typed cs stage false to.came o to.is
    (subst (λ (fs : List Field). GivesRows fs to.came) (sym is)
    (came_typed (ks ++ made) (each (values_at es s) rows) _ to.came
    (λ keys one. came_typed (ks ++ made) (each (arguments_over s rows) gs) _ to.came
    (λ args more. grouped_typed lets from ks made gs keys args (length es) (map ty_of (drop (length es) cs)) to.came long types (given_rows ks (each (values_at es s) rows) keys keyed one)
    (fit_types lets from gs made s rows args around fit all more)))
    to.grouped_so))
