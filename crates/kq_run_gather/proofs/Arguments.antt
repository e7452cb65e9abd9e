-- The arguments of aggregates over rows.
use Rattle.std.proofs.Common.{◌≡◌, ◌<◌, ◌+◌, ◌-◌, ℕ, suc, List, [], ◌∷◌, ◌++◌, drop, get_or, length, map, take, Err, refl, sym, ap, ◌∙◌, subst, arith, append_assoc, length-append, replicate}
use Rattle.std.proofs.Math.Seq.{drop-cons}
use Rattle.std.specs.List.{All}
use Rattle.std.proofs.lemmas.List.{length-drop, length-map, length-take, take_all}
use Rattle.std.proofs.lemmas.List.Elements.{All-cons, All-nil}
use Rattle.kq_run_aggregates.specs.Aggregates.{aggregate_kind}
use Rattle.kq_run_aggregates.specs.Alone.{each_alone}
use Rattle.kq_value.specs.Computed.{Answers, AnswersAs, Computed, Is, Overflow, and_then, each}
use Rattle.kq_value.specs.declared.fault.EvalFault.{EvalFault}
use Rattle.kq_value.specs.declared.fault.EvalFault.TheVariants as fault
use Rattle.kq_plan_expressions.specs.Terms.{Term}
use Rattle.kq_run_groups.specs.Grouped.{FitArgs, FitsArgs}
use Rattle.kq_plan.specs.Fits.{ty_of}
use Rattle.kq_plan.specs.Plans.{Aggregating, rows_counted, summed, least_of, greatest_of, at_greatest, at_least, any_of, set_of}
use Rattle.kq_run_scan.specs.kq_run_reshape.Cells.{cell_at}
use Rattle.kq_run_scan.specs.kq_run_reshape.Distinct.{chosen}
use Rattle.kq_store_rows.specs.Chunks.{HasWidth}
use Rattle.kq_run_scan.specs.kq_eval_row.Val.{Surroundings, meaning}
use Rattle.kq_value.specs.declared.schema.Field.{Field}
use Rattle.kq_value.specs.declared.ty.Ty.{Ty}
use Rattle.kq_value.specs.declared.value.Value.{Value}
use Rattle.kq_run_gather.specs.Grouping.{TakesAlone, all_made, arguments_at, arguments_over, columns_made, columns_taken, one_argument, terms_taken, under}
use Rattle.kq_run_scan.specs.kq_eval_pieces.Operators.{Row, values_at}

-- ---- what comes one by one

-- the parts of a list that came to be
pub each_parts : {A : Type 0} (c : Computed A) (rest : Computed (List A)) (ys : List A) → and_then c (λ y. and_then rest (λ zs. Is (y ∷ zs))) ≡ Is ys
    → (y : A) × (zs : List A) × (c ≡ Is y) × (rest ≡ Is zs) × (ys ≡ y ∷ zs)
each_parts Overflow rest ys e = absurd cc
each_parts (Is y) Overflow ys e = absurd cc
each_parts (Is y) (Is zs) ys e = (y, zs, refl, refl, cc)

pub length-each : {A B : Type 0} (f : A → Computed B) (xs : List A) (ys : List B) → each f xs ≡ Is ys → length ys ≡ length xs
length-each {A} {B} f [] ys e = let is : ys ≡ [] = cc in ap length is
length-each {A} {B} f (x ∷ xs) ys e =
    let (y, zs, one, more, is) = each_parts (f x) (each f xs) ys e in
    ap length is ∙ ap suc (length-each f xs zs more)

pub each_all : {A B : Type 0} (P : B → Type 0) (f : A → Computed B) (xs : List A) (ys : List B) → ((x : A) (y : B) → f x ≡ Is y → P y) → each f xs ≡ Is ys → All P ys
each_all {A} {B} P f [] ys has e = let is : ys ≡ [] = cc in subst (All P) (sym is) (All-nil P)
each_all {A} {B} P f (x ∷ xs) ys has e =
    let (y, zs, one, more, is) = each_parts (f x) (each f xs) ys e in
    subst (All P) (sym is) (All-cons P y zs (has x y one) (each_all P f xs zs has more))

-- ---- widths

pub values_wide : (es : List Term) (s : Surroundings) (r : Row) (vs : Row) → values_at es s r ≡ Is vs → length vs ≡ length es
values_wide [] s r vs e = let is : vs ≡ [] = cc in ap length is
values_wide (t ∷ es) s r vs e =
    let (v, ws, one, more, is) = each_parts (meaning t s r) (values_at es s r) vs e in
    ap length is ∙ ap suc (values_wide es s r ws more)

longer : (c : Computed Row) (more vs : Row) (n : ℕ) → ((xs : Row) → c ≡ Is xs → length xs ≡ n) → and_then c (λ xs. Is (xs ++ more)) ≡ Is vs → length vs ≡ n + length more
longer Overflow more vs n wide e = absurd cc
longer (Is xs) more vs n wide e = let is : vs ≡ xs ++ more = cc in ap length is ∙ length-append xs more ∙ ap (λ (m : ℕ). m + length more) (wide xs refl)

arguments_wide : (g : Aggregating) (s : Surroundings) (r : Row) (vs : Row) → arguments_at g s r ≡ Is vs → length vs ≡ length (terms_taken g) + length (columns_taken g)
arguments_wide g s r vs e =
    longer (values_at (terms_taken g) s r) (chosen (columns_taken g) r) vs (length (terms_taken g)) (values_wide (terms_taken g) s r) e
    ∙ ap (λ (m : ℕ). length (terms_taken g) + m) (length-map (columns_taken g) (cell_at r))

-- ---- arguments fit their aggregates

whole_rows : (g : Aggregating) (s : Surroundings) (rows args : List Row) (n : ℕ) → n ≡ length (terms_taken g) + length (columns_taken g) → arguments_over s rows g ≡ Is args → All (HasWidth n) args
whole_rows g s rows args n is e = each_all (HasWidth n) (arguments_at g s) rows args (λ r vs one. arguments_wide g s r vs one ∙ sym is) e

fits_args : (g : Aggregating) (s : Surroundings) (rows args : List Row) (ts : List Ty) → length ts ≡ columns_made g → arguments_over s rows g ≡ Is args → FitsArgs (aggregate_kind g) ts args
fits_args rows_counted s rows args ts long e = long
fits_args (summed t) s rows args ts long e = long
fits_args (least_of t) s rows args ts long e = long
fits_args (greatest_of t) s rows args ts long e = long
fits_args (set_of t n) s rows args ts long e = long
fits_args (at_greatest t is) s rows args ts long e = whole_rows (at_greatest t is) s rows args (length ts) (omega (arith, long)) e
fits_args (at_least t is) s rows args ts long e = whole_rows (at_least t is) s rows args (length ts) (omega (arith, long)) e
fits_args (any_of is) s rows args ts long e = whole_rows (any_of is) s rows args (length ts) (omega (arith, long)) e

pub fit_args : (gs : List Aggregating) (s : Surroundings) (rows : List Row) (ts : List Ty) (args : List (List Row)) → length ts ≡ all_made gs → each (arguments_over s rows) gs ≡ Is args → FitArgs (under gs ts) args
fit_args [] s rows ts args long e = let is : args ≡ [] = cc in subst (FitArgs []) (sym is) tt
fit_args (g ∷ gs) s rows ts args long e =
    let (first, others, one, more, is) = each_parts (arguments_over s rows g) (each (arguments_over s rows) gs) args e in
    let n = columns_made g in
    let own : length (take n ts) ≡ n = omega (arith, long, length-take n ts) in
    let left : length (drop n ts) ≡ all_made gs = omega (arith, long, length-drop n ts) in
    subst (FitArgs (under (g ∷ gs) ts)) (sym is) (fits_args g s rows first (take n ts) own one, fit_args gs s rows (drop n ts) others left more)

pub args_along : (gs : List Aggregating) (s : Surroundings) (rows : List Row) (args : List (List Row)) (n : ℕ) → n ≡ length rows → each (arguments_over s rows) gs ≡ Is args → All (λ (those : List Row). length those ≡ n) args
args_along gs s rows args n is e = each_all (λ (those : List Row). length those ≡ n) (arguments_over s rows) gs args (λ g those one. length-each (arguments_at g s) rows those one ∙ sym is) e

-- ---- one value of each row, or none

next_alone : (c : Computed Value) (d : Computed (List Value)) (f : Computed (List Row)) → f ≡ and_then d (λ vs. Is (each_alone vs))
    → and_then (and_then c (λ x. Is (x ∷ []))) (λ y. and_then f (λ ys. Is (y ∷ ys))) ≡ and_then (and_then c (λ y. and_then d (λ ys. Is (y ∷ ys)))) (λ vs. Is (each_alone vs))
next_alone Overflow d f h = refl
next_alone (Is x) Overflow f h = rw h refl
next_alone (Is x) (Is vs) f h = rw h refl

pub one_value : (e : Term) (s : Surroundings) (rows : List Row) → each (values_at (e ∷ []) s) rows ≡ one_argument e s rows
one_value e s [] = refl
one_value e s (r ∷ rows) = next_alone (meaning e s r) (each (meaning e s) rows) (each (values_at (e ∷ []) s) rows) (one_value e s rows)

pub alone_came : (e : Term) (s : Surroundings) (rows : List Row) (vs : List Value) → each (meaning e s) rows ≡ Is vs → one_argument e s rows ≡ Is (each_alone vs)
alone_came e s rows vs came = ap (λ (c : Computed (List Value)). and_then c (λ us. Is (each_alone us))) came

pub alone_fails : {C D : Type 0} (see : C → List Value) (saw : D → List Row) (e : Term) (s : Surroundings) (rows : List Row) (met : EvalFault) → AnswersAs see (each (meaning e s) rows) (Err met) → AnswersAs saw (one_argument e s rows) (Err met)
alone_fails {C} {D} see saw e s rows fault.Overflow over = ap (λ (c : Computed (List Value)). and_then c (λ us. Is (each_alone us))) over
alone_fails {C} {D} see saw e s rows fault.Memory over = tt

pub value_fails : {C : Type 0} (see : C → List Value) (e : Term) (s : Surroundings) (rows : List Row) (met : EvalFault) → AnswersAs see (each (meaning e s) rows) (Err met) → Answers (each (values_at (e ∷ []) s) rows) (Err met)
value_fails {C} see e s rows fault.Overflow over = one_value e s rows ∙ ap (λ (c : Computed (List Value)). and_then c (λ us. Is (each_alone us))) over
value_fails {C} see e s rows fault.Memory over = tt

-- a value of a term, and no cells behind it
abbrev pub value_at : Term → Surroundings → Row → Computed Row
value_at e s r = and_then (values_at (e ∷ []) s r) (λ vs. Is (vs ++ chosen [] r))

next_value : (c : Computed Value) (d : Computed (List Value)) (f : Computed (List Row)) → f ≡ and_then d (λ vs. Is (each_alone vs))
    → and_then (and_then (and_then c (λ x. Is (x ∷ []))) (λ vs. Is (vs ++ []))) (λ y. and_then f (λ ys. Is (y ∷ ys))) ≡ and_then (and_then c (λ y. and_then d (λ ys. Is (y ∷ ys)))) (λ vs. Is (each_alone vs))
next_value Overflow d f h = refl
next_value (Is x) Overflow f h = rw h refl
next_value (Is x) (Is vs) f h = rw h refl

pub one_taken : (e : Term) (s : Surroundings) (rows : List Row) → each (value_at e s) rows ≡ one_argument e s rows
one_taken e s [] = refl
one_taken e s (r ∷ rows) = next_value (meaning e s r) (each (meaning e s) rows) (each (value_at e s) rows) (one_taken e s rows)

-- the arguments of these terms and columns
abbrev taken : List Term → List ℕ → Surroundings → Row → Computed Row
taken es is s r = and_then (values_at es s r) (λ vs. Is (vs ++ chosen is r))

pub taken_alone : (g : Aggregating) (e : Term) (s : Surroundings) (rows : List Row) → TakesAlone e g → arguments_over s rows g ≡ one_argument e s rows
taken_alone g e s rows t =
    subst (λ (is : List ℕ). each (taken (terms_taken g) is s) rows ≡ one_argument e s rows) (sym t.1)
    (subst (λ (es : List Term). each (taken es [] s) rows ≡ one_argument e s rows) (sym t.0) (one_taken e s rows))

pub no_values : (s : Surroundings) (rows : List Row) → each (values_at [] s) rows ≡ Is (replicate (length rows) [])
no_values s [] = refl
no_values s (r ∷ rows) = ap (λ (c : Computed (List Row)). and_then c (λ ys. Is ([] ∷ ys))) (no_values s rows)

pub none_taken : (s : Surroundings) (rows : List Row) → arguments_over s rows rows_counted ≡ Is (replicate (length rows) [])
none_taken s [] = refl
none_taken s (r ∷ rows) = ap (λ (c : Computed (List Row)). and_then c (λ ys. Is ([] ∷ ys))) (none_taken s rows)

-- ---- answers

after_one : {B : Type 0} (d : Computed (List B)) (made : List B) (y : B) → and_then (and_then d (λ ys. Is (y ∷ ys))) (λ others. Is (made ++ others)) ≡ and_then d (λ others. Is ((made ++ y ∷ []) ++ others))
after_one Overflow made y = refl
after_one (Is ys) made y = ap (λ l. Is l) (sym (append_assoc made (y ∷ []) ys))

-- one that came, at a place
pub each_goes : {X A B : Type 0} (h : X → A) (f : A → Computed B) (xs : List X) (i : ℕ) (x : X) (made : List B) (y : B) → i < length xs → x ≡ get_or xs i x
    → each f (map h xs) ≡ and_then (each f (map h (drop i xs))) (λ others. Is (made ++ others)) → f (h x) ≡ Is y → each f (map h xs) ≡ and_then (each f (map h (drop (i + 1) xs))) (λ others. Is ((made ++ y ∷ []) ++ others))
each_goes {X} {A} {B} h f xs i x made y within at whole one =
    let rest : drop i xs ≡ x ∷ drop (suc i) xs = drop-cons xs i x within ∙ (λ j. sym at j ∷ drop (suc i) xs) in
    let next : suc i ≡ i + 1 = omega arith in
    subst (λ (k : ℕ). each f (map h xs) ≡ and_then (each f (map h (drop k xs))) (λ others. Is ((made ++ y ∷ []) ++ others))) next
    (whole
    ∙ ap (λ (l : List X). and_then (each f (map h l)) (λ others. Is (made ++ others))) rest
    ∙ ap (λ (c : Computed B). and_then (and_then c (λ z. and_then (each f (map h (drop (suc i) xs))) (λ ys. Is (z ∷ ys)))) (λ others. Is (made ++ others))) one
    ∙ after_one (each f (map h (drop (suc i) xs))) made y)

-- one that fails, fails all
pub each_fails : {A B C : Type 0} (see : C → List B) (f : A → Computed B) (all : List A) (made : List B) (x : A) (rest : List A) (met : EvalFault)
    → each f all ≡ and_then (each f (x ∷ rest)) (λ others. Is (made ++ others)) → Answers (f x) (Err met) → AnswersAs see (each f all) (Err met)
each_fails {A} {B} {C} see f all made x rest fault.Overflow whole over =
    whole ∙ ap (λ (c : Computed B). and_then (and_then c (λ y. and_then (each f rest) (λ ys. Is (y ∷ ys)))) (λ others. Is (made ++ others))) over
each_fails {A} {B} {C} see f all made x rest fault.Memory whole over = tt

-- the same of one at a place
pub each_stops : {X A B C : Type 0} (see : C → List B) (h : X → A) (f : A → Computed B) (xs : List X) (i : ℕ) (x : X) (made : List B) (met : EvalFault) → i < length xs → x ≡ get_or xs i x
    → each f (map h xs) ≡ and_then (each f (map h (drop i xs))) (λ others. Is (made ++ others)) → Answers (f (h x)) (Err met) → AnswersAs see (each f (map h xs)) (Err met)
each_stops {X} {A} {B} {C} see h f xs i x made met within at whole over =
    let rest : drop i xs ≡ x ∷ drop (suc i) xs = drop-cons xs i x within ∙ (λ j. sym at j ∷ drop (suc i) xs) in
    each_fails see f (map h xs) made (h x) (map h (drop (suc i) xs)) met (whole ∙ ap (λ (l : List X). and_then (each f (map h l)) (λ others. Is (made ++ others))) rest) over

-- ---- what the groups ask of the rows

pub args_beside : (es : List Term) (gs : List Aggregating) (s : Surroundings) (rows keys : List Row) (args : List (List Row)) → each (values_at es s) rows ≡ Is keys → each (arguments_over s rows) gs ≡ Is args
    → All (λ (those : List Row). length those ≡ length keys) args
args_beside es gs s rows keys args one more = args_along gs s rows args (length keys) (length-each (values_at es s) rows keys one) more

-- the types that are left for the aggregates
pub types_left : (cs : List Field) (n m : ℕ) → length cs ≡ n + m → length (map ty_of (drop n cs)) ≡ m
types_left cs n m long = let a = length-map (drop n cs) ty_of in let b = length-drop n cs in omega (arith, long, a, b)

-- the columns behind a place
pub columns_behind : (cs : List Field) (n : ℕ) → take (length cs - n) (drop n cs) ≡ drop n cs
columns_behind cs n = take_all (length cs - n) (drop n cs) (let a = length-drop n cs in omega (arith, a))
