-- What an aggregate makes of rows are columns of its types.
use Rattle.std.proofs.Common.{◌≡◌, ◌≢◌, ◌⊎◌, inl, inr, ℕ, suc, Bool, true, false, not, cond, List, [], ◌∷◌, ◌++◌, Option, Some, None, Ok, refl, subst}
use Rattle.std.specs.Prelude.{codes}
use Rattle.std.specs.List.{filter}
use Rattle.std.specs.Option.{option_map, option_and_then}
use Rattle.kq_bind_aggregates.specs.Arguments.{Argued, argued, all_argued, only, several, column_number, unkeyed, is_own, but_own, one_number, argument_columns, all_columns}
use Rattle.kq_bind_aggregates.specs.declared.function.AggregateFunction.{AggregateFunction}
use Rattle.kq_bind_aggregates.specs.declared.function.AggregateFunction.TheVariants as aggregate
use Rattle.kq_bind_aggregates.specs.declared.extremes.Extreme.{Extreme}
use Rattle.kq_bind_aggregates.specs.declared.extremes.Extreme.TheVariants as extreme
use Rattle.kq_bind_aggregates.specs.Made.{Aggregated, sum_type, unless_dynamic, column_name, behind, one_column, sum_made, base_of, value_at, value_made, columns_made, row_made, any_made, most_given, set_made, made}
use Rattle.kq_bind_columns.specs.Chosen.{columns_at}
use Rattle.kq_bind_columns.specs.Naming.{is_taken}
use Rattle.kq_bind_expressions.specs.Apply.{as_taken}
use Rattle.kq_bind_expressions.specs.Bound.{bound}
use Rattle.kq_bind_expressions.specs.Names.{Names}
use Rattle.kq_bind_expressions.specs.Verdicts.{and_then}
use Rattle.kq_plan_expressions.specs.Terms.{Term, literal, column, cell, call, Bound}
use Rattle.kq_plan_functions.specs.Table.{widened}
use Rattle.kq_read_grammar.specs.Trees.{ArgumentTree, value, all}
use Rattle.kq_plan.specs.Fits.{IsTyped, type_at, HaveTypes, FitsAggregate}
use Rattle.kq_plan.specs.Plans.{summed}
use Rattle.kq_value.specs.declared.schema.Field.{Field}
use Rattle.kq_value.specs.declared.ty.Ty.{Ty}
use Rattle.kq_value.specs.declared.ty.Ty.TheVariants as ty
use Rattle.kq_bind_query.proofs.Progress.{then_ok, done, done_is}
use Rattle.kq_bind_query.proofs.Columns.{StandAt, stand_next, stands_first, stand_all, place_type}
use Rattle.kq_bind_query.proofs.Items.{bound_typed}
use Rattle.kq_bind_query.proofs.Chosen.{AreThere, there_behind, columns_typed}
use Rattle.kq_bind_query.proofs.Clauses.{wide_typed}

some_then : {A B : Type 0} (k : A → Option B) (o : Option A) (y : B) → option_and_then k o ≡ Some y → (x : A) × (o ≡ Some x) × (k x ≡ Some y)
some_then k (Some x) y e = (x, refl, e)
some_then k None y e = absurd (cc)

some_is : {A : Type 0} (x y : A) → Some x ≡ Some y → x ≡ y
some_is x y e = cc

some_map : {A B : Type 0} (k : A → B) (o : Option A) (y : B) → option_map k o ≡ Some y → (x : A) × (o ≡ Some x) × (k x ≡ y)
some_map k (Some x) y e = (x, refl, (cc))
some_map k None y e = absurd (cc)

-- ---- arguments

abbrev pub IsArgued : List Field → List Field → Argued → Type 0
IsArgued lets cs (Some x) = IsTyped lets cs x.0 x.1
IsArgued lets cs None = Unit {0}

abbrev pub AreArgued : List Field → List Field → List Argued → Type 0
AreArgued lets cs [] = Unit {0}
AreArgued lets cs (a ∷ more) = IsArgued lets cs a × AreArgued lets cs more

argued_typed : (s : Names) (cs : List Field) (a : ArgumentTree) (x : Argued) → argued s cs a ≡ Ok x → IsArgued s.lets cs x
argued_typed s cs (value e) x is =
    let y = then_ok (bound s cs e) (λ y. done (Some y)) x is in
    subst (IsArgued s.lets cs) (done_is (Some y.0) x y.2) (bound_typed s cs e y.0 y.1)
argued_typed s cs (all t) x is = subst (IsArgued s.lets cs) (done_is None x is) tt

pub all_argued_typed : (s : Names) (cs : List Field) (given : List ArgumentTree) (xs : List Argued) → all_argued s cs given ≡ Ok xs → AreArgued s.lets cs xs
all_argued_typed s cs [] xs e = subst (AreArgued s.lets cs) (done_is [] xs e) tt
all_argued_typed s cs (a ∷ more) xs e =
    let x = then_ok (argued s cs a) (λ x. and_then (all_argued s cs more) (λ ys. done (x ∷ ys))) xs e in
    let ys = then_ok (all_argued s cs more) (λ ys. done (x.0 ∷ ys)) xs x.2 in
    subst (AreArgued s.lets cs) (done_is (x.0 ∷ ys.0) xs ys.2) (argued_typed s cs a x.0 x.1, all_argued_typed s cs more ys.0 ys.1)

only_typed : (lets cs : List Field) (given : List Argued) (x : Bound) → AreArgued lets cs given → only given ≡ Some x → IsTyped lets cs x.0 x.1
only_typed lets cs (Some y ∷ []) x h e = let is : y ≡ x = cc in subst (λ (z : Bound). IsTyped lets cs z.0 z.1) is h.0
only_typed lets cs [] x h e = absurd (cc)
only_typed lets cs (None ∷ more) x h e = absurd (cc)
only_typed lets cs (Some y ∷ b ∷ more) x h e = absurd (cc)

abbrev AreSeveral : List Field → List Field → Bound × List Argued → Type 0
AreSeveral lets cs p = IsTyped lets cs p.0.0 p.0.1 × AreArgued lets cs p.1

several_typed : (lets cs : List Field) (given : List Argued) (p : Bound × List Argued) → AreArgued lets cs given → several given ≡ Some p → AreSeveral lets cs p
several_typed lets cs (Some y ∷ a ∷ more) p h e = let is : (y, a ∷ more) ≡ p = cc in subst (AreSeveral lets cs) is h
several_typed lets cs [] p h e = absurd (cc)
several_typed lets cs (None ∷ more) p h e = absurd (cc)
several_typed lets cs (Some y ∷ []) p h e = absurd (cc)

-- ---- columns of arguments

column_there : (lets cs : List Field) (e : Term) (t : Ty) (i : ℕ) → IsTyped lets cs e t → column_number e ≡ Some i → type_at cs i ≡ Some t
column_there lets cs (column j) t i h e = let is : j ≡ i = cc in subst (λ k. type_at cs k ≡ Some t) is (place_type cs j t h.0)
column_there lets cs (literal v) t i h e = absurd (cc)
column_there lets cs (cell j) t i h e = absurd (cc)
column_there lets cs (call f es) t i h e = absurd (cc)

rest_there : (every cs keys : List Field) (i : ℕ) → StandAt every i cs → AreThere every false (unkeyed i cs keys)
rest_there every [] keys i h = tt
rest_there every (c ∷ cs) keys i h = by (is_taken keys c.name) (rest_there every cs keys (suc i) (stand_next every i c cs h)) where
  by : (b : Bool) → AreThere every false (unkeyed (suc i) cs keys) → AreThere every false (cond b (unkeyed (suc i) cs keys) (i ∷ unkeyed (suc i) cs keys))
  by true more = more
  by false more = (c.ty, place_type every i c.ty (stands_first every i c cs h), tt, more)

pub unkeyed_there : (cs keys : List Field) → AreThere cs false (unkeyed 0 cs keys)
unkeyed_there cs keys = rest_there cs cs keys 0 (stand_all cs)

filtered_there : (cs : List Field) (p : ℕ → Bool) (is : List ℕ) → AreThere cs false is → AreThere cs false (filter p is)
filtered_there cs p [] h = tt
filtered_there cs p (i ∷ is) h = by (p i) (filtered_there cs p is h.3) where
  by : (b : Bool) → AreThere cs false (filter p is) → AreThere cs false (cond b (i ∷ filter p is) (filter p is))
  by true more = (h.0, h.1, tt, more)
  by false more = more

argument_there : (lets cs : List Field) (starred : List ℕ) (own : Option ℕ) (a : Argued) (is : List ℕ) → AreThere cs false starred → IsArgued lets cs a
    → argument_columns starred own a ≡ Some is → AreThere cs false is
argument_there lets cs starred own None is h typed e = let same : but_own own starred ≡ is = cc in
    subst (AreThere cs false) same (filtered_there cs (λ i. not (is_own own i)) starred h)
argument_there lets cs starred own (Some x) is h typed e =
    let i = some_map one_number (column_number x.0) is e in
    subst (AreThere cs false) i.2 (x.1, column_there lets cs x.0 x.1 i.0 typed i.1, tt, tt)

columns_there : (lets cs : List Field) (starred : List ℕ) (own : Option ℕ) (is : List ℕ) (given : List Argued) (js : List ℕ) → AreThere cs false starred
    → AreThere cs false is → AreArgued lets cs given → all_columns starred own is given ≡ Some js → AreThere cs false js
columns_there lets cs starred own is [] js st h typed e = let same : is ≡ js = cc in subst (AreThere cs false) same h
columns_there lets cs starred own is (a ∷ more) js st h typed e =
    let k = some_then (λ ks. all_columns starred own (is ++ ks) more) (argument_columns starred own a) js e in
    columns_there lets cs starred own (is ++ k.0) more js st
    (there_behind cs false is k.0 h (argument_there lets cs starred own a k.0 st typed.0 k.1)) typed.1 k.2

-- ---- what functions make

abbrev FitsMade : List Field → List Field → Aggregated → Type 0
FitsMade lets cs x = FitsAggregate lets cs x.0 x.1

sum_typed : (t u : Ty) → sum_type t ≡ Some u → (widened t ≡ u) × ((u ≡ ty.Long) ⊎ (u ≡ ty.Span))
sum_typed ty.Long u e = ((cc), inl (cc))
sum_typed ty.Int u e = ((cc), inl (cc))
sum_typed ty.Span u e = ((cc), inr (cc))
sum_typed ty.Text u e = absurd (cc)
sum_typed ty.Bool u e = absurd (cc)
sum_typed ty.Moment u e = absurd (cc)
sum_typed ty.Dynamic u e = absurd (cc)

no_dynamic : (t u : Ty) → unless_dynamic t ≡ Some u → (t ≡ u) × (u ≢ ty.Dynamic)
no_dynamic ty.Long u e = ((cc), (λ k. cc))
no_dynamic ty.Int u e = ((cc), (λ k. cc))
no_dynamic ty.Text u e = ((cc), (λ k. cc))
no_dynamic ty.Bool u e = ((cc), (λ k. cc))
no_dynamic ty.Moment u e = ((cc), (λ k. cc))
no_dynamic ty.Span u e = ((cc), (λ k. cc))
no_dynamic ty.Dynamic u e = absurd (cc)

sum_fits : (lets cs : List Field) (y : Bound) (x : Aggregated) → IsTyped lets cs y.0 y.1 → sum_made cs y ≡ Some x → FitsMade lets cs x
sum_fits lets cs y x h e =
    let put = λ (t : Ty). let a : Aggregated = (summed (as_taken true y), one_column (behind (codes "sum_") (column_name cs y.0)) t) in a in
    let t = some_map put (sum_type y.1) x e in
    let is = sum_typed y.1 t.0 t.1 in
    subst (FitsMade lets cs) t.2 (t.0, refl, subst (IsTyped lets cs (as_taken true y)) is.0 (wide_typed lets cs y h), is.1)

value_fits : (end : Extreme) (lets cs : List Field) (y : Bound) (x : Aggregated) → IsTyped lets cs y.0 y.1 → value_made end cs y ≡ Some x → FitsMade lets cs x
value_fits end lets cs y x h e =
    let put = λ (t : Ty). let a : Aggregated = (value_at end y.0, one_column (behind (base_of end) (column_name cs y.0)) t) in a in
    let t = some_map put (unless_dynamic y.1) x e in
    let is = no_dynamic y.1 t.0 t.1 in
    subst (FitsMade lets cs) t.2 (by end t.0 (subst (IsTyped lets cs y.0) is.0 h) is.1)
  where
    by : (end : Extreme) (t : Ty) → IsTyped lets cs y.0 t → t ≢ ty.Dynamic
        → FitsMade lets cs (value_at end y.0, one_column (behind (base_of end) (column_name cs y.0)) t)
    by extreme.Least t typed key = (t, refl, typed, key)
    by extreme.Greatest t typed key = (t, refl, typed, key)

row_fits : (end : Extreme) (lets cs : List Field) (starred : List ℕ) (p : Bound × List Argued) (x : Aggregated) → AreThere cs false starred
    → AreSeveral lets cs p → row_made end cs starred p ≡ Some x → FitsMade lets cs x
row_fits end lets cs starred p x st h e =
    let own = column_number p.0.0 in
    let t = some_then (λ t. option_map (columns_made end cs p.0 t) (all_columns starred own [] p.1)) (unless_dynamic p.0.1) x e in
    let is = some_map (columns_made end cs p.0 t.0) (all_columns starred own [] p.1) x t.2 in
    let key = no_dynamic p.0.1 t.0 t.1 in
    let there = columns_there lets cs starred own [] p.1 is.0 st tt h.1 is.1 in
    subst (FitsMade lets cs) is.2 (by end t.0 is.0 (subst (IsTyped lets cs p.0.0) key.0 h.0) key.1 (columns_typed cs false is.0 there))
  where
    by : (end : Extreme) (t : Ty) (is : List ℕ) → IsTyped lets cs p.0.0 t → t ≢ ty.Dynamic → HaveTypes cs is (columns_at cs is)
        → FitsMade lets cs (columns_made end cs p.0 t is)
    by extreme.Least t is typed key types = (typed, key, types)
    by extreme.Greatest t is typed key types = (typed, key, types)

pub made_fits : (f : AggregateFunction) (lets cs : List Field) (starred : List ℕ) (given : List Argued) (x : Aggregated) → AreThere cs false starred
    → AreArgued lets cs given → made f cs starred given ≡ Some x → FitsMade lets cs x
made_fits aggregate.Count lets cs starred [] x st h e = let is = some_is _ x e in subst (FitsMade lets cs) is refl
made_fits aggregate.Sum lets cs starred given x st h e = let y = some_then (sum_made cs) (only given) x e in
    sum_fits lets cs y.0 x (only_typed lets cs given y.0 h y.1) y.2
made_fits aggregate.Min lets cs starred given x st h e =
    let y = some_then (value_made extreme.Least cs) (only given) x e in value_fits extreme.Least lets cs y.0 x (only_typed lets cs given y.0 h y.1) y.2
made_fits aggregate.Max lets cs starred given x st h e =
    let y = some_then (value_made extreme.Greatest cs) (only given) x e in value_fits extreme.Greatest lets cs y.0 x (only_typed lets cs given y.0 h y.1) y.2
made_fits aggregate.ArgMax lets cs starred given x st h e =
    let p = some_then (row_made extreme.Greatest cs starred) (several given) x e in
    row_fits extreme.Greatest lets cs starred p.0 x st (several_typed lets cs given p.0 h p.1) p.2
made_fits aggregate.ArgMin lets cs starred given x st h e =
    let p = some_then (row_made extreme.Least cs starred) (several given) x e in
    row_fits extreme.Least lets cs starred p.0 x st (several_typed lets cs given p.0 h p.1) p.2
made_fits aggregate.TakeAny lets cs starred (a ∷ more) x st h e =
    let is = some_map (any_made cs) (all_columns starred None [] (a ∷ more)) x e in
    subst (FitsMade lets cs) is.2 (columns_typed cs false is.0 (columns_there lets cs starred None [] (a ∷ more) is.0 st tt h is.1))
made_fits aggregate.MakeSet lets cs starred (Some y ∷ more) x st h e = let n = some_map (set_made cs y) (most_given more) x e in
    subst (FitsMade lets cs) n.2 (y.1, h.0, refl)
made_fits _ lets cs starred given x st h e = absurd (cc)
