-- The clauses of an operator without a call of now or ago are bound to what asks for no moment.
use Rattle.std.proofs.Common.{◌≡◌, ◌||◌, ◌+◌, ℕ, zero, suc, Bool, true, false, cond, List, [], ◌∷◌, ◌++◌, Option, Some, None, Ok, Err, refl, subst}
use Rattle.std.specs.Prelude.{codes, slice_set}
use Rattle.std.specs.List.{list_any, zip}
use Rattle.std.specs.Option.{option_map, option_and_then}
use Rattle.kq_bind_aggregates.specs.Arguments.{Argued, argued, all_argued, only, several, column_number, unkeyed, all_columns}
use Rattle.kq_bind_aggregates.specs.declared.function.AggregateFunction.{AggregateFunction}
use Rattle.kq_bind_aggregates.specs.declared.function.AggregateFunction.TheVariants as aggregate
use Rattle.kq_bind_aggregates.specs.declared.extremes.Extreme.{Extreme}
use Rattle.kq_bind_aggregates.specs.declared.extremes.Extreme.TheVariants as extreme
use Rattle.kq_bind_aggregates.specs.Functions.{aggregate_named}
use Rattle.kq_bind_aggregates.specs.Gathered.{Gathering, no_aggregate, put_columns, gathered, aggregate_made, each_made, aggregates_made}
use Rattle.kq_bind_aggregates.specs.Made.{Aggregated, sum_type, unless_dynamic, column_name, behind, one_column, sum_made, base_of, value_at, value_made, columns_made, row_made, any_made, most_given, set_made, made}
use Rattle.kq_bind_clauses.specs.Ranges.{Ranging, step_type, as_long, of_this_type, range_typed, ranged}
use Rattle.kq_bind_clauses.specs.Sorts.{sorting, sort_key, sort_keys}
use Rattle.kq_bind_columns.specs.Chosen.{has_number, without}
use Rattle.kq_bind_columns.specs.Defaults.{first_token, default_name}
use Rattle.kq_bind_columns.specs.Items.{Making, put, put_own, put_given, as_key, operand, item_made, items_made}
use Rattle.kq_bind_columns.specs.Laying.{Columns, as_they_are, laid_at, laid, all_laid}
use Rattle.kq_bind_columns.specs.Naming.{is_taken}
use Rattle.kq_bind_columns.specs.Printed.{position_name, item_printed, items_printed}
use Rattle.kq_bind_columns.specs.Items.{put_default}
use Rattle.kq_bind_expressions.specs.Apply.{as_taken}
use Rattle.kq_bind_expressions.specs.Bound.{bound}
use Rattle.kq_bind_expressions.specs.Lookup.{first_named}
use Rattle.kq_bind_expressions.specs.Names.{Names}
use Rattle.kq_bind_expressions.specs.Verdicts.{Fault, Verdict, mistyped, unknown, and_then, or_fault}
use Rattle.kq_view_body.specs.Exports.{moment_in_keys}
use Rattle.kq_view_body.specs.Moments.{moment_in, moment_in_item, moment_in_items, moment_in_argument, moment_in_arguments, moment_in_aggregates, or_later}
use Rattle.kq_plan_expressions.specs.Terms.{Term, Bound, column, terms_of}
use Rattle.kq_bind_query.proofs.Progress.{then_ok, done, done_is}
use Rattle.kq_read_grammar.specs.declared.expression.Name.{Name}
use Rattle.kq_read_grammar.specs.Trees.{Tree, ItemTree, plain, named, KeyTree, ArgumentTree, value, all, AggregateTree}
use Rattle.kq_policy_moments.specs.kq_catalog_journal.Moments.{asks, some_asks, key_asks, aggregate_asks}
use Rattle.kq_plan.specs.Plans.{Sorting, Aggregating, summed}
use Rattle.kq_read_meanings.specs.Names.{name_said, name_place}
use Rattle.kq_read_meanings.specs.Pieces.{piece}
use Rattle.kq_value.specs.declared.schema.Field.{Field}
use Rattle.kq_value.specs.declared.ty.Ty.{Ty}
use Rattle.kq_value.specs.declared.ty.Ty.TheVariants as ty
use Rattle.kq_value.specs.Ty.{same_ty}
use Rattle.kq_export_laws.proofs.Timeless.{IsTimeless, both_false, left_false, right_false, neither, taken_timeless, bound_timeless}

-- ---- terms in a row

pub terms_more : (es : List Term) (e : Term) → some_asks (terms_of es) ≡ false → asks e ≡ false → some_asks (terms_of (es ++ e ∷ [])) ≡ false
terms_more [] e h k = both_false (asks e) false k refl
terms_more (x ∷ es) e h k =
    both_false (asks x) (some_asks (terms_of (es ++ e ∷ []))) (left_false (asks x) (some_asks (terms_of es)) h)
    (terms_more es e (right_false (asks x) (some_asks (terms_of es)) h) k)

terms_set : (es : List Term) (i : ℕ) (e : Term) → some_asks (terms_of es) ≡ false → asks e ≡ false → some_asks (terms_of (slice_set es i e)) ≡ false
terms_set [] i e h k = refl
terms_set (x ∷ es) zero e h k = both_false (asks e) (some_asks (terms_of es)) k (right_false (asks x) (some_asks (terms_of es)) h)
terms_set (x ∷ es) (suc i) e h k =
    both_false (asks x) (some_asks (terms_of (slice_set es i e))) (left_false (asks x) (some_asks (terms_of es)) h)
    (terms_set es i e (right_false (asks x) (some_asks (terms_of es)) h) k)

pub as_they_are_timeless : (i : ℕ) (cs : List Field) → some_asks (terms_of (as_they_are i cs)) ≡ false
as_they_are_timeless i [] = refl
as_they_are_timeless i (c ∷ cs) = as_they_are_timeless (suc i) cs

pub without_timeless : (i : ℕ) (cs : List Field) (is : List ℕ) → some_asks (terms_of (without i cs is).0) ≡ false
without_timeless i [] is = refl
without_timeless i (c ∷ cs) is = by (has_number is i) (without_timeless (suc i) cs is) where
  by : (b : Bool) → some_asks (terms_of (without (suc i) cs is).0) ≡ false
      → some_asks (terms_of (cond {A = Columns} b (without (suc i) cs is) (column i ∷ (without (suc i) cs is).0, c ∷ (without (suc i) cs is).1)).0) ≡ false
  by true h = h
  by false h = h

-- ---- columns laid over others

laid_timeless : (p : Columns) (x : Term × Field) → some_asks (terms_of p.0) ≡ false → asks x.0 ≡ false → some_asks (terms_of (laid p x).0) ≡ false
laid_timeless p x h k = by (first_named 0 p.1 x.1.name) where
  by : (o : Option (ℕ × Ty)) → some_asks (terms_of (laid_at p x o).0) ≡ false
  by (Some j) = terms_set p.0 j.0 x.0 h k
  by None = terms_more p.0 x.0 h k

pub all_laid_timeless : (p : Columns) (es : List Term) (fs : List Field) → some_asks (terms_of p.0) ≡ false → some_asks (terms_of es) ≡ false
    → some_asks (terms_of (all_laid p (zip es fs)).0) ≡ false
all_laid_timeless p [] [] h k = h
all_laid_timeless p [] (f ∷ fs) h k = h
all_laid_timeless p (e ∷ es) [] h k = h
all_laid_timeless p (e ∷ es) (f ∷ fs) h k =
    all_laid_timeless (laid p (e, f)) es fs (laid_timeless p (e, f) h (left_false (asks e) (some_asks (terms_of es)) k)) (right_false (asks e) (some_asks (terms_of es)) k)

-- ---- items

-- what is made so far asks for no moment
abbrev pub IsMadeTimeless : Making → Type 0
IsMadeTimeless m = some_asks (terms_of m.terms) ≡ false

own_timeless : (avoided : List Field) (m : Making) (x : Bound) (o : Option (List ℕ)) → IsMadeTimeless m → IsTimeless x → IsMadeTimeless (put_own avoided m x o)
own_timeless avoided m x (Some name) h k = terms_more m.terms x.0 h k
own_timeless avoided m x None h k = terms_more m.terms x.0 h k

given_put_timeless : (text : List ℕ) (m : Making) (x : Bound) (n : Name) (v : Making) → IsMadeTimeless m → IsTimeless x → put_given text m x n ≡ Ok v → IsMadeTimeless v
given_put_timeless text m x n v h k e = by (is_taken m.fields (name_said text n)) e where
  put_so : Making
  put_so = put m m.unnamed x (name_said text n)

  by : (b : Bool) → cond {A = Verdict Making} b (Err (mistyped (name_place n))) (done put_so) ≡ Ok v → IsMadeTimeless v
  by true g = absurd (cc)
  by false g = subst IsMadeTimeless (done_is put_so v g) (terms_more m.terms x.0 h k)

key_timeless : (keys : Bool) (at : ℕ) (y x : Bound) → IsTimeless y → as_key keys at y ≡ Ok x → IsTimeless x
key_timeless false at y x h e = subst IsTimeless (done_is y x e) h
key_timeless true at y x h e = by (same_ty y.1 ty.Dynamic) e where
  by : (b : Bool) → cond {A = Verdict Bound} b (Err (mistyped at)) (done y) ≡ Ok x → IsTimeless x
  by true g = absurd (cc)
  by false g = subst IsTimeless (done_is y x g) h

operand_timeless : (s : Names) (cs : List Field) (keys : Bool) (e : Tree) (x : Bound) → moment_in s.text e ≡ None → operand s cs keys e ≡ Ok x → IsTimeless x
operand_timeless s cs keys e x lacks is =
    let y = then_ok (bound s cs e) (as_key keys (first_token e)) x is in
    key_timeless keys (first_token e) y.0 x (bound_timeless s cs e y.0 lacks y.1) y.2

item_timeless : (s : Names) (cs avoided : List Field) (keys : Bool) (m : Making) (i : ItemTree) (v : Making) → moment_in_item s.text i ≡ None → IsMadeTimeless m
    → item_made s cs avoided keys m i ≡ Ok v → IsMadeTimeless v
item_timeless s cs avoided keys m (plain e) v lacks h is =
    let x = then_ok (operand s cs keys e) (λ x. done (put_own avoided m x (default_name s.text cs e))) v is in
    subst IsMadeTimeless (done_is (put_own avoided m x.0 (default_name s.text cs e)) v x.2)
    (own_timeless avoided m x.0 (default_name s.text cs e) h (operand_timeless s cs keys e x.0 lacks x.1))
item_timeless s cs avoided keys m (named n e) v lacks h is =
    let x = then_ok (operand s cs keys e) (λ x. put_given s.text m x n) v is in
    given_put_timeless s.text m x.0 n v h (operand_timeless s cs keys e x.0 lacks x.1) x.2

pub items_timeless : (s : Names) (cs avoided : List Field) (keys : Bool) (m : Making) (is : List ItemTree) (v : Making) → moment_in_items s.text is ≡ None
    → IsMadeTimeless m → items_made s cs avoided keys m is ≡ Ok v → IsMadeTimeless v
items_timeless s cs avoided keys m [] v lacks h e = subst IsMadeTimeless (done_is m v e) h
items_timeless s cs avoided keys m (i ∷ is) v lacks h e =
    let parts = neither (moment_in_item s.text i) (moment_in_items s.text is) lacks in
    let n = then_ok (item_made s cs avoided keys m i) (λ n. items_made s cs avoided keys n is) v e in
    items_timeless s cs avoided keys n.0 is v parts.1 (item_timeless s cs avoided keys m i n.0 parts.0 h n.1) n.2

one_printed_timeless : (s : Names) (k : ℕ) (m : Making) (i : ItemTree) (v : Making) → moment_in_item s.text i ≡ None → IsMadeTimeless m
    → item_printed s k m i ≡ Ok v → IsMadeTimeless v
one_printed_timeless s k m (plain e) v lacks h is =
    let x = then_ok (bound s [] e) (λ x. done (put_default [] m x (position_name k))) v is in
    subst IsMadeTimeless (done_is (put_default [] m x.0 (position_name k)) v x.2) (terms_more m.terms x.0.0 h (bound_timeless s [] e x.0 lacks x.1))
one_printed_timeless s k m (named n e) v lacks h is =
    let x = then_ok (bound s [] e) (λ x. put_given s.text m x n) v is in
    given_put_timeless s.text m x.0 n v h (bound_timeless s [] e x.0 lacks x.1) x.2

pub printed_timeless : (s : Names) (k : ℕ) (m : Making) (is : List ItemTree) (v : Making) → moment_in_items s.text is ≡ None → IsMadeTimeless m
    → items_printed s k m is ≡ Ok v → IsMadeTimeless v
printed_timeless s k m [] v lacks h e = subst IsMadeTimeless (done_is m v e) h
printed_timeless s k m (i ∷ is) v lacks h e =
    let parts = neither (moment_in_item s.text i) (moment_in_items s.text is) lacks in
    let n = then_ok (item_printed s k m i) (λ n. items_printed s (k + 1) n is) v e in
    printed_timeless s (k + 1) n.0 is v parts.1 (one_printed_timeless s k m i n.0 parts.0 h n.1) n.2

-- ---- keys

pub sort_key_timeless : (s : Names) (cs : List Field) (k : KeyTree) (x : Sorting) → moment_in s.text k.value ≡ None → sort_key s cs k ≡ Ok x → key_asks x ≡ false
sort_key_timeless s cs k x lacks e =
    let y = then_ok (operand s cs true k.value) (λ y. done (sorting k y)) x e in
    subst (λ (z : Sorting). key_asks z ≡ false) (done_is (sorting k y.0) x y.2) (operand_timeless s cs true k.value y.0 lacks y.1)

pub sort_keys_timeless : (s : Names) (cs : List Field) (ks : List KeyTree) (xs : List Sorting) → moment_in_keys s.text ks ≡ None → sort_keys s cs ks ≡ Ok xs
    → list_any key_asks xs ≡ false
sort_keys_timeless s cs [] xs lacks e = subst (λ (ys : List Sorting). list_any key_asks ys ≡ false) (done_is [] xs e) refl
sort_keys_timeless s cs (k ∷ ks) xs lacks e =
    let parts = neither (moment_in s.text k.value) (moment_in_keys s.text ks) lacks in
    let x = then_ok (sort_key s cs k) (λ x. and_then (sort_keys s cs ks) (λ ys. done (x ∷ ys))) xs e in
    let ys = then_ok (sort_keys s cs ks) (λ ys. done (x.0 ∷ ys)) xs x.2 in
    subst (λ (zs : List Sorting). list_any key_asks zs ≡ false) (done_is (x.0 ∷ ys.0) xs ys.2)
    (both_false (key_asks x.0) (list_any key_asks ys.0) (sort_key_timeless s cs k x.0 parts.0 x.1) (sort_keys_timeless s cs ks ys.0 parts.1 ys.1))

-- ---- ranges

of_this_timeless : (at : ℕ) (t : Ty) (x : Bound) (e : Term) → IsTimeless x → of_this_type at t x ≡ Ok e → asks e ≡ false
of_this_timeless at t x e h is = by (same_ty x.1 t) is where
  by : (b : Bool) → cond {A = Verdict Term} b (done x.0) (Err (mistyped at)) ≡ Ok e → asks e ≡ false
  by true k = subst (λ (y : Term). asks y ≡ false) (done_is x.0 e k) h
  by false k = absurd (cc)

-- its three terms ask for no moment
abbrev pub IsRangeTimeless : Ranging → Type 0
IsRangeTimeless r = ((asks r.first || asks r.last) || asks r.step) ≡ false

pub ranged_timeless : (s : Names) (a b c : Tree) (r : Ranging) → or_later (moment_in s.text a) (or_later (moment_in s.text b) (moment_in s.text c)) ≡ None
    → ranged s a b c ≡ Ok r → IsRangeTimeless r
ranged_timeless s a b c r lacks e =
    let parts = neither (moment_in s.text a) (or_later (moment_in s.text b) (moment_in s.text c)) lacks in
    let others = neither (moment_in s.text b) (moment_in s.text c) parts.1 in
    let typed = λ (x y z : Bound). range_typed (first_token a) (first_token b) (first_token c) (as_long x) (as_long y) (as_long z) in
    let x = then_ok (bound s [] a) (λ x. and_then (bound s [] b) (λ y. and_then (bound s [] c) (λ z. typed x y z))) r e in
    let y = then_ok (bound s [] b) (λ y. and_then (bound s [] c) (λ z. typed x.0 y z)) r x.2 in
    let z = then_ok (bound s [] c) (λ z. typed x.0 y.0 z) r y.2 in
    let first = as_long x.0 in
    let put = λ (t : Ty) (last step : Term). let g : Ranging = record { first = first.0; last = last; step = step; ty = first.1 } in g in
    let t = then_ok (or_fault (mistyped (first_token a)) (step_type first.1))
    (λ t. and_then (of_this_type (first_token b) first.1 (as_long y.0)) (λ last. and_then (of_this_type (first_token c) t (as_long z.0)) (λ step. done (put t last step)))) r z.2 in
    let last = then_ok (of_this_type (first_token b) first.1 (as_long y.0))
    (λ last. and_then (of_this_type (first_token c) t.0 (as_long z.0)) (λ step. done (put t.0 last step))) r t.2 in
    let step = then_ok (of_this_type (first_token c) t.0 (as_long z.0)) (λ step. done (put t.0 last.0 step)) r last.2 in
    subst IsRangeTimeless (done_is (put t.0 last.0 step.0) r step.2)
    (both_false (asks first.0 || asks last.0) (asks step.0)
    (both_false (asks first.0) (asks last.0) (taken_timeless true x.0 (bound_timeless s [] a x.0 parts.0 x.1))
    (of_this_timeless (first_token b) first.1 (as_long y.0) last.0 (taken_timeless true y.0 (bound_timeless s [] b y.0 others.0 y.1)) last.1))
    (of_this_timeless (first_token c) t.0 (as_long z.0) step.0 (taken_timeless true z.0 (bound_timeless s [] c z.0 others.1 z.1)) step.1))

-- ---- aggregates

some_then : {A B : Type 0} (k : A → Option B) (o : Option A) (y : B) → option_and_then k o ≡ Some y → (x : A) × (o ≡ Some x) × (k x ≡ Some y)
some_then k (Some x) y e = (x, refl, e)
some_then k None y e = absurd (cc)

some_is : {A : Type 0} (x y : A) → Some x ≡ Some y → x ≡ y
some_is x y e = cc

some_map : {A B : Type 0} (k : A → B) (o : Option A) (y : B) → option_map k o ≡ Some y → (x : A) × (o ≡ Some x) × (k x ≡ y)
some_map k (Some x) y e = (x, refl, (cc))
some_map k None y e = absurd (cc)

found_ok : {A : Type 0} (f : Fault) (o : Option A) (x : A) → or_fault f o ≡ Ok x → o ≡ Some x
found_ok f (Some y) x e = cc
found_ok f None x e = absurd (cc)

abbrev IsArgued : Argued → Type 0
IsArgued (Some x) = IsTimeless x
IsArgued None = Unit {0}

abbrev AreArgued : List Argued → Type 0
AreArgued [] = Unit {0}
AreArgued (a ∷ more) = IsArgued a × AreArgued more

argued_timeless : (s : Names) (cs : List Field) (a : ArgumentTree) (x : Argued) → moment_in_argument s.text a ≡ None → argued s cs a ≡ Ok x → IsArgued x
argued_timeless s cs (value e) x lacks is =
    let y = then_ok (bound s cs e) (λ y. done (Some y)) x is in
    subst IsArgued (done_is (Some y.0) x y.2) (bound_timeless s cs e y.0 lacks y.1)
argued_timeless s cs (all t) x lacks is = subst IsArgued (done_is None x is) tt

all_argued_timeless : (s : Names) (cs : List Field) (given : List ArgumentTree) (xs : List Argued) → moment_in_arguments s.text given ≡ None
    → all_argued s cs given ≡ Ok xs → AreArgued xs
all_argued_timeless s cs [] xs lacks e = subst AreArgued (done_is [] xs e) tt
all_argued_timeless s cs (a ∷ more) xs lacks e =
    let parts = neither (moment_in_argument s.text a) (moment_in_arguments s.text more) lacks in
    let x = then_ok (argued s cs a) (λ x. and_then (all_argued s cs more) (λ ys. done (x ∷ ys))) xs e in
    let ys = then_ok (all_argued s cs more) (λ ys. done (x.0 ∷ ys)) xs x.2 in
    subst AreArgued (done_is (x.0 ∷ ys.0) xs ys.2) (argued_timeless s cs a x.0 parts.0 x.1, all_argued_timeless s cs more ys.0 parts.1 ys.1)

only_timeless : (given : List Argued) (x : Bound) → AreArgued given → only given ≡ Some x → IsTimeless x
only_timeless (Some y ∷ []) x h e = let is : y ≡ x = cc in subst IsTimeless is h.0
only_timeless [] x h e = absurd (cc)
only_timeless (None ∷ more) x h e = absurd (cc)
only_timeless (Some y ∷ b ∷ more) x h e = absurd (cc)

first_timeless : (given : List Argued) (p : Bound × List Argued) → AreArgued given → several given ≡ Some p → IsTimeless p.0
first_timeless (Some y ∷ a ∷ more) p h e = let is : (y, a ∷ more) ≡ p = cc in subst (λ (q : Bound × List Argued). IsTimeless q.0) is h.0
first_timeless [] p h e = absurd (cc)
first_timeless (None ∷ more) p h e = absurd (cc)
first_timeless (Some y ∷ []) p h e = absurd (cc)

-- what an aggregate does asks for no moment
abbrev IsAggregatedTimeless : Aggregated → Type 0
IsAggregatedTimeless x = aggregate_asks x.0 ≡ false

sum_timeless : (cs : List Field) (y : Bound) (x : Aggregated) → IsTimeless y → sum_made cs y ≡ Some x → IsAggregatedTimeless x
sum_timeless cs y x h e =
    let put = λ (t : Ty). let a : Aggregated = (summed (as_taken true y), one_column (behind (codes "sum_") (column_name cs y.0)) t) in a in
    let t = some_map put (sum_type y.1) x e in
    subst IsAggregatedTimeless t.2 (taken_timeless true y h)

value_timeless : (end : Extreme) (cs : List Field) (y : Bound) (x : Aggregated) → IsTimeless y → value_made end cs y ≡ Some x → IsAggregatedTimeless x
value_timeless end cs y x h e =
    let put = λ (t : Ty). let a : Aggregated = (value_at end y.0, one_column (behind (base_of end) (column_name cs y.0)) t) in a in
    let t = some_map put (unless_dynamic y.1) x e in
    subst IsAggregatedTimeless t.2 (by end)
  where
    by : (end : Extreme) → aggregate_asks (value_at end y.0) ≡ false
    by extreme.Least = h
    by extreme.Greatest = h

row_timeless : (end : Extreme) (cs : List Field) (starred : List ℕ) (p : Bound × List Argued) (x : Aggregated) → IsTimeless p.0 → row_made end cs starred p ≡ Some x
    → IsAggregatedTimeless x
row_timeless end cs starred p x h e =
    let own = column_number p.0.0 in
    let t = some_then (λ t. option_map (columns_made end cs p.0 t) (all_columns starred own [] p.1)) (unless_dynamic p.0.1) x e in
    let is = some_map (columns_made end cs p.0 t.0) (all_columns starred own [] p.1) x t.2 in
    subst IsAggregatedTimeless is.2 (by end t.0 is.0)
  where
    by : (end : Extreme) (t : Ty) (is : List ℕ) → IsAggregatedTimeless (columns_made end cs p.0 t is)
    by extreme.Least t is = h
    by extreme.Greatest t is = h

made_timeless : (f : AggregateFunction) (cs : List Field) (starred : List ℕ) (given : List Argued) (x : Aggregated) → AreArgued given
    → made f cs starred given ≡ Some x → IsAggregatedTimeless x
made_timeless aggregate.Count cs starred [] x h e = let is = some_is _ x e in subst IsAggregatedTimeless is refl
made_timeless aggregate.Sum cs starred given x h e =
    let y = some_then (sum_made cs) (only given) x e in sum_timeless cs y.0 x (only_timeless given y.0 h y.1) y.2
made_timeless aggregate.Min cs starred given x h e =
    let y = some_then (value_made extreme.Least cs) (only given) x e in value_timeless extreme.Least cs y.0 x (only_timeless given y.0 h y.1) y.2
made_timeless aggregate.Max cs starred given x h e =
    let y = some_then (value_made extreme.Greatest cs) (only given) x e in value_timeless extreme.Greatest cs y.0 x (only_timeless given y.0 h y.1) y.2
made_timeless aggregate.ArgMax cs starred given x h e =
    let p = some_then (row_made extreme.Greatest cs starred) (several given) x e in row_timeless extreme.Greatest cs starred p.0 x (first_timeless given p.0 h p.1) p.2
made_timeless aggregate.ArgMin cs starred given x h e =
    let p = some_then (row_made extreme.Least cs starred) (several given) x e in row_timeless extreme.Least cs starred p.0 x (first_timeless given p.0 h p.1) p.2
made_timeless aggregate.TakeAny cs starred (a ∷ more) x h e =
    let is = some_map (any_made cs) (all_columns starred None [] (a ∷ more)) x e in subst IsAggregatedTimeless is.2 refl
made_timeless aggregate.MakeSet cs starred (Some y ∷ more) x h e =
    let n = some_map (set_made cs y) (most_given more) x e in subst IsAggregatedTimeless n.2 h.0
made_timeless _ cs starred given x h e = absurd (cc)

-- the aggregates so far ask for no moment
abbrev pub IsGatheredTimeless : Gathering → Type 0
IsGatheredTimeless g = list_any aggregate_asks g.aggregates ≡ false

aggregates_more : (gs : List Aggregating) (g : Aggregating) → list_any aggregate_asks gs ≡ false → aggregate_asks g ≡ false → list_any aggregate_asks (gs ++ g ∷ []) ≡ false
aggregates_more [] g h k = both_false (aggregate_asks g) false k refl
aggregates_more (x ∷ gs) g h k =
    both_false (aggregate_asks x) (list_any aggregate_asks (gs ++ g ∷ [])) (left_false (aggregate_asks x) (list_any aggregate_asks gs) h)
    (aggregates_more gs g (right_false (aggregate_asks x) (list_any aggregate_asks gs) h) k)

one_timeless : (s : Names) (cs : List Field) (starred : List ℕ) (g : Gathering) (a : AggregateTree) (h : Gathering) → moment_in_arguments s.text a.arguments ≡ None
    → IsGatheredTimeless g → aggregate_made s cs starred g a ≡ Ok h → IsGatheredTimeless h
one_timeless s cs starred g a h lacks before e =
    let at = a.function.from in
    let said = aggregate_named (piece s.text a.function) in
    let last = gathered s.text g a.given in
    let f = then_ok (or_fault (unknown at) said)
    (λ f. and_then (all_argued s cs a.arguments) (λ given. and_then (or_fault (mistyped at) (made f cs starred given)) last)) h e in
    let given = then_ok (all_argued s cs a.arguments) (λ given. and_then (or_fault (mistyped at) (made f.0 cs starred given)) last) h f.2 in
    let x = then_ok (or_fault (mistyped at) (made f.0 cs starred given.0)) last h given.2 in
    let put = λ (fields : List Field). let r : Gathering = record { aggregates = g.aggregates ++ x.0.0 ∷ []; fields = fields } in r in
    let fields = then_ok (put_columns s.text g.fields a.given x.0.1) (λ fields. done (put fields)) h x.2 in
    let is = made_timeless f.0 cs starred given.0 x.0 (all_argued_timeless s cs a.arguments given.0 lacks given.1)
    (found_ok (mistyped at) (made f.0 cs starred given.0) x.0 x.1) in
    subst IsGatheredTimeless (done_is (put fields.0) h fields.2) (aggregates_more g.aggregates x.0.0 before is)

each_timeless : (s : Names) (cs : List Field) (starred : List ℕ) (g : Gathering) (more : List AggregateTree) (h : Gathering) → moment_in_aggregates s.text more ≡ None
    → IsGatheredTimeless g → each_made s cs starred g more ≡ Ok h → IsGatheredTimeless h
each_timeless s cs starred g [] h lacks before e = subst IsGatheredTimeless (done_is g h e) before
each_timeless s cs starred g (a ∷ more) h lacks before e =
    let parts = neither (moment_in_arguments s.text a.arguments) (moment_in_aggregates s.text more) lacks in
    let k = then_ok (aggregate_made s cs starred g a) (λ k. each_made s cs starred k more) h e in
    each_timeless s cs starred k.0 more h parts.1 (one_timeless s cs starred g a k.0 parts.0 before k.1) k.2

pub aggregates_timeless : (s : Names) (cs keys : List Field) (more : List AggregateTree) (h : Gathering) → moment_in_aggregates s.text more ≡ None
    → aggregates_made s cs keys (no_aggregate keys) more ≡ Ok h → IsGatheredTimeless h
aggregates_timeless s cs keys more h lacks e = each_timeless s cs (unkeyed 0 cs keys) (no_aggregate keys) more h lacks refl e
