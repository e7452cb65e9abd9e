-- What aggregates make of their arguments, where their functions take these.
use Rattle.std.proofs.Common.{◌≡◌, ◌≢◌, inl, inr, ℕ, true, List, [], ◌∷◌, map, Option, Some, None, refl, sym, ap, ◌∙◌, subst}
use Rattle.std.specs.Prelude.{ℤ, pos, negsuc, codes, slice_get}
use Rattle.std.specs.Option.{option_map}
use Rattle.kq_bind_aggregates.specs.Arguments.{Argued, only, several, column_number, unkeyed, all_columns}
use Rattle.kq_bind_aggregates.specs.declared.extremes.Extreme.{Extreme}
use Rattle.kq_bind_aggregates.specs.declared.extremes.Extreme.TheVariants as extreme
use Rattle.kq_bind_aggregates.specs.declared.function.AggregateFunction.{AggregateFunction}
use Rattle.kq_bind_aggregates.specs.declared.function.AggregateFunction.TheVariants as aggregate
use Rattle.kq_bind_aggregates.specs.Made.{Aggregated, column_name, name_of, behind, own_name, one_column, sum_type, unless_dynamic, sum_made, base_of, value_at, row_at, value_made, columns_made, row_made, any_made, most_in_set, at_least_none, most_said, most_given, set_made, made}
use Rattle.kq_bind_columns.specs.Chosen.{columns_at}
use Rattle.kq_bind_columns.specs.Items.{field}
use Rattle.kq_bind_expressions.specs.Apply.{as_taken}
use Rattle.kq_plan_expressions.specs.Terms.{Term, literal, column, cell, call, Bound}
use Rattle.kq_plan.specs.Plans.{Aggregating, rows_counted, summed, at_greatest, at_least, any_of}
use Rattle.kq_value.specs.declared.schema.Field.{Field}
use Rattle.kq_value.specs.declared.ty.Ty.{Ty}
use Rattle.kq_value.specs.declared.ty.Ty.TheVariants as ty
use Rattle.kq_value.specs.declared.value.Value.TheVariants as value
use Rattle.kq_bind_query.proofs.Aggregates.{AreArgued}
use Rattle.kq_bind_laws.specs.Aggregates.{IsNamedAfter, IsSum, IsOrdered, sum_of, least, greatest, MakesOne, MakesRow, MakesAny, or_none, SaysMost, IsMost, MakesSet, Makes}
use Rattle.kq_bind_laws.specs.Starred.{Placed, number_of, field_of, StandFor}
use Rattle.kq_bind_laws.proofs.Starred.{some_then, some_is, some_map, columns_placed, own_column, all_stand}

-- ---- names

column_named : (cs : List Field) (i : ℕ) (c : Field) → slice_get cs i ≡ Some c → column_name cs (column i) ≡ Some c.name
column_named cs i c e = ap (λ (o : Option Field). option_map name_of o) e

no_column : (cs : List Field) (e : Term) → ((i : ℕ) → e ≢ column i) → column_name cs e ≡ None
no_column cs (column i) h = absurd (h i refl)
no_column cs (literal v) h = refl
no_column cs (cell i) h = refl
no_column cs (call f es) h = refl

-- `behind` is such a name, and so is `own_name`
after_column : (cs : List Field) (word : List ℕ) (e : Term) → IsNamedAfter cs word word e (behind word (column_name cs e))
after_column cs word e = record {
  of_column = λ i c is there. ap (λ (z : Term). behind word (column_name cs z)) is ∙ ap (behind word) (column_named cs i c there);
  of_other = λ other. ap (behind word) (no_column cs e other);
}

own_column_name : (cs : List Field) (word : List ℕ) (e : Term) → IsNamedAfter cs [] word e (own_name word (column_name cs e))
own_column_name cs word e = record {
  of_column = λ i c is there. ap (λ (z : Term). own_name word (column_name cs z)) is ∙ ap (own_name word) (column_named cs i c there);
  of_other = λ other. ap (own_name word) (no_column cs e other);
}

-- ---- types

sum_is : (t u : Ty) → sum_type t ≡ Some u → IsSum t u
sum_is ty.Long u e = cc
sum_is ty.Int u e = cc
sum_is ty.Span u e = cc
sum_is ty.Text u e = absurd (cc)
sum_is ty.Bool u e = absurd (cc)
sum_is ty.Moment u e = absurd (cc)
sum_is ty.Dynamic u e = absurd (cc)

ordered_is : (t u : Ty) → unless_dynamic t ≡ Some u → IsOrdered t u
ordered_is ty.Long u e = ((cc), (λ k. cc))
ordered_is ty.Int u e = ((cc), (λ k. cc))
ordered_is ty.Text u e = ((cc), (λ k. cc))
ordered_is ty.Bool u e = ((cc), (λ k. cc))
ordered_is ty.Moment u e = ((cc), (λ k. cc))
ordered_is ty.Span u e = ((cc), (λ k. cc))
ordered_is ty.Dynamic u e = absurd (cc)

-- ---- one argument

only_is : (given : List Argued) (x : Bound) → only given ≡ Some x → given ≡ Some x ∷ []
only_is (Some y ∷ []) x e = ap (λ (o : Option Bound). o ∷ []) e
only_is [] x e = absurd (cc)
only_is (None ∷ more) x e = absurd (cc)
only_is (Some y ∷ b ∷ more) x e = absurd (cc)

sum_makes : (cs : List Field) (given : List Argued) (x : Bound) (m : Aggregated) → given ≡ Some x ∷ [] → sum_made cs x ≡ Some m
    → MakesOne cs (codes "sum_") IsSum sum_of given m.0 m.1
sum_makes cs given x m alone e =
    let put = λ (t : Ty). let a : Aggregated = (summed (as_taken true x), one_column (behind (codes "sum_") (column_name cs x.0)) t) in a in
    let t = some_map put (sum_type x.1) m e in
    subst (λ (z : Aggregated). MakesOne cs (codes "sum_") IsSum sum_of given z.0 z.1) t.2 (record {
      argument = x;
      alone = alone;
      name = behind (codes "sum_") (column_name cs x.0);
      named = after_column cs (codes "sum_") x.0;
      of_type = t.0;
      typed = sum_is x.1 t.0 t.1;
      working = refl;
      columns = refl;
    })

abbrev end_word : Extreme → List ℕ
end_word extreme.Least = codes "min_"
end_word extreme.Greatest = codes "max_"

abbrev end_of : Extreme → Bound → Aggregating
end_of extreme.Least = least
end_of extreme.Greatest = greatest

value_makes : (end : Extreme) (cs : List Field) (given : List Argued) (x : Bound) (m : Aggregated) → given ≡ Some x ∷ [] → value_made end cs x ≡ Some m
    → MakesOne cs (end_word end) IsOrdered (end_of end) given m.0 m.1
value_makes end cs given x m alone e =
    let put = λ (t : Ty). let a : Aggregated = (value_at end x.0, one_column (behind (base_of end) (column_name cs x.0)) t) in a in
    let t = some_map put (unless_dynamic x.1) m e in
    subst (λ (z : Aggregated). MakesOne cs (end_word end) IsOrdered (end_of end) given z.0 z.1) t.2 (by end t.0 (ordered_is x.1 t.0 t.1))
  where
    by : (end : Extreme) (t : Ty) → IsOrdered x.1 t
        → MakesOne cs (end_word end) IsOrdered (end_of end) given (value_at end x.0) (one_column (behind (base_of end) (column_name cs x.0)) t)
    by extreme.Least t typed = record {
      argument = x;
      alone = alone;
      name = behind (codes "min_") (column_name cs x.0);
      named = after_column cs (codes "min_") x.0;
      of_type = t;
      typed = typed;
      working = refl;
      columns = refl;
    }
    by extreme.Greatest t typed = record {
      argument = x;
      alone = alone;
      name = behind (codes "max_") (column_name cs x.0);
      named = after_column cs (codes "max_") x.0;
      of_type = t;
      typed = typed;
      working = refl;
      columns = refl;
    }

-- ---- a value, and the columns beside it

abbrev rows_of : Extreme → Term → List ℕ → Aggregating
rows_of extreme.Least = at_least
rows_of extreme.Greatest = at_greatest

record IsSeveral (given : List Argued) (p : Bound × List Argued) : Type 0 where
  second : Argued
  more : List Argued
  rest : p.1 ≡ second ∷ more
  all : given ≡ Some p.0 ∷ second ∷ more

several_is : (given : List Argued) (p : Bound × List Argued) → several given ≡ Some p → IsSeveral given p
several_is (Some y ∷ a ∷ more) p e =
    let is : (y, a ∷ more) ≡ p = cc in
    subst (IsSeveral (Some y ∷ a ∷ more)) is (record { second = a; more = more; rest = refl; all = refl })
several_is [] p e = absurd (cc)
several_is (None ∷ more) p e = absurd (cc)
several_is (Some y ∷ []) p e = absurd (cc)

row_makes : (end : Extreme) (lets cs keys : List Field) (given : List Argued) (p : Bound × List Argued) (m : Aggregated) → AreArgued lets cs given
    → IsSeveral given p → row_made end cs (unkeyed 0 cs keys) p ≡ Some m → MakesRow cs keys (end_word end) (rows_of end) given m.0 m.1
row_makes end lets cs keys given p m argued many e =
    let own = column_number p.0.0 in
    let starred = unkeyed 0 cs keys in
    let t = some_then (λ t. option_map (columns_made end cs p.0 t) (all_columns starred own [] p.1)) (unless_dynamic p.0.1) m e in
    let is = some_map (columns_made end cs p.0 t.0) (all_columns starred own [] p.1) m t.2 in
    let ordered = ordered_is p.0.1 t.0 t.1 in
    let all : AreArgued lets cs (Some p.0 ∷ many.second ∷ many.more) = subst (AreArgued lets cs) many.all argued in
    let found : all_columns starred own [] (many.second ∷ many.more) ≡ Some is.0 = ap (all_columns starred own []) (sym many.rest) ∙ is.1 in
    let stand = all_stand lets cs keys own [] (many.second ∷ many.more) is.0 all.1 found in
    let fields : columns_at cs is.0 ≡ map field_of stand.picked = ap (columns_at cs) stand.numbers ∙ columns_placed cs stand.picked stand.there in
    let first : Ty → List Field → List Field = λ u fs. field (own_name (base_of end) (column_name cs p.0.0)) u ∷ fs in
    let columns : first t.0 (columns_at cs is.0) ≡ first p.0.1 (map field_of stand.picked) =
    ap (λ (u : Ty). first u (columns_at cs is.0)) ordered.0 ∙ ap (first p.0.1) fields in
    subst (λ (z : Aggregated). MakesRow cs keys (end_word end) (rows_of end) given z.0 z.1) is.2
    (by end is.0 stand.picked stand.stand stand.numbers ordered.1 (first t.0 (columns_at cs is.0)) columns)
  where
    by : (end : Extreme) (is : List ℕ) (picked : List Placed) → StandFor cs keys (column_number p.0.0) (many.second ∷ many.more) picked
        → is ≡ map number_of picked → p.0.1 ≢ ty.Dynamic → (fs : List Field)
        → fs ≡ field (own_name (base_of end) (column_name cs p.0.0)) p.0.1 ∷ map field_of picked
        → MakesRow cs keys (end_word end) (rows_of end) given (row_at end p.0.0 is) fs
    by extreme.Least is picked stand numbers ordered fs columns = record {
      argument = p.0;
      second = many.second;
      more = many.more;
      several = many.all;
      ordered = ordered;
      own = column_number p.0.0;
      is_own = own_column p.0.0;
      beside = picked;
      stand = stand;
      name = own_name (codes "min_") (column_name cs p.0.0);
      named = own_column_name cs (codes "min_") p.0.0;
      working = ap (at_least p.0.0) numbers;
      columns = columns;
    }
    by extreme.Greatest is picked stand numbers ordered fs columns = record {
      argument = p.0;
      second = many.second;
      more = many.more;
      several = many.all;
      ordered = ordered;
      own = column_number p.0.0;
      is_own = own_column p.0.0;
      beside = picked;
      stand = stand;
      name = own_name (codes "max_") (column_name cs p.0.0);
      named = own_column_name cs (codes "max_") p.0.0;
      working = ap (at_greatest p.0.0) numbers;
      columns = columns;
    }

any_makes : (lets cs keys : List Field) (a : Argued) (more : List Argued) (m : Aggregated) → AreArgued lets cs (a ∷ more)
    → option_map (any_made cs) (all_columns (unkeyed 0 cs keys) None [] (a ∷ more)) ≡ Some m → MakesAny cs keys (a ∷ more) m.0 m.1
any_makes lets cs keys a more m argued e =
    let is = some_map (any_made cs) (all_columns (unkeyed 0 cs keys) None [] (a ∷ more)) m e in
    let stand = all_stand lets cs keys None [] (a ∷ more) is.0 argued is.1 in
    subst (λ (z : Aggregated). MakesAny cs keys (a ∷ more) z.0 z.1) is.2 (record {
      first = a;
      more = more;
      some = refl;
      picked = stand.picked;
      stand = stand.stand;
      working = ap (λ (z : List ℕ). any_of z) stand.numbers;
      columns = ap (columns_at cs) stand.numbers ∙ columns_placed cs stand.picked stand.there;
    })

-- ---- sets

none_at_least : (z : ℤ) → at_least_none z ≡ or_none z
none_at_least (pos n) = refl
none_at_least (negsuc n) = refl

most_is : (e : Term) (n : ℕ) → most_said e ≡ Some n → SaysMost e n
most_is (literal (value.Long z)) n e =
    record { number = z; literally = inl refl; so = sym (some_is (at_least_none z) n e) ∙ none_at_least z }
most_is (literal (value.Int z)) n e =
    record { number = z; literally = inr refl; so = sym (some_is (at_least_none z) n e) ∙ none_at_least z }
most_is _ n e = absurd (cc)

given_most : (more : List Argued) (n : ℕ) → most_given more ≡ Some n → IsMost more n
given_most [] n e = sym (some_is most_in_set n e)
given_most (Some x ∷ []) n e = most_is x.0 n e
given_most (None ∷ []) n e = absurd (cc)
given_most (None ∷ a ∷ more) n e = absurd (cc)
given_most (Some x ∷ a ∷ more) n e = absurd (cc)

set_makes : (cs : List Field) (x : Bound) (more : List Argued) (m : Aggregated) → option_map (set_made cs x) (most_given more) ≡ Some m
    → MakesSet cs (Some x ∷ more) m.0 m.1
set_makes cs x more m e =
    let n = some_map (set_made cs x) (most_given more) m e in
    subst (λ (z : Aggregated). MakesSet cs (Some x ∷ more) z.0 z.1) n.2 (record {
      argument = x;
      more = more;
      some = refl;
      most = n.0;
      at_most = given_most more n.0 n.1;
      name = behind (codes "set_") (column_name cs x.0);
      named = after_column cs (codes "set_") x.0;
      working = refl;
      columns = refl;
    })

-- ---- all of them

count_makes : (m : Aggregated) (does : Aggregated) → does ≡ m → does.0 ≡ rows_counted → does.1 ≡ field (codes "count_") ty.Long ∷ []
    → (m.0 ≡ rows_counted) × (m.1 ≡ field (codes "count_") ty.Long ∷ [])
count_makes m does e h k = subst (λ (z : Aggregated). (z.0 ≡ rows_counted) × (z.1 ≡ field (codes "count_") ty.Long ∷ [])) e (h, k)

pub makes : (f : AggregateFunction) (lets cs keys : List Field) (given : List Argued) (m : Aggregated) → AreArgued lets cs given
    → made f cs (unkeyed 0 cs keys) given ≡ Some m → Makes cs keys f given m.0 m.1
makes aggregate.Count lets cs keys [] m h e =
    let does : Aggregated = (rows_counted, one_column (codes "count_") ty.Long) in
    let both = count_makes m does (some_is does m e) refl refl in
    (refl, both.0, both.1)
makes aggregate.Sum lets cs keys given m h e =
    let x = some_then (sum_made cs) (only given) m e in sum_makes cs given x.0 m (only_is given x.0 x.1) x.2
makes aggregate.Min lets cs keys given m h e =
    let x = some_then (value_made extreme.Least cs) (only given) m e in value_makes extreme.Least cs given x.0 m (only_is given x.0 x.1) x.2
makes aggregate.Max lets cs keys given m h e =
    let x = some_then (value_made extreme.Greatest cs) (only given) m e in value_makes extreme.Greatest cs given x.0 m (only_is given x.0 x.1) x.2
makes aggregate.ArgMax lets cs keys given m h e =
    let p = some_then (row_made extreme.Greatest cs (unkeyed 0 cs keys)) (several given) m e in
    row_makes extreme.Greatest lets cs keys given p.0 m h (several_is given p.0 p.1) p.2
makes aggregate.ArgMin lets cs keys given m h e =
    let p = some_then (row_made extreme.Least cs (unkeyed 0 cs keys)) (several given) m e in
    row_makes extreme.Least lets cs keys given p.0 m h (several_is given p.0 p.1) p.2
makes aggregate.TakeAny lets cs keys (a ∷ more) m h e = any_makes lets cs keys a more m h e
makes aggregate.MakeSet lets cs keys (Some x ∷ more) m h e = set_makes cs x more m e
makes _ lets cs keys given m h e = absurd (cc)
