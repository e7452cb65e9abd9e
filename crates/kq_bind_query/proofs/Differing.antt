-- The columns of each step of a bound plan have different names.
use Rattle.std.proofs.Common.{◌≡◌, ℕ, zero, suc, ◌+◌, ◌^◌, ◌<◌, Bool, true, false, cond, List, [], ◌∷◌, ◌++◌, length, map, All, Option, Some, None, Result, Ok, Err, IfOk, refl, ap, subst, arith}
use Rattle.std.specs.Prelude.{slice_set, slice_index_or, Vec}
use Rattle.std.proofs.lemmas.List.Elements.{All-nil, All-head, All-tail, All-map, All-pop, All-push, All-weaker}
use Rattle.kq_bind_query.specs.Pipes.{tabular, sourced, from_word, united_with, gathered, armed, piped, operated}
use Rattle.kq_bind_query.specs.Queries.{Letting, nothing_let, scope_of, is_let, scalar_put, tabular_put, if_new, scalar_let, tabular_let, bare_name, is_tabular, let_made, lets_made, planned, query_walked, query_bound}
use Rattle.kq_bind_clauses.specs.Joins.{join_kind, on_keys, join_columns}
use Rattle.kq_bind_clauses.specs.Ranges.{ranged}
use Rattle.kq_bind_clauses.specs.Sorts.{sort_key, sort_keys}
use Rattle.kq_bind_clauses.specs.Tables.{table_columns, rows_made, tabled}
use Rattle.kq_bind_clauses.specs.Unions.{is_inner, columns_in, union_sources}
use Rattle.kq_bind_columns.specs.Chosen.{chosen, all_chosen, columns_at as columns_chosen, without, names_given, renamed as fields_renamed}
use Rattle.kq_bind_columns.specs.Defaults.{first_token}
use Rattle.kq_bind_columns.specs.Items.{field, nothing_made, items_made}
use Rattle.kq_bind_columns.specs.Laying.{as_they_are, over}
use Rattle.kq_bind_columns.specs.Naming.{is_taken}
use Rattle.kq_bind_columns.specs.Printed.{printed}
use Rattle.kq_bind_aggregates.specs.Gathered.{no_aggregate, aggregates_made}
use Rattle.kq_bind_expressions.specs.Bound.{bound}
use Rattle.kq_bind_expressions.specs.Lookup.{first_named}
use Rattle.kq_bind_expressions.specs.declared.fault.BindFault.{BindFault}
use Rattle.kq_bind_expressions.specs.Verdicts.{AnswersVerdict, Verdict, and_then, mistyped, unknown, supported_or}
use Rattle.kq_bind_query.specs.kq_bind_operators.Clauses.{range_made, bind_range, table_rows, sorted_by, topped_by, summarized_by, grouped, grouping_items, part_type, or_dynamic, item_name, item_value, if_dynamic, expanded_at, expanded_as, bind_mv_expand, joined_on, arms_with, all_together}
use Rattle.kq_bind_query.specs.kq_bind_operators.Flows.{Progressing, Flowing, columns, columns_at, after, added, following, again, next_stage}
use Rattle.kq_bind_query.specs.kq_bind_operators.Operators.{row_made, printed_row, where_true, filtered, row_number, taken, count_column, laid_after, projected, extended, dropped, new_name, old_name, renamed, bind_distinct, all_distinct}
use Rattle.kq_bind_query.specs.kq_bind_operators.Scopes.{Scoping, names, leaf_kind, leaf_of, tabling_named, named_rows, source_named, part_of, part_named}
use Rattle.kq_bind_query.specs.kq_bind_supported.Unsupported.{unsupported_query}
use Rattle.kq_plan_expressions.specs.Terms.{Bound}
use Rattle.kq_read_grammar.specs.declared.clause.Cell.{Cell}
use Rattle.kq_read_grammar.specs.declared.clause.Column.{Column}
use Rattle.kq_read_grammar.specs.declared.clause.JoinKey.{JoinKey}
use Rattle.kq_read_grammar.specs.declared.expression.Name.{Name}
use Rattle.kq_read_grammar.specs.Trees.{Tree, ItemTree, KeyTree, AggregateTree, TabularTree, pipeline, SourceTree, table, nested, worded, FromTree, view, print, range, datatable, union, UnionTree, arms, ArmTree, named_arm, nested_arm, Arms, no_arm, and_arm, Operators, no_operator, and_operator, BodyTree, filter, extend, project, project_away, project_rename, take, count, sort, top, distinct, distinct_all, summarize, summarize_by, join, unite, mv_expand, LetTree, QueryTree}
use Rattle.kq_plan.specs.declared.names.NameKind.TheVariants as name
use Rattle.kq_plan.specs.declared.work.JoinKind.{JoinKind}
use Rattle.kq_plan.specs.declared.work.LeafKind.TheVariants as kind
use Rattle.kq_plan.specs.declared.plan.Plan.{Plan}
use Rattle.kq_plan.specs.Names.{Known}
use Rattle.kq_plan.specs.Plans.{Doing, leaf, written, kept, mapped, cut, counted, sorted, topped, apart, summarized, joined, expanded, Stepping, Planned, planned_of, stepping_of, scalar as scalar_step}
use Rattle.kq_read_meanings.specs.Names.{name_said, name_place, string_said}
use Rattle.kq_read_meanings.specs.Pieces.{piece}
use Rattle.kq_read_symbols.specs.Choices.{Right, scalar, table as tabular_alone, either}
use Rattle.kq_read_symbols.specs.declared.kind.Symbol.{Symbol}
use Rattle.kq_value.specs.declared.schema.Field.{Field}
use Rattle.kq_value.specs.declared.ty.Ty.{Ty}
use Rattle.kq_value.specs.declared.ty.Ty.TheVariants as ty
use Rattle.kq_value.specs.Ty.{same_ty}
use Rattle.kq_bind_query.specs.Different.{KnowsDifferent, HasDifferent}
use Rattle.kq_bind_query.proofs.Progress.{then_ok, done, done_is}
use Rattle.kq_bind_query.proofs.Apart.{Apart, apart_behind, one_apart, apart_different, different_apart, set_apart, found_named, unfound, IfFew}
use Rattle.kq_bind_query.proofs.Named.{items_apart, printed_apart, columns_apart, aggregates_apart}
use Rattle.kq_bind_query.proofs.Placed.{over_apart, without_apart, chosen_once, chosen_length, columns_at_apart, renamed_apart}
use Rattle.kq_bind_query.proofs.Together.{join_apart, FirstApart, sources_single, union_apart}

-- ---- one step more

-- no more columns than a vector holds
abbrev IsNarrow : Stepping → Type 0
IsNarrow s = length s.columns < 2 ^ 63

abbrev IsApart : Stepping → Type 0
IsApart s = Apart s.columns

-- if all are narrow, all have different names
abbrev AreApart : List Stepping → Type 0
AreApart ss = All IsNarrow ss → All IsApart ss

abbrev GoesApart : Flowing → Type 0
GoesApart w = AreApart w.progress.steps

-- columns that are different where those of all steps are, and where they are few
abbrev IsNext : List Stepping → List Field → Type 0
IsNext ss cs = All IsApart ss → IfFew cs

step_apart : (ss : List Stepping) (s : Stepping) → AreApart ss → IsNext ss s.columns → AreApart (ss ++ s ∷ [])
step_apart ss s h next narrow =
    let few = All-pop IsNarrow (ss ++ s ∷ []) ss (Some s) refl narrow in
    let all = h few.0 in
    All-push IsApart ss s all (next all few.1)

columns_there : (ss : List Stepping) (i : ℕ) → All IsApart ss → Apart (columns_at ss i)
columns_there [] i h = tt
columns_there (s ∷ ss) zero h = All-head IsApart s ss h
columns_there (s ∷ ss) (suc i) h = columns_there ss i (All-tail IsApart s ss h)

following_apart : (p : Progressing) (d : Doing) (cs : List Field) → AreApart p.steps → IsNext p.steps cs → GoesApart (following p d cs)
following_apart p d cs h next = step_apart p.steps (record { stage = p.stages + 1; doing = d; columns = cs }) h next

after_apart : (w : Flowing) (d : ℕ → Doing) (cs : List Field) → GoesApart w → (Apart (columns w) → IfFew cs) → GoesApart (after w d cs)
after_apart w d cs h next = following_apart w.progress (d w.input) cs h (λ all. next (columns_there w.progress.steps w.input all))

same_apart : (w : Flowing) (d : ℕ → Doing) → GoesApart w → GoesApart (after w d (columns w))
same_apart w d h = after_apart w d (columns w) h (λ all few. all)

-- ---- sources

abbrev Knows : Scoping → Type 0
Knows s = KnowsDifferent s.known

leaf_apart : (s : Scoping) (p : Progressing) (at : ℕ) (said : List ℕ) (v : Flowing) (o : Option Known) → Knows s → AreApart p.steps → s.known said ≡ o
    → leaf_of at p said o ≡ Ok v → GoesApart v
leaf_apart s p at said v (Some k) tells h is e =
    subst GoesApart (done_is (following p (leaf (leaf_kind k.0) said) k.1) v e)
    (following_apart p (leaf (leaf_kind k.0) said) k.1 h (λ all few. different_apart k.1 (tells said k.0 k.1 is)))
leaf_apart s p at said v None tells h is e = absurd (cc)

part_apart : (s : Scoping) (p : Progressing) (at : ℕ) (said : List ℕ) (v : Flowing) (o : Option Known) → Knows s → AreApart p.steps → s.known said ≡ o
    → part_of at p said o ≡ Ok v → GoesApart v
part_apart s p at said v (Some (name.View, cs)) tells h is e =
    subst GoesApart (done_is (following p (leaf kind.Part said) cs) v e)
    (following_apart p (leaf kind.Part said) cs h (λ all few. different_apart cs (tells said name.View cs is)))
part_apart s p at said v (Some (name.Table, cs)) tells h is e = absurd (cc)
part_apart s p at said v None tells h is e = absurd (cc)

part_named_apart : (s : Scoping) (p : Progressing) (t : Symbol) (v : Flowing) → Knows s → AreApart p.steps → part_named s p t ≡ Ok v → GoesApart v
part_named_apart s p t v tells h e = let said = string_said (piece s.text t) in part_apart s p t.from said v (s.known said) tells h refl e

named_apart : (s : Scoping) (p : Progressing) (at : ℕ) (said : List ℕ) (v : Flowing) (o : Option ℕ) → Knows s → AreApart p.steps
    → named_rows s p at said o ≡ Ok v → GoesApart v
named_apart s p at said v (Some i) tells h e = subst GoesApart (done_is (again p i) v e) h
named_apart s p at said v None tells h e = by (is_taken s.lets said) e where
  by : (b : Bool) → cond b (Err (unknown at)) (leaf_of at p said (s.known said)) ≡ Ok v → GoesApart v
  by true g = absurd (cc)
  by false g = leaf_apart s p at said v (s.known said) tells h refl g

source_apart : (s : Scoping) (p : Progressing) (n : Name) (v : Flowing) → Knows s → AreApart p.steps → source_named s p n ≡ Ok v → GoesApart v
source_apart s p n v tells h e = let said = name_said s.text n in named_apart s p (name_place n) said v (tabling_named s.tables said) tells h e

printed_row_apart : (s : Scoping) (p : Progressing) (is : List ItemTree) (v : Flowing) → AreApart p.steps → printed_row s p is ≡ Ok v → GoesApart v
printed_row_apart s p is v h e =
    let m = then_ok (printed (names s) is) (λ m. done (row_made p m)) v e in
    subst GoesApart (done_is (row_made p m.0) v m.2) (step_apart p.steps _ h (λ all. printed_apart (names s) is m.0 m.1))

range_apart : (s : Scoping) (p : Progressing) (n : Name) (a b c : Tree) (v : Flowing) → AreApart p.steps → bind_range s p n a b c ≡ Ok v → GoesApart v
range_apart s p n a b c v h e =
    let r = then_ok (ranged (names s) a b c) (λ r. done (range_made s p n r)) v e in
    subst GoesApart (done_is (range_made s p n r.0) v r.2) (step_apart p.steps _ h (λ all few. one_apart (field (name_said s.text n) r.0.ty)))

table_apart : (s : Scoping) (p : Progressing) (at : ℕ) (cs : List Column) (ls : List Cell) (v : Flowing) → AreApart p.steps → table_rows s p at cs ls ≡ Ok v
    → GoesApart v
table_apart s p at cs ls v h e =
    let t = then_ok (tabled s.text at cs ls) (λ t. done (following p (written t.1) t.0)) v e in
    let fs = then_ok (table_columns s.text [] cs) (λ fs. and_then (rows_made s.text at fs [] fs ls) (λ rows. done (fs, rows))) t.0 t.1 in
    let rows = then_ok (rows_made s.text at fs.0 [] fs.0 ls) (λ rows. done (fs.0, rows)) t.0 fs.2 in
    let same : fs.0 ≡ t.0.0 = ap (λ (z : List Field × List (List _)). z.0) (done_is (fs.0, rows.0) t.0 rows.2) in
    subst GoesApart (done_is (following p (written t.0.1) t.0.0) v t.2)
    (following_apart p (written t.0.1) t.0.0 h (λ all few. subst Apart same (columns_apart s.text cs fs.0 fs.1)))

-- ---- rows that are kept

where_apart : (w v : Flowing) (at : ℕ) (x : Bound) → GoesApart w → where_true w at x ≡ Ok v → GoesApart v
where_apart w v at x h e = by (same_ty x.1 ty.Bool) e where
  by : (b : Bool) → cond {A = Verdict Flowing} b (done (after w (λ i. kept i x.0) (columns w))) (Err (mistyped at)) ≡ Ok v → GoesApart v
  by true g = subst GoesApart (done_is (after w (λ i. kept i x.0) (columns w)) v g) (same_apart w (λ i. kept i x.0) h)
  by false g = absurd (cc)

filtered_apart : (s : Scoping) (w v : Flowing) (e : Tree) → GoesApart w → filtered s w e ≡ Ok v → GoesApart v
filtered_apart s w v e h is =
    let x = then_ok (bound (names s) (columns w) e) (where_true w (first_token e)) v is in
    where_apart w v (first_token e) x.0 h x.2

taken_apart : (s : Scoping) (w v : Flowing) (t : Symbol) → GoesApart w → taken s w t ≡ Ok v → GoesApart v
taken_apart s w v t h is =
    let n = then_ok (row_number s t) (λ n. done (after w (λ i. cut i n) (columns w))) v is in
    subst GoesApart (done_is (after w (λ i. cut i n.0) (columns w)) v n.2) (same_apart w (λ i. cut i n.0) h)

sorted_apart : (s : Scoping) (w v : Flowing) (ks : List KeyTree) → GoesApart w → sorted_by s w ks ≡ Ok v → GoesApart v
sorted_apart s w v ks h e =
    let xs = then_ok (sort_keys (names s) (columns w) ks) (λ xs. done (after w (λ i. sorted i xs) (columns w))) v e in
    subst GoesApart (done_is (after w (λ i. sorted i xs.0) (columns w)) v xs.2) (same_apart w (λ i. sorted i xs.0) h)

topped_apart : (s : Scoping) (w v : Flowing) (t : Symbol) (k : KeyTree) → GoesApart w → topped_by s w t k ≡ Ok v → GoesApart v
topped_apart s w v t k h e =
    let n = then_ok (row_number s t) (λ n. and_then (sort_key (names s) (columns w) k) (λ x. done (after w (λ i. topped i n x) (columns w)))) v e in
    let x = then_ok (sort_key (names s) (columns w) k) (λ x. done (after w (λ i. topped i n.0 x) (columns w))) v n.2 in
    subst GoesApart (done_is (after w (λ i. topped i n.0 x.0) (columns w)) v x.2) (same_apart w (λ i. topped i n.0 x.0) h)

all_distinct_apart : (w v : Flowing) (t : Symbol) → GoesApart w → all_distinct w t ≡ Ok v → GoesApart v
all_distinct_apart w v t h e =
    let is = then_ok (all_chosen t.from 0 (columns w)) (λ is. done (after w (λ i. apart i is) (columns w))) v e in
    subst GoesApart (done_is (after w (λ i. apart i is.0) (columns w)) v is.2) (same_apart w (λ i. apart i is.0) h)

-- ---- columns that are made

projected_apart : (s : Scoping) (w v : Flowing) (is : List ItemTree) → GoesApart w → projected s w is ≡ Ok v → GoesApart v
projected_apart s w v is h e =
    let m = then_ok (items_made (names s) (columns w) [] false nothing_made is) (λ m. done (after w (λ i. mapped i m.terms) m.fields)) v e in
    subst GoesApart (done_is (after w (λ i. mapped i m.0.terms) m.0.fields) v m.2)
    (after_apart w (λ i. mapped i m.0.terms) m.0.fields h (λ all. items_apart (names s) (columns w) false is m.0 m.1))

extended_apart : (s : Scoping) (w v : Flowing) (is : List ItemTree) → GoesApart w → extended s w is ≡ Ok v → GoesApart v
extended_apart s w v is h e =
    let cs = columns w in
    let m = then_ok (items_made (names s) cs cs false nothing_made is) (λ m. done (laid_after w (over cs m))) v e in
    subst GoesApart (done_is (laid_after w (over cs m.0)) v m.2)
    (after_apart w (λ i. mapped i (over cs m.0).0) (over cs m.0).1 h (λ all few. over_apart cs m.0 all))

dropped_apart : (s : Scoping) (w v : Flowing) (ns : List Name) → GoesApart w → dropped s w ns ≡ Ok v → GoesApart v
dropped_apart s w v ns h e =
    let is = then_ok (chosen s.text (columns w) false [] ns) (λ is. done (laid_after w (without 0 (columns w) is))) v e in
    let left = without 0 (columns w) is.0 in
    subst GoesApart (done_is (laid_after w left) v is.2) (after_apart w (λ i. mapped i left.0) left.1 h (λ all few. without_apart (columns w) is.0 all))

map_length : (ps : List (Name × Name)) → length (map new_name ps) ≡ length (map old_name ps)
map_length [] = refl
map_length (p ∷ ps) = ap (λ n. suc n) (map_length ps)

renamed_goes_apart : (s : Scoping) (w v : Flowing) (ps : List (Name × Name)) → GoesApart w → renamed s w ps ≡ Ok v → GoesApart v
renamed_goes_apart s w v ps h e =
    let cs = columns w in
    let put = λ (is : List ℕ) (ns : List (List ℕ)). after w (λ i. mapped i (as_they_are 0 cs)) (fields_renamed 0 cs is ns) in
    let is = then_ok (chosen s.text cs false [] (map old_name ps))
    (λ is. and_then (names_given s.text (without 0 cs is).1 (map new_name ps)) (λ ns. done (put is ns))) v e in
    let ns = then_ok (names_given s.text (without 0 cs is.0).1 (map new_name ps)) (λ ns. done (put is.0 ns)) v is.2 in
    let long : length (map new_name ps) ≡ length is.0 = omega (arith, map_length ps, chosen_length s.text cs false [] (map old_name ps) is.0 is.1) in
    subst GoesApart (done_is (put is.0 ns.0) v ns.2)
    (after_apart w (λ i. mapped i (as_they_are 0 cs)) (fields_renamed 0 cs is.0 ns.0) h
    (λ all few. renamed_apart s.text cs is.0 (map new_name ps) ns.0 long ns.1 all))

distinct_apart : (s : Scoping) (w v : Flowing) (ns : List Name) → GoesApart w → bind_distinct s w ns ≡ Ok v → GoesApart v
distinct_apart s w v ns h e =
    let put = λ (is : List ℕ). after w (λ i. apart i is) (columns_chosen (columns w) is) in
    let is = then_ok (chosen s.text (columns w) true [] ns) (λ is. done (put is)) v e in
    let once = chosen_once s.text (columns w) true [] ns is.0 tt is.1 in
    subst GoesApart (done_is (put is.0) v is.2)
    (after_apart w (λ i. apart i is.0) (columns_chosen (columns w) is.0) h (λ all few. columns_at_apart (columns w) is.0 all once))

grouped_apart : (s : Scoping) (w v : Flowing) (aggs : List AggregateTree) (is : List ItemTree) → GoesApart w → grouped s w aggs is ≡ Ok v → GoesApart v
grouped_apart s w v aggs is h e =
    let cs = columns w in
    let m = then_ok (items_made (names s) cs [] true nothing_made is)
    (λ m. and_then (aggregates_made (names s) cs m.fields (no_aggregate m.fields) aggs) (λ g. done (summarized_by w m.terms g))) v e in
    let g = then_ok (aggregates_made (names s) cs m.0.fields (no_aggregate m.0.fields) aggs) (λ g. done (summarized_by w m.0.terms g)) v m.2 in
    let keys = items_apart (names s) cs true is m.0 m.1 in
    subst GoesApart (done_is (summarized_by w m.0.terms g.0) v g.2)
    (after_apart w (λ i. summarized i m.0.terms g.0.aggregates) g.0.fields h
    (λ all. aggregates_apart (names s) cs m.0.fields (no_aggregate m.0.fields) aggs g.0 keys g.1))

expanded_apart : (w : Flowing) (x : Bound) (name : List ℕ) (t : Option Ty) → GoesApart w → GoesApart (expanded_as w x name t)
expanded_apart w x name t h = by (first_named 0 (columns w) name) refl where
  by : (o : Option (ℕ × Ty)) → first_named 0 (columns w) name ≡ o → GoesApart (expanded_at w x name t o)
  by (Some k) is =
      let f = field name (or_dynamic t) in
      after_apart w (λ i. expanded i x.0 k.0 t) (slice_set (columns w) k.0 f) h (λ all few. set_apart (columns w) k.0 f (found_named (columns w) name k is) all)
  by None is =
      let f = field name (or_dynamic t) in
      after_apart w (λ i. expanded i x.0 (length (columns w)) t) (columns w ++ f ∷ []) h (λ all few. apart_behind (columns w) f all (unfound (columns w) name is))

parts_apart : (s : Scoping) (w v : Flowing) (i : ItemTree) (t : Option Symbol) → GoesApart w → bind_mv_expand s w i t ≡ Ok v → GoesApart v
parts_apart s w v i t h e =
    let said = item_name s (columns w) i in
    let x = then_ok (and_then (bound (names s) (columns w) (item_value i)) (if_dynamic (first_token (item_value i))))
    (λ x. and_then (part_type s t) (λ u. done (expanded_as w x said u))) v e in
    let u = then_ok (part_type s t) (λ u. done (expanded_as w x.0 said u)) v x.2 in
    subst GoesApart (done_is (expanded_as w x.0 said u.0) v u.2) (expanded_apart w x.0 said u.0 h)

-- ---- rows of several steps

joined_apart : (s : Scoping) (stage left : ℕ) (k : JoinKind) (r v : Flowing) (ks : List JoinKey) → GoesApart r → joined_on s stage left k r ks ≡ Ok v
    → GoesApart v
joined_apart s stage left k r v ks h e =
    let ss = r.progress.steps in
    let cs = join_columns k (columns_at ss left) (columns r) in
    let on = then_ok (on_keys s.text (columns_at ss left) (columns r) ks) (λ on. done (added r.progress stage (joined k left r.input on) cs)) v e in
    let one : Stepping = record { stage = stage; doing = joined k left r.input on.0; columns = cs } in
    subst GoesApart (done_is (added r.progress stage (joined k left r.input on.0) cs) v on.2)
    (step_apart ss one h (λ all. join_apart k (columns_at ss left) (columns r) (columns_there ss left all) (columns_there ss r.input all)))

first_arm : (ss : List Stepping) (is : List ℕ) → All IsApart ss → FirstApart (map columns_in (arms_with ss is))
first_arm ss [] h = tt
first_arm ss (i ∷ is) h = columns_there ss i h

together_apart : (stage : ℕ) (kind : Option Symbol) (p : Progressing) (is : List ℕ) → AreApart p.steps → GoesApart (all_together stage kind p is)
together_apart stage kind p is h =
    step_apart p.steps _ h (λ all. union_apart (union_sources (is_inner kind) (map columns_in (arms_with p.steps is)))
    (sources_single (is_inner kind) (map columns_in (arms_with p.steps is)) (first_arm p.steps is all)))

-- ---- pipes

mutual
  tabular_apart : (s : Scoping) (p : Progressing) (q : TabularTree) (v : Flowing) → Knows s → AreApart p.steps → tabular s p q ≡ Ok v → GoesApart v
  tabular_apart s p (pipeline o bs) v tells h e =
      let w = then_ok (sourced s p o) (λ w. piped s w bs) v e in
      piped_apart s w.0 bs v tells (sourced_apart s p o w.0 tells h w.1) w.2

  sourced_apart : (s : Scoping) (p : Progressing) (o : SourceTree) (v : Flowing) → Knows s → AreApart p.steps → sourced s p o ≡ Ok v → GoesApart v
  sourced_apart s p (table n) v tells h e = source_apart s p n v tells h e
  sourced_apart s p (nested t q) v tells h e = tabular_apart s p q v tells h e
  sourced_apart s p (worded t b) v tells h e = from_apart s p t b v tells h e

  from_apart : (s : Scoping) (p : Progressing) (t : Symbol) (b : FromTree) (v : Flowing) → Knows s → AreApart p.steps → from_word s p t b ≡ Ok v → GoesApart v
  from_apart s p t (view n) v tells h e = part_named_apart s p n v tells h e
  from_apart s p t (print i is) v tells h e = printed_row_apart s p (i ∷ is) v h e
  from_apart s p t (range n a b c) v tells h e = range_apart s p n a b c v h e
  from_apart s p t (datatable c cs ls) v tells h e = table_apart s p t.from (c ∷ cs) ls v h e
  from_apart s p t (union u) v tells h e = united_apart s (p.stages + 1) (next_stage p) [] u v tells h e

  united_apart : (s : Scoping) (stage : ℕ) (p : Progressing) (is : List ℕ) (u : UnionTree) (v : Flowing) → Knows s → AreApart p.steps
      → united_with s stage p is u ≡ Ok v → GoesApart v
  united_apart s stage p is (arms kind a more) v tells h e =
      let w = then_ok (armed s p a) (λ w. gathered s stage kind w.progress (is ++ w.input ∷ []) more) v e in
      gathered_apart s stage kind w.0.progress (is ++ w.0.input ∷ []) more v tells (armed_apart s p a w.0 tells h w.1) w.2

  gathered_apart : (s : Scoping) (stage : ℕ) (kind : Option Symbol) (p : Progressing) (is : List ℕ) (more : Arms) (v : Flowing) → Knows s → AreApart p.steps
      → gathered s stage kind p is more ≡ Ok v → GoesApart v
  gathered_apart s stage kind p is no_arm v tells h e = subst GoesApart (done_is (all_together stage kind p is) v e) (together_apart stage kind p is h)
  gathered_apart s stage kind p is (and_arm a more) v tells h e =
      let w = then_ok (armed s p a) (λ w. gathered s stage kind w.progress (is ++ w.input ∷ []) more) v e in
      gathered_apart s stage kind w.0.progress (is ++ w.0.input ∷ []) more v tells (armed_apart s p a w.0 tells h w.1) w.2

  armed_apart : (s : Scoping) (p : Progressing) (a : ArmTree) (v : Flowing) → Knows s → AreApart p.steps → armed s p a ≡ Ok v → GoesApart v
  armed_apart s p (named_arm n) v tells h e = source_apart s p n v tells h e
  armed_apart s p (nested_arm t q) v tells h e = tabular_apart s p q v tells h e

  piped_apart : (s : Scoping) (w : Flowing) (bs : Operators) (v : Flowing) → Knows s → GoesApart w → piped s w bs ≡ Ok v → GoesApart v
  piped_apart s w no_operator v tells h e = subst GoesApart (done_is w v e) h
  piped_apart s w (and_operator t b bs) v tells h e =
      let u = then_ok (operated s w b) (λ u. piped s u bs) v e in
      piped_apart s u.0 bs v tells (operated_apart s w b u.0 tells h u.1) u.2

  operated_apart : (s : Scoping) (w : Flowing) (b : BodyTree) (v : Flowing) → Knows s → GoesApart w → operated s w b ≡ Ok v → GoesApart v
  operated_apart s w (filter c) v tells h e = filtered_apart s w v c h e
  operated_apart s w (extend i is) v tells h e = extended_apart s w v (i ∷ is) h e
  operated_apart s w (project i is) v tells h e = projected_apart s w v (i ∷ is) h e
  operated_apart s w (project_away n ns) v tells h e = dropped_apart s w v (n ∷ ns) h e
  operated_apart s w (project_rename q qs) v tells h e = renamed_goes_apart s w v (q ∷ qs) h e
  operated_apart s w (take t) v tells h e = taken_apart s w v t h e
  operated_apart s w count v tells h e =
      subst GoesApart (done_is (after w counted count_column) v e) (after_apart w counted count_column h (λ all few. (refl, tt)))
  operated_apart s w (sort k ks) v tells h e = sorted_apart s w v (k ∷ ks) h e
  operated_apart s w (top t k) v tells h e = topped_apart s w v t k h e
  operated_apart s w (distinct n ns) v tells h e = distinct_apart s w v (n ∷ ns) h e
  operated_apart s w (distinct_all t) v tells h e = all_distinct_apart w v t h e
  operated_apart s w (summarize a more keys) v tells h e = grouped_apart s w v (a ∷ more) (grouping_items keys) h e
  operated_apart s w (summarize_by keys) v tells h e = grouped_apart s w v [] (keys.0 ∷ keys.1) h e
  operated_apart s w (join kind q k ks) v tells h e =
      let r = then_ok (tabular s (next_stage w.progress) q) (λ r. joined_on s (w.progress.stages + 1) w.input (join_kind kind) r (k ∷ ks)) v e in
      joined_apart s (w.progress.stages + 1) w.input (join_kind kind) r.0 v (k ∷ ks) (tabular_apart s (next_stage w.progress) q r.0 tells h r.1) r.2
  operated_apart s w (unite u) v tells h e = united_apart s (w.progress.stages + 1) (next_stage w.progress) (w.input ∷ []) u v tells h e
  operated_apart s w (mv_expand i t) v tells h e = parts_apart s w v i t h e

-- ---- lets

abbrev IsLet : Letting → Type 0
IsLet l = AreApart l.progress.steps

new_apart : (text : List ℕ) (l m x : Letting) (n : Name) → if_new text l n x ≡ Ok m → IsLet x → IsLet m
new_apart text l m x n e h = by (is_let l (name_said text n)) e where
  by : (b : Bool) → cond {A = Verdict Letting} b (Err (mistyped (name_place n))) (done x) ≡ Ok m → IsLet m
  by true g = absurd (cc)
  by false g = subst IsLet (done_is x m g) h

scalar_apart : (text : List ℕ) (known : List ℕ → Option Known) (l m : Letting) (n : Name) (e : Tree) → IsLet l → scalar_let text known l n e ≡ Ok m → IsLet m
scalar_apart text known l m n e h is =
    let said = name_said text n in
    let x = then_ok (bound (names (scope_of text known l)) [] e) (λ x. if_new text l n (scalar_put l said x)) m is in
    new_apart text l m (scalar_put l said x.0) n x.2
    (following_apart l.progress (scalar_step x.0.0) (field said x.0.1 ∷ []) h (λ all few. one_apart (field said x.0.1)))

tabular_let_apart : (text : List ℕ) (known : List ℕ → Option Known) (l m : Letting) (n : Name) (q : TabularTree) → KnowsDifferent known → IsLet l
    → tabular_let text known l n q ≡ Ok m → IsLet m
tabular_let_apart text known l m n q tells h is =
    let s = scope_of text known l in
    let w = then_ok (tabular s l.progress q) (λ w. if_new text l n (tabular_put l (name_said text n) w)) m is in
    new_apart text l m (tabular_put l (name_said text n) w.0) n w.2 (tabular_apart s l.progress q w.0 tells h w.1)

let_apart : (text : List ℕ) (known : List ℕ → Option Known) (l m : Letting) (n : Name) (r : Right Tree TabularTree) → KnowsDifferent known → IsLet l
    → let_made text known l n r ≡ Ok m → IsLet m
let_apart text known l m n (scalar e) tells h is = scalar_apart text known l m n e h is
let_apart text known l m n (tabular_alone q) tells h is = tabular_let_apart text known l m n q tells h is
let_apart text known l m n (either e q) tells h is = by (is_tabular text known l (bare_name e)) is where
  by : (b : Bool) → cond b (tabular_let text known l n q) (scalar_let text known l n e) ≡ Ok m → IsLet m
  by true g = tabular_let_apart text known l m n q tells h g
  by false g = scalar_apart text known l m n e h g

lets_apart : (text : List ℕ) (known : List ℕ → Option Known) (l m : Letting) (xs : List LetTree) → KnowsDifferent known → IsLet l
    → lets_made text known l xs ≡ Ok m → IsLet m
lets_apart text known l m [] tells h is = subst IsLet (done_is l m is) h
lets_apart text known l m (x ∷ xs) tells h is =
    let k = then_ok (let_made text known l x.name x.right) (λ k. lets_made text known k xs) m is in
    lets_apart text known k.0 m xs tells (let_apart text known l k.0 x.name x.right tells h k.1) k.2

-- ---- queries

abbrev IsApartPlan : Planned → Type 0
IsApartPlan p = AreApart p.steps

walked_apart : (text : List ℕ) (known : List ℕ → Option Known) (q : QueryTree) (p : Planned) → KnowsDifferent known → query_walked text known q ≡ Ok p
    → IsApartPlan p
walked_apart text known q p tells e =
    let l = then_ok (lets_made text known nothing_let q.lets)
    (λ l. and_then (tabular (scope_of text known l) l.progress q.tabular) (λ w. done (planned w))) p e in
    let w = then_ok (tabular (scope_of text known l.0) l.0.progress q.tabular) (λ w. done (planned w)) p l.2 in
    let lets = lets_apart text known nothing_let l.0 q.lets tells (λ narrow. All-nil IsApart) l.1 in
    subst IsApartPlan (done_is (planned w.0) p w.2) (tabular_apart (scope_of text known l.0) l.0.progress q.tabular w.0 tells lets w.1)

supported : {A : Type 0} (o : Option ℕ) (v : Verdict A) (x : A) → supported_or o v ≡ Ok x → v ≡ Ok x
supported None v x e = e
supported (Some at) v x e = absurd (cc)

-- each step of whatever a query is bound to has columns of different names
pub bound_different : (text : List ℕ) (known : List ℕ → Option Known) (q : QueryTree) (p : Planned) → query_bound text known q ≡ Ok p → KnowsDifferent known
    → All IsNarrow p.steps → All HasDifferent p.steps
bound_different text known q p e tells narrow =
    let all = walked_apart text known q p tells (supported (unsupported_query text q) (query_walked text known q) p e) narrow in
    All-weaker IsApart HasDifferent (λ s h. apart_different s.columns h) p.steps all

-- a vector holds fewer than 2^63 items
vec_few : {X Z : Type 0} (v : Vec X Z) → length v.items < 2 ^ 63
vec_few v = let ok = v.ok in let small = v.small in omega (arith, ok.0, ok.1, small)

plan_narrow : (p : Plan) → All IsNarrow (planned_of p).steps
plan_narrow p = All-map IsNarrow stepping_of p.steps.items (λ k d less. vec_few (slice_index_or p.steps.items k d).columns)

-- what the code answers
pub answer_different : (text : List ℕ) (known : List ℕ → Option Known) (q : QueryTree) (r : Result Plan BindFault) → KnowsDifferent known
    → AnswersVerdict planned_of (query_bound text known q) r → IfOk r (λ (p : Plan). All HasDifferent (planned_of p).steps)
answer_different text known q (Ok p) tells e = bound_different text known q (planned_of p) e tells (plan_narrow p)
answer_different text known q (Err f) tells e = tt
