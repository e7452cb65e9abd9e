-- The steps of a bound plan have stages of their own, each behind the steps whose rows it takes.
use Rattle.std.proofs.Common.{◌≡◌, ℕ, ◌+◌, ◌<◌, ◌≤◌, Bool, true, false, cond, List, [], ◌∷◌, ◌++◌, length, map, All, Option, Some, None, Result, Ok, Err, IfOk, refl, sym, subst, arith}
use Rattle.std.specs.Prelude.{slice_set, nat_eq}
use Rattle.std.specs.Cmp.Lexicographic.{pointwise}
use Rattle.std.proofs.lemmas.List.Elements.{All-nil, All-cons, All-head, All-tail, All-append, All-push, All-weaker}
use Rattle.kq_bind_query.specs.Pipes.{tabular, sourced, from_word, united_with, gathered, armed, piped, operated}
use Rattle.kq_bind_query.specs.Queries.{Letting, nothing_let, scope_of, is_let, scalar_put, tabular_put, if_new, scalar_let, tabular_let, bare_name, is_tabular, let_made, lets_made, planned, query_walked, query_bound}
use Rattle.kq_bind_clauses.specs.Joins.{join_kind, on_keys, join_columns}
use Rattle.kq_bind_clauses.specs.Ranges.{ranged, range_column}
use Rattle.kq_bind_clauses.specs.Sorts.{sort_key, sort_keys}
use Rattle.kq_bind_clauses.specs.Tables.{tabled}
use Rattle.kq_bind_clauses.specs.Unions.{is_inner, columns_in, union_sources, union_columns, filling, arms_filled}
use Rattle.kq_bind_columns.specs.Chosen.{chosen, all_chosen, columns_at as columns_chosen, without, names_given, renamed as fields_renamed}
use Rattle.kq_bind_columns.specs.Defaults.{first_token}
use Rattle.kq_bind_columns.specs.Items.{field, nothing_made, items_made}
use Rattle.kq_bind_columns.specs.Laying.{as_they_are, over}
use Rattle.kq_bind_columns.specs.Naming.{is_taken}
use Rattle.kq_bind_columns.specs.Printed.{printed}
use Rattle.kq_bind_aggregates.specs.Gathered.{no_aggregate, aggregates_made}
use Rattle.kq_bind_expressions.specs.Bound.{bound}
use Rattle.kq_bind_expressions.specs.Lookup.{first_named}
use Rattle.kq_bind_expressions.specs.declared.fault.BindFault.{BindFault}
use Rattle.kq_bind_expressions.specs.Verdicts.{AnswersVerdict, Verdict, and_then, mistyped, unknown, supported_or}
use Rattle.kq_bind_query.specs.kq_bind_operators.Clauses.{range_made, bind_range, table_rows, sorted_by, topped_by, summarized_by, grouped, grouping_items, part_type, or_dynamic, item_name, item_value, if_dynamic, expanded_at, expanded_as, bind_mv_expand, joined_on, arms_with, all_together}
use Rattle.kq_bind_query.specs.kq_bind_operators.Flows.{Progressing, Flowing, columns, columns_at, after, added, following, again, next_stage}
use Rattle.kq_bind_query.specs.kq_bind_operators.Operators.{row_made, printed_row, where_true, filtered, row_number, taken, count_column, laid_after, projected, extended, dropped, new_name, old_name, renamed, bind_distinct, all_distinct}
use Rattle.kq_bind_query.specs.kq_bind_operators.Scopes.{Scoping, Tabling, names, leaf_kind, leaf_of, tabling_named, named_rows, source_named, part_of, part_named}
use Rattle.kq_bind_query.specs.kq_bind_supported.Unsupported.{unsupported_query}
use Rattle.kq_plan_expressions.specs.Terms.{Bound}
use Rattle.kq_read_grammar.specs.declared.clause.Cell.{Cell}
use Rattle.kq_read_grammar.specs.declared.clause.Column.{Column}
use Rattle.kq_read_grammar.specs.declared.clause.JoinKey.{JoinKey}
use Rattle.kq_read_grammar.specs.declared.expression.Name.{Name}
use Rattle.kq_read_grammar.specs.Trees.{Tree, ItemTree, KeyTree, AggregateTree, TabularTree, pipeline, SourceTree, table, nested, worded, FromTree, view, print, range, datatable, union, UnionTree, arms, ArmTree, named_arm, nested_arm, Arms, no_arm, and_arm, Operators, no_operator, and_operator, BodyTree, filter, extend, project, project_away, project_rename, take, count, sort, top, distinct, distinct_all, summarize, summarize_by, join, unite, mv_expand, LetTree, QueryTree}
use Rattle.kq_plan.specs.declared.names.NameKind.TheVariants as name
use Rattle.kq_plan.specs.declared.work.JoinKind.{JoinKind}
use Rattle.kq_plan.specs.declared.work.LeafKind.TheVariants as kind
use Rattle.kq_plan.specs.declared.plan.Plan.{Plan}
use Rattle.kq_plan.specs.Names.{Known}
use Rattle.kq_plan.specs.Plans.{Doing, leaf, one_row, numbers, written, kept, mapped, cut, counted, sorted, topped, apart, summarized, joined, united, expanded, Stepping, Planned, planned_of, scalar as scalar_step}
use Rattle.kq_read_meanings.specs.Names.{name_said, name_place, string_said}
use Rattle.kq_read_meanings.specs.Pieces.{piece}
use Rattle.kq_read_symbols.specs.Choices.{Right, scalar, table as tabular_alone, either}
use Rattle.kq_read_symbols.specs.declared.kind.Symbol.{Symbol}
use Rattle.kq_value.specs.declared.schema.Field.{Field}
use Rattle.kq_value.specs.declared.ty.Ty.{Ty}
use Rattle.kq_value.specs.declared.ty.Ty.TheVariants as ty
use Rattle.kq_value.specs.Ty.{same_ty}
use Rattle.kq_bind_query.specs.Counted.{tabular_stages, source_stages, from_stages, union_stages, arms_stages, arm_stages, operator_stages, body_stages, right_stages, let_stages, stages_of}
use Rattle.kq_bind_query.specs.Staged.{IsArmBefore, Takes, IsStage, IsStaged}
use Rattle.kq_bind_query.proofs.Progress.{then_ok, done, done_is}
use Rattle.kq_bind_query.proofs.Staging.{IsUpTo, IsWithin, Grown, IsTableAt, Begins, Walks, grown_length, begins_further, next_begins, grown_further, step_walks, after_walks, begun, following_walks, again_walks, recounted, right_takes, own_stages}

abbrev IsFromOne : Stepping → Type 0
IsFromOne s = 1 ≤ s.stage

-- ---- sources

table_before : (n : ℕ) (ts : List Tabling) (said : List ℕ) (i : ℕ) → All (IsTableAt n) ts → tabling_named ts said ≡ Some i → i < n
table_before n [] said i h e = absurd (cc)
table_before n (t ∷ ts) said i h e = by (pointwise nat_eq t.name said) (table_before n ts said i (All-tail (IsTableAt n) t ts h)) e where
  by : (b : Bool) → (tabling_named ts said ≡ Some i → i < n) → cond b (Some t.input) (tabling_named ts said) ≡ Some i → i < n
  by true more g = let is : t.input ≡ i = cc in subst (λ k. k < n) is (All-head (IsTableAt n) t ts h)
  by false more g = more g

leaf_walks : (s : Scoping) (p : Progressing) (at : ℕ) (said : List ℕ) (v : Flowing) (o : Option Known) → Begins s p → leaf_of at p said o ≡ Ok v → Walks 1 p v
leaf_walks s p at said v (Some k) h e =
    subst (Walks 1 p) (done_is (following p (leaf (leaf_kind k.0) said) k.1) v e) (following_walks s p (leaf (leaf_kind k.0) said) k.1 h refl)
leaf_walks s p at said v None h e = absurd (cc)

part_walks : (s : Scoping) (p : Progressing) (at : ℕ) (said : List ℕ) (v : Flowing) (o : Option Known) → Begins s p → part_of at p said o ≡ Ok v → Walks 1 p v
part_walks s p at said v (Some (name.View, cs)) h e =
    subst (Walks 1 p) (done_is (following p (leaf kind.Part said) cs) v e) (following_walks s p (leaf kind.Part said) cs h refl)
part_walks s p at said v (Some (name.Table, cs)) h e = absurd (cc)
part_walks s p at said v None h e = absurd (cc)

part_named_walks : (s : Scoping) (p : Progressing) (t : Symbol) (v : Flowing) → Begins s p → part_named s p t ≡ Ok v → Walks 1 p v
part_named_walks s p t v h e = let said = string_said (piece s.text t) in part_walks s p t.from said v (s.known said) h e

named_walks : (s : Scoping) (p : Progressing) (at : ℕ) (said : List ℕ) (v : Flowing) (o : Option ℕ) → Begins s p → tabling_named s.tables said ≡ o
    → named_rows s p at said o ≡ Ok v → Walks 1 p v
named_walks s p at said v (Some i) h is e =
    subst (Walks 1 p) (done_is (again p i) v e) (again_walks s p i h (table_before (length p.steps) s.tables said i h.tables is))
named_walks s p at said v None h is e = by (is_taken s.lets said) e where
  by : (b : Bool) → cond b (Err (unknown at)) (leaf_of at p said (s.known said)) ≡ Ok v → Walks 1 p v
  by true g = absurd (cc)
  by false g = leaf_walks s p at said v (s.known said) h g

source_walks : (s : Scoping) (p : Progressing) (n : Name) (v : Flowing) → Begins s p → source_named s p n ≡ Ok v → Walks 1 p v
source_walks s p n v h e = let said = name_said s.text n in named_walks s p (name_place n) said v (tabling_named s.tables said) h refl e

printed_row_walks : (s : Scoping) (p : Progressing) (is : List ItemTree) (v : Flowing) → Begins s p → printed_row s p is ≡ Ok v → Walks 1 p v
printed_row_walks s p is v h e =
    let m = then_ok (printed (names s) is) (λ m. done (row_made p m)) v e in
    subst (Walks 1 p) (done_is (row_made p m.0) v m.2) (following_walks s p (one_row m.0.terms) m.0.fields h refl)

range_walks : (s : Scoping) (p : Progressing) (n : Name) (a b c : Tree) (v : Flowing) → Begins s p → bind_range s p n a b c ≡ Ok v → Walks 1 p v
range_walks s p n a b c v h e =
    let r = then_ok (ranged (names s) a b c) (λ r. done (range_made s p n r)) v e in
    subst (Walks 1 p) (done_is (range_made s p n r.0) v r.2)
    (following_walks s p (numbers r.0.first r.0.last r.0.step) (range_column s.text n r.0.ty) h refl)

table_walks : (s : Scoping) (p : Progressing) (at : ℕ) (cs : List Column) (ls : List Cell) (v : Flowing) → Begins s p → table_rows s p at cs ls ≡ Ok v
    → Walks 1 p v
table_walks s p at cs ls v h e =
    let t = then_ok (tabled s.text at cs ls) (λ t. done (following p (written t.1) t.0)) v e in
    subst (Walks 1 p) (done_is (following p (written t.0.1) t.0.0) v t.2) (following_walks s p (written t.0.1) t.0.0 h refl)

-- ---- operators on the rows that come

goes_on : (passed : ℕ) (s : Scoping) (p : Progressing) (w : Flowing) (d : ℕ → Doing) (cs : List Field) → Begins s p → Walks passed p w
    → Takes (length w.progress.steps) 0 (d w.input) → Walks (passed + 1) p (after w d cs)
goes_on passed s p w d cs h g takes = after_walks passed s p w.progress (d w.input) cs h g.grown takes g.counted

where_walks : (passed : ℕ) (s : Scoping) (p : Progressing) (w v : Flowing) (at : ℕ) (x : Bound) → Begins s p → Walks passed p w → where_true w at x ≡ Ok v → Walks (passed + 1) p v
where_walks passed s p w v at x h g e = by (same_ty x.1 ty.Bool) e where
  by : (b : Bool) → cond {A = Verdict Flowing} b (done (after w (λ i. kept i x.0) (columns w))) (Err (mistyped at)) ≡ Ok v → Walks (passed + 1) p v
  by true k = subst (Walks (passed + 1) p) (done_is (after w (λ i. kept i x.0) (columns w)) v k) (goes_on passed s p w (λ i. kept i x.0) (columns w) h g (refl, g.rows))
  by false k = absurd (cc)

filtered_walks : (passed : ℕ) (s : Scoping) (p : Progressing) (w v : Flowing) (e : Tree) → Begins s p → Walks passed p w → filtered s w e ≡ Ok v → Walks (passed + 1) p v
filtered_walks passed s p w v e h g is =
    let x = then_ok (bound (names s) (columns w) e) (where_true w (first_token e)) v is in
    where_walks passed s p w v (first_token e) x.0 h g x.2

taken_walks : (passed : ℕ) (s : Scoping) (p : Progressing) (w v : Flowing) (t : Symbol) → Begins s p → Walks passed p w → taken s w t ≡ Ok v → Walks (passed + 1) p v
taken_walks passed s p w v t h g is =
    let n = then_ok (row_number s t) (λ n. done (after w (λ i. cut i n) (columns w))) v is in
    subst (Walks (passed + 1) p) (done_is (after w (λ i. cut i n.0) (columns w)) v n.2) (goes_on passed s p w (λ i. cut i n.0) (columns w) h g (refl, g.rows))

sorted_walks : (passed : ℕ) (s : Scoping) (p : Progressing) (w v : Flowing) (ks : List KeyTree) → Begins s p → Walks passed p w → sorted_by s w ks ≡ Ok v → Walks (passed + 1) p v
sorted_walks passed s p w v ks h g e =
    let xs = then_ok (sort_keys (names s) (columns w) ks) (λ xs. done (after w (λ i. sorted i xs) (columns w))) v e in
    subst (Walks (passed + 1) p) (done_is (after w (λ i. sorted i xs.0) (columns w)) v xs.2) (goes_on passed s p w (λ i. sorted i xs.0) (columns w) h g (refl, g.rows))

topped_walks : (passed : ℕ) (s : Scoping) (p : Progressing) (w v : Flowing) (t : Symbol) (k : KeyTree) → Begins s p → Walks passed p w → topped_by s w t k ≡ Ok v → Walks (passed + 1) p v
topped_walks passed s p w v t k h g e =
    let n = then_ok (row_number s t) (λ n. and_then (sort_key (names s) (columns w) k) (λ x. done (after w (λ i. topped i n x) (columns w)))) v e in
    let x = then_ok (sort_key (names s) (columns w) k) (λ x. done (after w (λ i. topped i n.0 x) (columns w))) v n.2 in
    subst (Walks (passed + 1) p) (done_is (after w (λ i. topped i n.0 x.0) (columns w)) v x.2)
    (goes_on passed s p w (λ i. topped i n.0 x.0) (columns w) h g (refl, g.rows))

all_distinct_walks : (passed : ℕ) (s : Scoping) (p : Progressing) (w v : Flowing) (t : Symbol) → Begins s p → Walks passed p w → all_distinct w t ≡ Ok v → Walks (passed + 1) p v
all_distinct_walks passed s p w v t h g e =
    let is = then_ok (all_chosen t.from 0 (columns w)) (λ is. done (after w (λ i. apart i is) (columns w))) v e in
    subst (Walks (passed + 1) p) (done_is (after w (λ i. apart i is.0) (columns w)) v is.2) (goes_on passed s p w (λ i. apart i is.0) (columns w) h g (refl, g.rows))

projected_walks : (passed : ℕ) (s : Scoping) (p : Progressing) (w v : Flowing) (is : List ItemTree) → Begins s p → Walks passed p w → projected s w is ≡ Ok v → Walks (passed + 1) p v
projected_walks passed s p w v is h g e =
    let m = then_ok (items_made (names s) (columns w) [] false nothing_made is) (λ m. done (after w (λ i. mapped i m.terms) m.fields)) v e in
    subst (Walks (passed + 1) p) (done_is (after w (λ i. mapped i m.0.terms) m.0.fields) v m.2) (goes_on passed s p w (λ i. mapped i m.0.terms) m.0.fields h g (refl, g.rows))

extended_walks : (passed : ℕ) (s : Scoping) (p : Progressing) (w v : Flowing) (is : List ItemTree) → Begins s p → Walks passed p w → extended s w is ≡ Ok v → Walks (passed + 1) p v
extended_walks passed s p w v is h g e =
    let cs = columns w in
    let m = then_ok (items_made (names s) cs cs false nothing_made is) (λ m. done (laid_after w (over cs m))) v e in
    subst (Walks (passed + 1) p) (done_is (laid_after w (over cs m.0)) v m.2)
    (goes_on passed s p w (λ i. mapped i (over cs m.0).0) (over cs m.0).1 h g (refl, g.rows))

dropped_walks : (passed : ℕ) (s : Scoping) (p : Progressing) (w v : Flowing) (ns : List Name) → Begins s p → Walks passed p w → dropped s w ns ≡ Ok v → Walks (passed + 1) p v
dropped_walks passed s p w v ns h g e =
    let is = then_ok (chosen s.text (columns w) false [] ns) (λ is. done (laid_after w (without 0 (columns w) is))) v e in
    let left = without 0 (columns w) is.0 in
    subst (Walks (passed + 1) p) (done_is (laid_after w left) v is.2) (goes_on passed s p w (λ i. mapped i left.0) left.1 h g (refl, g.rows))

renamed_walks : (passed : ℕ) (s : Scoping) (p : Progressing) (w v : Flowing) (ps : List (Name × Name)) → Begins s p → Walks passed p w → renamed s w ps ≡ Ok v → Walks (passed + 1) p v
renamed_walks passed s p w v ps h g e =
    let cs = columns w in
    let put = λ (is : List ℕ) (ns : List (List ℕ)). after w (λ i. mapped i (as_they_are 0 cs)) (fields_renamed 0 cs is ns) in
    let is = then_ok (chosen s.text cs false [] (map old_name ps))
    (λ is. and_then (names_given s.text (without 0 cs is).1 (map new_name ps)) (λ ns. done (put is ns))) v e in
    let ns = then_ok (names_given s.text (without 0 cs is.0).1 (map new_name ps)) (λ ns. done (put is.0 ns)) v is.2 in
    subst (Walks (passed + 1) p) (done_is (put is.0 ns.0) v ns.2)
    (goes_on passed s p w (λ i. mapped i (as_they_are 0 cs)) (fields_renamed 0 cs is.0 ns.0) h g (refl, g.rows))

distinct_walks : (passed : ℕ) (s : Scoping) (p : Progressing) (w v : Flowing) (ns : List Name) → Begins s p → Walks passed p w → bind_distinct s w ns ≡ Ok v → Walks (passed + 1) p v
distinct_walks passed s p w v ns h g e =
    let put = λ (is : List ℕ). after w (λ i. apart i is) (columns_chosen (columns w) is) in
    let is = then_ok (chosen s.text (columns w) true [] ns) (λ is. done (put is)) v e in
    subst (Walks (passed + 1) p) (done_is (put is.0) v is.2) (goes_on passed s p w (λ i. apart i is.0) (columns_chosen (columns w) is.0) h g (refl, g.rows))

grouped_walks : (passed : ℕ) (s : Scoping) (p : Progressing) (w v : Flowing) (aggs : List AggregateTree) (is : List ItemTree) → Begins s p → Walks passed p w
    → grouped s w aggs is ≡ Ok v → Walks (passed + 1) p v
grouped_walks passed s p w v aggs is h g e =
    let cs = columns w in
    let m = then_ok (items_made (names s) cs [] true nothing_made is)
    (λ m. and_then (aggregates_made (names s) cs m.fields (no_aggregate m.fields) aggs) (λ k. done (summarized_by w m.terms k))) v e in
    let k = then_ok (aggregates_made (names s) cs m.0.fields (no_aggregate m.0.fields) aggs) (λ k. done (summarized_by w m.0.terms k)) v m.2 in
    subst (Walks (passed + 1) p) (done_is (summarized_by w m.0.terms k.0) v k.2)
    (goes_on passed s p w (λ i. summarized i m.0.terms k.0.aggregates) k.0.fields h g (refl, g.rows))

expanded_walks : (passed : ℕ) (s : Scoping) (p : Progressing) (w : Flowing) (x : Bound) (name : List ℕ) (t : Option Ty) (o : Option (ℕ × Ty)) → Begins s p → Walks passed p w
    → Walks (passed + 1) p (expanded_at w x name t o)
expanded_walks passed s p w x name t (Some k) h g =
    goes_on passed s p w (λ i. expanded i x.0 k.0 t) (slice_set (columns w) k.0 (field name (or_dynamic t))) h g (refl, g.rows)
expanded_walks passed s p w x name t None h g =
    goes_on passed s p w (λ i. expanded i x.0 (length (columns w)) t) (columns w ++ field name (or_dynamic t) ∷ []) h g (refl, g.rows)

parts_walks : (passed : ℕ) (s : Scoping) (p : Progressing) (w v : Flowing) (i : ItemTree) (t : Option Symbol) → Begins s p → Walks passed p w → bind_mv_expand s w i t ≡ Ok v → Walks (passed + 1) p v
parts_walks passed s p w v i t h g e =
    let said = item_name s (columns w) i in
    let x = then_ok (and_then (bound (names s) (columns w) (item_value i)) (if_dynamic (first_token (item_value i))))
    (λ x. and_then (part_type s t) (λ u. done (expanded_as w x said u))) v e in
    let u = then_ok (part_type s t) (λ u. done (expanded_as w x.0 said u)) v x.2 in
    subst (Walks (passed + 1) p) (done_is (expanded_as w x.0 said u.0) v u.2) (expanded_walks passed s p w x.0 said u.0 (first_named 0 (columns w) said) h g)

-- ---- rows of several steps

joined_walks : (passed right : ℕ) (s : Scoping) (p : Progressing) (w : Flowing) (k : JoinKind) (r v : Flowing) (ks : List JoinKey) → Begins s p
    → Walks passed p w → Walks right (next_stage w.progress) r → joined_on s (w.progress.stages + 1) w.input k r ks ≡ Ok v → Walks (passed + (1 + right)) p v
joined_walks passed right s p w k r v ks h g beside e =
    let ss = r.progress.steps in
    let cs = join_columns k (columns_at ss w.input) (columns r) in
    let on = then_ok (on_keys s.text (columns_at ss w.input) (columns r) ks)
    (λ on. done (added r.progress (w.progress.stages + 1) (joined k w.input r.input on) cs)) v e in
    subst (Walks (passed + (1 + right)) p) (done_is (added r.progress (w.progress.stages + 1) (joined k w.input r.input on.0) cs) v on.2)
    (step_walks (passed + (1 + right)) s p w.progress r.progress (joined k w.input r.input on.0) cs h g.grown beside.grown
    (right_takes right w.progress r w.input beside g.rows) (omega (arith, g.counted, beside.counted)))

abbrev IsBefore : ℕ → ℕ → Type 0
IsBefore n i = i < n

arms_before : (n : ℕ) (ss : List Stepping) (is : List ℕ) (sources : List Field) → All (IsBefore n) is
    → All (IsArmBefore n) (arms_filled (arms_with ss is) sources)
arms_before n ss [] sources h = All-nil (IsArmBefore n)
arms_before n ss (i ∷ is) sources h =
    All-cons (IsArmBefore n) (i, filling (columns_at ss i) sources) (arms_filled (arms_with ss is) sources) (All-head (IsBefore n) i is h)
    (arms_before n ss is sources (All-tail (IsBefore n) i is h))

together_walks : (passed : ℕ) (s : Scoping) (p w r : Progressing) (kind : Option Symbol) (is : List ℕ) → Begins s p → Grown p.steps p.stages w
    → Grown w.steps (w.stages + 1) r → r.stages ≡ p.stages + passed → All (IsBefore (length r.steps)) is → Walks passed p (all_together (w.stages + 1) kind r is)
together_walks passed s p w r kind is h f g many given =
    let sources = union_sources (is_inner kind) (map columns_in (arms_with r.steps is)) in
    let filled = arms_filled (arms_with r.steps is) sources in
    let takes = subst (λ n. All (IsArmBefore n) filled) (grown_length w.steps (w.stages + 1) r g) (arms_before (length r.steps) r.steps is sources given) in
    step_walks passed s p w r (united filled) (union_columns sources) h f g takes many

-- the inputs so far, and one arm's more
arms_more : (passed : ℕ) (p : Progressing) (is : List ℕ) (w : Flowing) → All (IsBefore (length p.steps)) is → (g : Walks passed p w)
    → All (IsBefore (length w.progress.steps)) (is ++ w.input ∷ [])
arms_more passed p is w h g =
    let long = grown_length p.steps p.stages w.progress g.grown in
    let old = All-weaker (IsBefore (length p.steps)) (IsBefore (length w.progress.steps)) (λ i lt. omega (arith, lt, long)) is h in
    All-push (IsBefore (length w.progress.steps)) is w.input old g.rows

-- ---- pipes

mutual
  tabular_walks : (s : Scoping) (p : Progressing) (q : TabularTree) (v : Flowing) → Begins s p → tabular s p q ≡ Ok v → Walks (tabular_stages q) p v
  tabular_walks s p (pipeline o bs) v h e =
      let w = then_ok (sourced s p o) (λ w. piped s w bs) v e in
      piped_walks (source_stages o) s p w.0 bs v h (sourced_walks s p o w.0 h w.1) w.2

  sourced_walks : (s : Scoping) (p : Progressing) (o : SourceTree) (v : Flowing) → Begins s p → sourced s p o ≡ Ok v → Walks (source_stages o) p v
  sourced_walks s p (table n) v h e = source_walks s p n v h e
  sourced_walks s p (nested t q) v h e = tabular_walks s p q v h e
  sourced_walks s p (worded t b) v h e = from_walks s p t b v h e

  from_walks : (s : Scoping) (p : Progressing) (t : Symbol) (b : FromTree) (v : Flowing) → Begins s p → from_word s p t b ≡ Ok v → Walks (from_stages b) p v
  from_walks s p t (view n) v h e = part_named_walks s p n v h e
  from_walks s p t (print i is) v h e = printed_row_walks s p (i ∷ is) v h e
  from_walks s p t (range n a b c) v h e = range_walks s p n a b c v h e
  from_walks s p t (datatable c cs ls) v h e = table_walks s p t.from (c ∷ cs) ls v h e
  from_walks s p t (union u) v h e =
      recounted (0 + (1 + union_stages u)) (1 + union_stages u) p v (omega arith)
      (united_walks 0 s p p [] u v h (begun s p h) (omega arith) h (All-nil (IsBefore (length p.steps))) e)

  -- p is where the pipe begins, and w where the union does
  united_walks : (passed : ℕ) (s : Scoping) (p w : Progressing) (is : List ℕ) (u : UnionTree) (v : Flowing) → Begins s p → Grown p.steps p.stages w
      → w.stages ≡ p.stages + passed → Begins s w → All (IsBefore (length w.steps)) is → united_with s (w.stages + 1) (next_stage w) is u ≡ Ok v
      → Walks (passed + (1 + union_stages u)) p v
  united_walks passed s p w is (arms kind a more) v h f many k given e =
      let x = then_ok (armed s (next_stage w) a) (λ x. gathered s (w.stages + 1) kind x.progress (is ++ x.input ∷ []) more) v e in
      let g = armed_walks s (next_stage w) a x.0 (next_begins s w k) x.1 in
      recounted ((passed + (1 + arm_stages a)) + arms_stages more) (passed + (1 + (arm_stages a + arms_stages more))) p v (omega arith)
      (gathered_walks (passed + (1 + arm_stages a)) s p w x.0.progress kind (is ++ x.0.input ∷ []) more v h f g.grown (omega (arith, many, g.counted))
      (begins_further s (next_stage w) x.0.progress (next_begins s w k) g.grown) (arms_more (arm_stages a) (next_stage w) is x.0 given g) x.2)

  gathered_walks : (passed : ℕ) (s : Scoping) (p w r : Progressing) (kind : Option Symbol) (is : List ℕ) (more : Arms) (v : Flowing) → Begins s p
      → Grown p.steps p.stages w → Grown w.steps (w.stages + 1) r → r.stages ≡ p.stages + passed → Begins s r → All (IsBefore (length r.steps)) is
      → gathered s (w.stages + 1) kind r is more ≡ Ok v → Walks (passed + arms_stages more) p v
  gathered_walks passed s p w r kind is no_arm v h f g many k given e =
      recounted passed (passed + 0) p v (omega arith)
      (subst (Walks passed p) (done_is (all_together (w.stages + 1) kind r is) v e) (together_walks passed s p w r kind is h f g many given))
  gathered_walks passed s p w r kind is (and_arm a more) v h f g many k given e =
      let x = then_ok (armed s r a) (λ x. gathered s (w.stages + 1) kind x.progress (is ++ x.input ∷ []) more) v e in
      let u = armed_walks s r a x.0 k x.1 in
      recounted ((passed + arm_stages a) + arms_stages more) (passed + (arm_stages a + arms_stages more)) p v (omega arith)
      (gathered_walks (passed + arm_stages a) s p w x.0.progress kind (is ++ x.0.input ∷ []) more v h f
      (grown_further w.steps (w.stages + 1) r x.0.progress g u.grown) (omega (arith, many, u.counted)) (begins_further s r x.0.progress k u.grown)
      (arms_more (arm_stages a) r is x.0 given u) x.2)

  armed_walks : (s : Scoping) (p : Progressing) (a : ArmTree) (v : Flowing) → Begins s p → armed s p a ≡ Ok v → Walks (arm_stages a) p v
  armed_walks s p (named_arm n) v h e = source_walks s p n v h e
  armed_walks s p (nested_arm t q) v h e = tabular_walks s p q v h e

  piped_walks : (passed : ℕ) (s : Scoping) (p : Progressing) (w : Flowing) (bs : Operators) (v : Flowing) → Begins s p → Walks passed p w → piped s w bs ≡ Ok v
      → Walks (passed + operator_stages bs) p v
  piped_walks passed s p w no_operator v h g e = recounted passed (passed + 0) p v (omega arith) (subst (Walks passed p) (done_is w v e) g)
  piped_walks passed s p w (and_operator t b bs) v h g e =
      let u = then_ok (operated s w b) (λ u. piped s u bs) v e in
      recounted ((passed + body_stages b) + operator_stages bs) (passed + (body_stages b + operator_stages bs)) p v (omega arith)
      (piped_walks (passed + body_stages b) s p u.0 bs v h (operated_walks passed s p w b u.0 h g u.1) u.2)

  operated_walks : (passed : ℕ) (s : Scoping) (p : Progressing) (w : Flowing) (b : BodyTree) (v : Flowing) → Begins s p → Walks passed p w
      → operated s w b ≡ Ok v → Walks (passed + body_stages b) p v
  operated_walks passed s p w (filter c) v h g e = filtered_walks passed s p w v c h g e
  operated_walks passed s p w (extend i is) v h g e = extended_walks passed s p w v (i ∷ is) h g e
  operated_walks passed s p w (project i is) v h g e = projected_walks passed s p w v (i ∷ is) h g e
  operated_walks passed s p w (project_away n ns) v h g e = dropped_walks passed s p w v (n ∷ ns) h g e
  operated_walks passed s p w (project_rename q qs) v h g e = renamed_walks passed s p w v (q ∷ qs) h g e
  operated_walks passed s p w (take t) v h g e = taken_walks passed s p w v t h g e
  operated_walks passed s p w count v h g e =
      subst (Walks (passed + 1) p) (done_is (after w counted count_column) v e) (goes_on passed s p w counted count_column h g (refl, g.rows))
  operated_walks passed s p w (sort k ks) v h g e = sorted_walks passed s p w v (k ∷ ks) h g e
  operated_walks passed s p w (top t k) v h g e = topped_walks passed s p w v t k h g e
  operated_walks passed s p w (distinct n ns) v h g e = distinct_walks passed s p w v (n ∷ ns) h g e
  operated_walks passed s p w (distinct_all t) v h g e = all_distinct_walks passed s p w v t h g e
  operated_walks passed s p w (summarize a more keys) v h g e = grouped_walks passed s p w v (a ∷ more) (grouping_items keys) h g e
  operated_walks passed s p w (summarize_by keys) v h g e = grouped_walks passed s p w v [] (keys.0 ∷ keys.1) h g e
  operated_walks passed s p w (join kind q k ks) v h g e =
      let r = then_ok (tabular s (next_stage w.progress) q) (λ r. joined_on s (w.progress.stages + 1) w.input (join_kind kind) r (k ∷ ks)) v e in
      let right = tabular_walks s (next_stage w.progress) q r.0 (next_begins s w.progress (begins_further s p w.progress h g.grown)) r.1 in
      joined_walks passed (tabular_stages q) s p w (join_kind kind) r.0 v (k ∷ ks) h g right r.2
  operated_walks passed s p w (unite u) v h g e =
      united_walks passed s p w.progress (w.input ∷ []) u v h g.grown g.counted (begins_further s p w.progress h g.grown)
      (All-cons (IsBefore (length w.progress.steps)) w.input [] g.rows (All-nil (IsBefore (length w.progress.steps)))) e
  operated_walks passed s p w (mv_expand i t) v h g e = parts_walks passed s p w v i t h g e

-- a pipe has a stage
mutual
  some_stage : (q : TabularTree) → 1 ≤ tabular_stages q
  some_stage (pipeline o bs) = omega (arith, some_source o)

  some_source : (o : SourceTree) → 1 ≤ source_stages o
  some_source (table n) = omega arith
  some_source (nested t q) = some_stage q
  some_source (worded t b) = some_from b

  some_from : (b : FromTree) → 1 ≤ from_stages b
  some_from (view n) = omega arith
  some_from (print i is) = omega arith
  some_from (range n a b c) = omega arith
  some_from (datatable c cs ls) = omega arith
  some_from (union u) = omega arith

-- ---- lets

-- the steps of the lets so far, which have no more stages than this
record IsLet (passed : ℕ) (text : List ℕ) (known : List ℕ → Option Known) (l : Letting) : Type 0 where
  begins : Begins (scope_of text known l) l.progress
  stages : All IsFromOne l.progress.steps
  counted : l.progress.stages ≤ passed

stages_further : (p q : Progressing) → All IsFromOne p.steps → (g : Grown p.steps p.stages q) → All IsFromOne q.steps
stages_further p q h g =
    let new = All-weaker (IsWithin p.stages q.stages) IsFromOne (λ s is. omega (arith, is.0)) g.new g.within in
    subst (All IsFromOne) (sym g.grown) (All-append IsFromOne p.steps g.new h new)

new_walks : (passed : ℕ) (text : List ℕ) (known : List ℕ → Option Known) (l m x : Letting) (n : Name) → if_new text l n x ≡ Ok m → IsLet passed text known x
    → IsLet passed text known m
new_walks passed text known l m x n e h = by (is_let l (name_said text n)) e where
  by : (b : Bool) → cond {A = Verdict Letting} b (Err (mistyped (name_place n))) (done x) ≡ Ok m → IsLet passed text known m
  by true g = absurd (cc)
  by false g = subst (IsLet passed text known) (done_is x m g) h

scalar_walks : (passed : ℕ) (text : List ℕ) (known : List ℕ → Option Known) (l m : Letting) (n : Name) (e : Tree) → IsLet passed text known l
    → scalar_let text known l n e ≡ Ok m → IsLet (passed + 1) text known m
scalar_walks passed text known l m n e h is =
    let s = scope_of text known l in
    let said = name_said text n in
    let x = then_ok (bound (names s) [] e) (λ x. if_new text l n (scalar_put l said x)) m is in
    let g = following_walks s l.progress (scalar_step x.0.0) (field said x.0.1 ∷ []) h.begins refl in
    let v = following l.progress (scalar_step x.0.0) (field said x.0.1 ∷ []) in
    let further = begins_further s l.progress v.progress h.begins g.grown in
    new_walks (passed + 1) text known l m (scalar_put l said x.0) n x.2
    (record {
      begins = record { below = further.below; placed = further.placed; tables = further.tables };
      stages = stages_further l.progress v.progress h.stages g.grown;
      counted = omega (arith, h.counted);
    })

tabular_let_walks : (passed : ℕ) (text : List ℕ) (known : List ℕ → Option Known) (l m : Letting) (n : Name) (q : TabularTree) → IsLet passed text known l
    → tabular_let text known l n q ≡ Ok m → IsLet (passed + tabular_stages q) text known m
tabular_let_walks passed text known l m n q h is =
    let s = scope_of text known l in
    let said = name_said text n in
    let w = then_ok (tabular s l.progress q) (λ w. if_new text l n (tabular_put l said w)) m is in
    let g = tabular_walks s l.progress q w.0 h.begins w.1 in
    let further = begins_further s l.progress w.0.progress h.begins g.grown in
    let t : Tabling = record { name = said; input = w.0.input } in
    new_walks (passed + tabular_stages q) text known l m (tabular_put l said w.0) n w.2
    (record {
      begins = record {
        below = further.below;
        placed = further.placed;
        tables = All-push (IsTableAt (length w.0.progress.steps)) l.tables t further.tables g.rows;
      };
      stages = stages_further l.progress w.0.progress h.stages g.grown;
      counted = omega (arith, h.counted, g.counted);
    })

let_more : (m n : ℕ) (text : List ℕ) (known : List ℕ → Option Known) (l : Letting) → m ≤ n → IsLet m text known l → IsLet n text known l
let_more m n text known l le h = record { begins = h.begins; stages = h.stages; counted = omega (arith, h.counted, le) }

let_walks : (passed : ℕ) (text : List ℕ) (known : List ℕ → Option Known) (l m : Letting) (n : Name) (r : Right Tree TabularTree) → IsLet passed text known l
    → let_made text known l n r ≡ Ok m → IsLet (passed + right_stages r) text known m
let_walks passed text known l m n (scalar e) h is = scalar_walks passed text known l m n e h is
let_walks passed text known l m n (tabular_alone q) h is = tabular_let_walks passed text known l m n q h is
let_walks passed text known l m n (either e q) h is = by (is_tabular text known l (bare_name e)) is where
  by : (b : Bool) → cond b (tabular_let text known l n q) (scalar_let text known l n e) ≡ Ok m → IsLet (passed + tabular_stages q) text known m
  by true g = tabular_let_walks passed text known l m n q h g
  by false g = let_more (passed + 1) (passed + tabular_stages q) text known m (omega (arith, some_stage q)) (scalar_walks passed text known l m n e h g)

lets_walk : (passed : ℕ) (text : List ℕ) (known : List ℕ → Option Known) (l m : Letting) (xs : List LetTree) → IsLet passed text known l
    → lets_made text known l xs ≡ Ok m → IsLet (passed + let_stages xs) text known m
lets_walk passed text known l m [] h is = let_more passed (passed + 0) text known m (omega arith) (subst (IsLet passed text known) (done_is l m is) h)
lets_walk passed text known l m (x ∷ xs) h is =
    let k = then_ok (let_made text known l x.name x.right) (λ k. lets_made text known k xs) m is in
    let_more ((passed + right_stages x.right) + let_stages xs) (passed + (right_stages x.right + let_stages xs)) text known m (omega arith)
    (lets_walk (passed + right_stages x.right) text known k.0 m xs (let_walks passed text known l k.0 x.name x.right h k.1) k.2)

-- ---- queries

nothing_walks : (text : List ℕ) (known : List ℕ → Option Known) → IsLet 0 text known nothing_let
nothing_walks text known = record {
  begins = record { below = All-nil (IsUpTo 0); placed = tt; tables = All-nil (IsTableAt 0) };
  stages = All-nil IsFromOne;
  counted = omega arith;
}

both_hold : (number high : ℕ) (ss : List Stepping) → high ≤ number → All IsFromOne ss → All (IsUpTo high) ss → All (IsStage number) ss
both_hold number high [] le h k = All-nil (IsStage number)
both_hold number high (s ∷ ss) le h k =
    let upto = All-head (IsUpTo high) s ss k in
    All-cons (IsStage number) s ss (All-head IsFromOne s ss h, omega (arith, upto, le))
    (both_hold number high ss le (All-tail IsFromOne s ss h) (All-tail (IsUpTo high) s ss k))

walked_staged : (text : List ℕ) (known : List ℕ → Option Known) (q : QueryTree) (p : Planned) → query_walked text known q ≡ Ok p → IsStaged (stages_of q) p
walked_staged text known q p e =
    let l = then_ok (lets_made text known nothing_let q.lets)
    (λ l. and_then (tabular (scope_of text known l) l.progress q.tabular) (λ w. done (planned w))) p e in
    let s = scope_of text known l.0 in
    let w = then_ok (tabular s l.0.progress q.tabular) (λ w. done (planned w)) p l.2 in
    let lets = lets_walk 0 text known nothing_let l.0 q.lets (nothing_walks text known) l.1 in
    let g = tabular_walks s l.0.progress q.tabular w.0 lets.begins w.1 in
    let below = (begins_further s l.0.progress w.0.progress lets.begins g.grown).below in
    let staged : IsStaged (stages_of q) (planned w.0) = record {
      stages = both_hold (stages_of q) w.0.progress.stages w.0.progress.steps (omega (arith, lets.counted, g.counted))
          (stages_further l.0.progress w.0.progress lets.stages g.grown) below;
      own = own_stages [] w.0.progress.steps g.grown.placed;
      placed = g.grown.placed;
      output = g.rows;
    } in
    subst (IsStaged (stages_of q)) (done_is (planned w.0) p w.2) staged

supported : {A : Type 0} (o : Option ℕ) (v : Verdict A) (x : A) → supported_or o v ≡ Ok x → v ≡ Ok x
supported None v x e = e
supported (Some at) v x e = absurd (cc)

-- the stages of whatever a query is bound to
pub bound_staged : (text : List ℕ) (known : List ℕ → Option Known) (q : QueryTree) (p : Planned) → query_bound text known q ≡ Ok p → IsStaged (stages_of q) p
bound_staged text known q p e = walked_staged text known q p (supported (unsupported_query text q) (query_walked text known q) p e)

-- what the code answers
pub answer_staged : (text : List ℕ) (known : List ℕ → Option Known) (q : QueryTree) (r : Result Plan BindFault)
    → AnswersVerdict planned_of (query_bound text known q) r → IfOk r (λ (p : Plan). IsStaged (stages_of q) (planned_of p))
answer_staged text known q (Ok p) e = bound_staged text known q (planned_of p) e
answer_staged text known q (Err f) e = tt
