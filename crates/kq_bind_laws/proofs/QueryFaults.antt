-- Binding a query tells the first fault of its text.
use Rattle.std.proofs.Common.{ℕ, suc, ◌+◌, Bool, true, false, cond, not, List, [], ◌∷◌, ◌++◌, map, append-nil, Option, Some, None, refl, sym}
use Rattle.std.specs.Prelude.{◌&&◌, ◌||◌, is_some}
use Rattle.std.specs.List.{list_any}
use Rattle.kq_bind_query.specs.kq_bind_operators.Clauses.{range_made, topped_by, summarized_by, grouped, grouping_items, part_type, if_dynamic, item_name, expanded_as, bind_mv_expand, joined_on}
use Rattle.kq_bind_query.specs.kq_bind_operators.Flows.{Progressing, Flowing, columns, columns_at, after, added, following, next_stage}
use Rattle.kq_bind_query.specs.kq_bind_operators.Operators.{row_made, row_number, laid_after, new_name, old_name, renamed}
use Rattle.kq_bind_query.specs.kq_bind_operators.Scopes.{Scoping, names, tabling_named, leaf_of, named_rows, source_named, part_of, part_named}
use Rattle.kq_bind_query.specs.Pipes.{tabular, sourced, from_word, united_with, gathered, armed, piped, operated}
use Rattle.kq_bind_query.specs.Queries.{Letting, nothing_let, scope_of, is_let, scalar_put, tabular_put, if_new, scalar_let, tabular_let, is_tabular, bare_name, let_made, lets_made, planned, query_walked, query_bound}
use Rattle.kq_bind_aggregates.specs.Arguments.{unkeyed}
use Rattle.kq_bind_aggregates.specs.Gathered.{no_aggregate, aggregates_made}
use Rattle.kq_bind_clauses.specs.Joins.{join_columns, join_kind, on_keys}
use Rattle.kq_bind_clauses.specs.Ranges.{ranged}
use Rattle.kq_bind_clauses.specs.Sorts.{sort_key, sort_keys}
use Rattle.kq_bind_clauses.specs.Tables.{word_type, tabled}
use Rattle.kq_bind_columns.specs.Chosen.{chosen, all_chosen, columns_at as columns_chosen, without, names_given, renamed as fields_renamed}
use Rattle.kq_bind_columns.specs.Defaults.{first_token}
use Rattle.kq_bind_columns.specs.Items.{nothing_made, items_made}
use Rattle.kq_bind_columns.specs.Laying.{as_they_are, over}
use Rattle.kq_bind_columns.specs.Naming.{is_taken}
use Rattle.kq_bind_columns.specs.Printed.{printed}
use Rattle.kq_bind_expressions.specs.Bound.{bound}
use Rattle.kq_bind_expressions.specs.Verdicts.{Verdict, unknown, mistyped, and_then, supported_or}
use Rattle.kq_bind_query.specs.kq_bind_supported.Unsupported.{unsupported_query}
use Rattle.kq_plan_expressions.specs.Terms.{Bound}
use Rattle.kq_read_grammar.specs.declared.expression.Name.{Name}
use Rattle.kq_read_grammar.specs.Trees.{Tree, ItemTree, plain, named, AggregateTree, KeyTree, TabularTree, pipeline, SourceTree, table, nested, worded, FromTree, view, print, range, datatable, union, UnionTree, arms, ArmTree, named_arm, nested_arm, Arms, no_arm, and_arm, Operators, no_operator, and_operator, BodyTree, filter, extend, project, project_away, project_rename, take, count, sort, top, distinct, distinct_all, summarize, summarize_by, join, unite, mv_expand, LetTree, QueryTree}
use Rattle.kq_plan.specs.declared.names.NameKind.TheVariants as known_as
use Rattle.kq_plan.specs.Names.{Known}
use Rattle.kq_plan.specs.Plans.{kept, cut, mapped, apart, sorted, topped, written, joined}
use Rattle.kq_read_meanings.specs.Names.{name_said, name_place, string_said}
use Rattle.kq_read_meanings.specs.Pieces.{piece}
use Rattle.kq_read_symbols.specs.Choices.{Right, scalar, table as tabular_alone, either}
use Rattle.kq_read_symbols.specs.declared.kind.Symbol.{Symbol}
use Rattle.kq_value.specs.declared.schema.Field.{Field}
use Rattle.kq_value.specs.declared.ty.Ty.{Ty}
use Rattle.kq_value.specs.declared.ty.Ty.TheVariants as ty
use Rattle.kq_value.specs.Ty.{same_ty}
use Rattle.kq_bind_query.proofs.Progress.{done}
use Rattle.kq_bind_laws.specs.ClauseFaults.{value_faults, typed_faults, number_faults, type_faults, key_faults, items_faults, printed_faults, aggregates_faults, choices_faults, renaming_faults, all_on_faults, range_faults, table_faults}
use Rattle.kq_bind_laws.specs.Faults.{faults_in}
use Rattle.kq_bind_laws.specs.QueryFaults.{rows_faults, is_view, view_faults, group_faults, rename_faults, star_faults, typeof_faults, tabular_faults, source_faults, from_faults, union_faults, arms_faults, arm_faults, operators_faults, body_faults, renamed_let, scalar_faults, rowed_faults, let_faults, lets_faults, query_faults, first_unsupported}
use Rattle.kq_bind_laws.specs.Told.{TellsFirst, if_so}
use Rattle.kq_bind_laws.proofs.ClauseFaults.{typed_tells, number_tells, type_tells, key_tells, keys_tell, items_tell, printed_tell, aggregates_tell, choices_tell, renaming_tells, all_on_tell, range_tells}
use Rattle.kq_bind_laws.proofs.Faults.{tree_tells}
use Rattle.kq_bind_laws.proofs.TableFaults.{table_tells}
use Rattle.kq_bind_laws.proofs.Told.{failed, tells_same, if_tells, then_bound, then_these, bound_before, then_done}

-- ---- sources

rows_tell : (s : Scoping) (p : Progressing) (n : Name) → TellsFirst (source_named s p n) (rows_faults s n)
rows_tell s p n = by (tabling_named s.tables (name_said s.text n)) where
  known_tells : (k : Option Known) → TellsFirst (leaf_of (name_place n) p (name_said s.text n) k) (if_so (not (is_some k)) (unknown (name_place n)))
  known_tells (Some k) = refl
  known_tells None = ([], refl)

  hidden : (b : Bool) → TellsFirst (cond {A = Verdict Flowing} b (failed (unknown (name_place n))) (leaf_of (name_place n) p (name_said s.text n) (s.known (name_said s.text n)))) (if_so (not (not b && is_some (s.known (name_said s.text n)))) (unknown (name_place n)))
  hidden true = ([], refl)
  hidden false = known_tells (s.known (name_said s.text n))

  by : (o : Option ℕ) → TellsFirst (named_rows s p (name_place n) (name_said s.text n) o) (if_so (not (is_some o || (not (is_taken s.lets (name_said s.text n)) && is_some (s.known (name_said s.text n))))) (unknown (name_place n)))
  by (Some i) = refl
  by None = hidden (is_taken s.lets (name_said s.text n))

view_tells : (s : Scoping) (p : Progressing) (t : Symbol) → TellsFirst (part_named s p t) (view_faults s t)
view_tells s p t = by (s.known (string_said (piece s.text t))) where
  by : (k : Option Known) → TellsFirst (part_of t.from p (string_said (piece s.text t)) k) (if_so (not (is_view k)) (unknown t.from))
  by (Some (known_as.View, cs)) = refl
  by (Some (known_as.Table, cs)) = ([], refl)
  by None = ([], refl)

-- ---- operators

group_tells : (s : Scoping) (w : Flowing) (aggs : List AggregateTree) (is : List ItemTree) → TellsFirst (grouped s w aggs is) (group_faults s w aggs is)
group_tells s w aggs is =
    bound_before (items_made (names s) (columns w) [] true nothing_made is)
    (λ m. and_then (aggregates_made (names s) (columns w) m.fields (no_aggregate m.fields) aggs) (λ g. done (summarized_by w m.terms g)))
    (items_faults (names s) (columns w) [] true nothing_made is)
    (λ m. aggregates_faults (names s) (columns w) (unkeyed 0 (columns w) m.fields) (no_aggregate m.fields) aggs)
    (items_tell (names s) (columns w) [] true nothing_made is)
    (λ m. then_done (aggregates_made (names s) (columns w) m.fields (no_aggregate m.fields) aggs) (λ g. summarized_by w m.terms g)
    (aggregates_faults (names s) (columns w) (unkeyed 0 (columns w) m.fields) (no_aggregate m.fields) aggs)
    (aggregates_tell (names s) (columns w) (unkeyed 0 (columns w) m.fields) (no_aggregate m.fields) aggs))

rename_tells : (s : Scoping) (w : Flowing) (ps : List (Name × Name)) → TellsFirst (renamed s w ps) (rename_faults s w ps)
rename_tells s w ps =
    bound_before (chosen s.text (columns w) false [] (map old_name ps))
    (λ is. and_then (names_given s.text (without 0 (columns w) is).1 (map new_name ps)) (λ ns. done (after w (λ i. mapped i (as_they_are 0 (columns w))) (fields_renamed 0 (columns w) is ns))))
    (choices_faults s.text (columns w) false [] (map old_name ps))
    (λ is. renaming_faults s.text (without 0 (columns w) is).1 (map new_name ps))
    (choices_tell s.text (columns w) false [] (map old_name ps))
    (λ is. then_done (names_given s.text (without 0 (columns w) is).1 (map new_name ps)) (λ ns. after w (λ i. mapped i (as_they_are 0 (columns w))) (fields_renamed 0 (columns w) is ns))
    (renaming_faults s.text (without 0 (columns w) is).1 (map new_name ps)) (renaming_tells s.text (without 0 (columns w) is).1 (map new_name ps)))

abbrev is_dynamic : Field → Bool
is_dynamic c = same_ty c.ty ty.Dynamic

star_tells : (at i : ℕ) (cs : List Field) → TellsFirst (all_chosen at i cs) (if_so (list_any is_dynamic cs) (mistyped at))
star_tells at i [] = refl
star_tells at i (c ∷ cs) = by (is_dynamic c) (star_tells at (suc i) cs) where
  by : (b : Bool) → TellsFirst (all_chosen at (suc i) cs) (if_so (list_any is_dynamic cs) (mistyped at))
      → TellsFirst (cond {A = Verdict (List ℕ)} b (failed (mistyped at)) (and_then (all_chosen at (suc i) cs) (λ is. done (i ∷ is)))) (if_so (b || list_any is_dynamic cs) (mistyped at))
  by true h = ([], refl)
  by false h = then_done (all_chosen at (suc i) cs) (λ is. i ∷ is) (if_so (list_any is_dynamic cs) (mistyped at)) h

typeof_tells : (s : Scoping) (t : Option Symbol) → TellsFirst (part_type s t) (typeof_faults s t)
typeof_tells s None = refl
typeof_tells s (Some t) = then_done (word_type s.text t) (λ u. Some u) (type_faults s.text t) (type_tells s.text t)

parts_tell : (s : Scoping) (w : Flowing) (e : Tree) (t : Option Symbol) (k : Bound → Option Ty → Flowing)
    → TellsFirst (and_then (and_then (bound (names s) (columns w) e) (if_dynamic (first_token e))) (λ x. and_then (part_type s t) (λ u. done (k x u))))
    (typed_faults (names s) (columns w) ty.Dynamic e ++ typeof_faults s t)
parts_tell s w e t k =
    then_these (and_then (bound (names s) (columns w) e) (if_dynamic (first_token e))) (λ x. and_then (part_type s t) (λ u. done (k x u)))
    (typed_faults (names s) (columns w) ty.Dynamic e) (typeof_faults s t) (typed_tells (names s) (columns w) ty.Dynamic e (λ x. x))
    (λ x. then_done (part_type s t) (k x) (typeof_faults s t) (typeof_tells s t))

expand_tells : (s : Scoping) (w : Flowing) (i : ItemTree) (t : Option Symbol) → TellsFirst (bind_mv_expand s w i t) (body_faults s w (mv_expand i t))
expand_tells s w (plain e) t = parts_tell s w e t (λ x u. expanded_as w x (item_name s (columns w) (plain e)) u)
expand_tells s w (named n e) t = parts_tell s w e t (λ x u. expanded_as w x (item_name s (columns w) (named n e)) u)

top_tells : (s : Scoping) (w : Flowing) (t : Symbol) (k : KeyTree) → TellsFirst (topped_by s w t k) (number_faults s.text t ++ key_faults (names s) (columns w) (k ∷ []))
top_tells s w t k =
    then_these (row_number s t) (λ n. and_then (sort_key (names s) (columns w) k) (λ x. done (after w (λ i. topped i n x) (columns w)))) (number_faults s.text t)
    (key_faults (names s) (columns w) (k ∷ [])) (number_tells s.text t)
    (λ n. then_done (sort_key (names s) (columns w) k) (λ x. after w (λ i. topped i n x) (columns w)) (key_faults (names s) (columns w) (k ∷ []))
    (tells_same (sort_key (names s) (columns w) k) (value_faults (names s) (columns w) true k.value) (key_faults (names s) (columns w) (k ∷ []))
    (sym (append-nil (value_faults (names s) (columns w) true k.value))) (key_tells (names s) (columns w) k)))

-- ---- pipes

mutual
  pub tabular_tells : (s : Scoping) (p : Progressing) (q : TabularTree) → TellsFirst (tabular s p q) (tabular_faults s p q)
  tabular_tells s p (pipeline o bs) =
      then_bound (sourced s p o) (λ w. piped s w bs) (source_faults s p o) (λ w. operators_faults s w bs) (source_tells s p o) (λ w. operators_tell s w bs)

  source_tells : (s : Scoping) (p : Progressing) (o : SourceTree) → TellsFirst (sourced s p o) (source_faults s p o)
  source_tells s p (table n) = rows_tell s p n
  source_tells s p (nested t q) = tabular_tells s p q
  source_tells s p (worded t b) = from_tells s p t b

  from_tells : (s : Scoping) (p : Progressing) (t : Symbol) (b : FromTree) → TellsFirst (from_word s p t b) (from_faults s p t b)
  from_tells s p t (view v) = view_tells s p v
  from_tells s p t (print i is) =
      then_done (printed (names s) (i ∷ is)) (row_made p) (printed_faults (names s) 0 nothing_made (i ∷ is)) (printed_tell (names s) 0 nothing_made (i ∷ is))
  from_tells s p t (range n a b c) = then_done (ranged (names s) a b c) (range_made s p n) (range_faults (names s) a b c) (range_tells (names s) a b c)
  from_tells s p t (datatable c cs ls) =
      then_done (tabled s.text t.from (c ∷ cs) ls) (λ x. following p (written x.1) x.0) (table_faults s.text t.from (c ∷ cs) ls) (table_tells s.text t.from c cs ls)
  from_tells s p t (union u) = union_tells s (p.stages + 1) (next_stage p) [] u

  union_tells : (s : Scoping) (stage : ℕ) (p : Progressing) (is : List ℕ) (u : UnionTree) → TellsFirst (united_with s stage p is u) (union_faults s p u)
  union_tells s stage p is (arms kind a more) =
      then_bound (armed s p a) (λ w. gathered s stage kind w.progress (is ++ w.input ∷ []) more) (arm_faults s p a) (λ w. arms_faults s w.progress more) (arm_tells s p a)
      (λ w. arms_tell s stage kind w.progress (is ++ w.input ∷ []) more)

  arms_tell : (s : Scoping) (stage : ℕ) (kind : Option Symbol) (p : Progressing) (is : List ℕ) (more : Arms) → TellsFirst (gathered s stage kind p is more) (arms_faults s p more)
  arms_tell s stage kind p is no_arm = refl
  arms_tell s stage kind p is (and_arm a more) =
      then_bound (armed s p a) (λ w. gathered s stage kind w.progress (is ++ w.input ∷ []) more) (arm_faults s p a) (λ w. arms_faults s w.progress more) (arm_tells s p a)
      (λ w. arms_tell s stage kind w.progress (is ++ w.input ∷ []) more)

  arm_tells : (s : Scoping) (p : Progressing) (a : ArmTree) → TellsFirst (armed s p a) (arm_faults s p a)
  arm_tells s p (named_arm n) = rows_tell s p n
  arm_tells s p (nested_arm t q) = tabular_tells s p q

  operators_tell : (s : Scoping) (w : Flowing) (bs : Operators) → TellsFirst (piped s w bs) (operators_faults s w bs)
  operators_tell s w no_operator = refl
  operators_tell s w (and_operator t b bs) =
      then_bound (operated s w b) (λ v. piped s v bs) (body_faults s w b) (λ v. operators_faults s v bs) (body_tells s w b) (λ v. operators_tell s v bs)

  body_tells : (s : Scoping) (w : Flowing) (b : BodyTree) → TellsFirst (operated s w b) (body_faults s w b)
  body_tells s w (filter e) = typed_tells (names s) (columns w) ty.Bool e (λ x. after w (λ i. kept i x.0) (columns w))
  body_tells s w (extend i is) =
      then_done (items_made (names s) (columns w) (columns w) false nothing_made (i ∷ is)) (λ m. laid_after w (over (columns w) m))
      (items_faults (names s) (columns w) (columns w) false nothing_made (i ∷ is)) (items_tell (names s) (columns w) (columns w) false nothing_made (i ∷ is))
  body_tells s w (project i is) =
      then_done (items_made (names s) (columns w) [] false nothing_made (i ∷ is)) (λ m. after w (λ j. mapped j m.terms) m.fields)
      (items_faults (names s) (columns w) [] false nothing_made (i ∷ is)) (items_tell (names s) (columns w) [] false nothing_made (i ∷ is))
  body_tells s w (project_away n ns) =
      then_done (chosen s.text (columns w) false [] (n ∷ ns)) (λ is. laid_after w (without 0 (columns w) is)) (choices_faults s.text (columns w) false [] (n ∷ ns))
      (choices_tell s.text (columns w) false [] (n ∷ ns))
  body_tells s w (project_rename q qs) = rename_tells s w (q ∷ qs)
  body_tells s w (take t) = then_done (row_number s t) (λ n. after w (λ i. cut i n) (columns w)) (number_faults s.text t) (number_tells s.text t)
  body_tells s w count = refl
  body_tells s w (sort k ks) =
      then_done (sort_keys (names s) (columns w) (k ∷ ks)) (λ xs. after w (λ i. sorted i xs) (columns w)) (key_faults (names s) (columns w) (k ∷ ks)) (keys_tell (names s) (columns w) (k ∷ ks))
  body_tells s w (top t k) = top_tells s w t k
  body_tells s w (distinct n ns) =
      then_done (chosen s.text (columns w) true [] (n ∷ ns)) (λ is. after w (λ i. apart i is) (columns_chosen (columns w) is)) (choices_faults s.text (columns w) true [] (n ∷ ns))
      (choices_tell s.text (columns w) true [] (n ∷ ns))
  body_tells s w (distinct_all t) = then_done (all_chosen t.from 0 (columns w)) (λ is. after w (λ i. apart i is) (columns w)) (star_faults w t) (star_tells t.from 0 (columns w))
  body_tells s w (summarize a more g) = group_tells s w (a ∷ more) (grouping_items g)
  body_tells s w (summarize_by g) = group_tells s w [] (g.0 ∷ g.1)
  body_tells s w (join kind q k ks) =
      then_bound (tabular s (next_stage w.progress) q) (λ r. joined_on s (w.progress.stages + 1) w.input (join_kind kind) r (k ∷ ks)) (tabular_faults s (next_stage w.progress) q)
      (λ r. all_on_faults s.text (columns_at r.progress.steps w.input) (columns r) (k ∷ ks)) (tabular_tells s (next_stage w.progress) q)
      (λ r. then_done (on_keys s.text (columns_at r.progress.steps w.input) (columns r) (k ∷ ks))
      (λ on. added r.progress (w.progress.stages + 1) (joined (join_kind kind) w.input r.input on) (join_columns (join_kind kind) (columns_at r.progress.steps w.input) (columns r)))
      (all_on_faults s.text (columns_at r.progress.steps w.input) (columns r) (k ∷ ks)) (all_on_tell s.text (columns_at r.progress.steps w.input) (columns r) (k ∷ ks)))
  body_tells s w (unite u) = union_tells s (w.progress.stages + 1) (next_stage w.progress) (w.input ∷ []) u
  body_tells s w (mv_expand i t) = expand_tells s w i t

-- ---- lets and queries

module _ (text : List ℕ) (known : List ℕ → Option Known) where
  new_tells : {A : Type 0} (l : Letting) (n : Name) (x : A) → TellsFirst (if_new text l n x) (renamed_let text l n)
  new_tells l n x = if_tells (is_let l (name_said text n)) x (mistyped (name_place n))

  scalar_tells : (l : Letting) (n : Name) (e : Tree) → TellsFirst (scalar_let text known l n e) (scalar_faults text known l n e)
  scalar_tells l n e =
      bound_before (bound (names (scope_of text known l)) [] e) (λ x. if_new text l n (scalar_put l (name_said text n) x)) (faults_in (names (scope_of text known l)) [] e)
      (λ x. renamed_let text l n) (tree_tells (names (scope_of text known l)) [] e) (λ x. new_tells l n (scalar_put l (name_said text n) x))

  rowed_tells : (l : Letting) (n : Name) (q : TabularTree) → TellsFirst (tabular_let text known l n q) (rowed_faults text known l n q)
  rowed_tells l n q =
      bound_before (tabular (scope_of text known l) l.progress q) (λ w. if_new text l n (tabular_put l (name_said text n) w)) (tabular_faults (scope_of text known l) l.progress q)
      (λ w. renamed_let text l n) (tabular_tells (scope_of text known l) l.progress q) (λ w. new_tells l n (tabular_put l (name_said text n) w))

  let_tells : (l : Letting) (n : Name) (r : Right Tree TabularTree) → TellsFirst (let_made text known l n r) (let_faults text known l n r)
  let_tells l n (scalar e) = scalar_tells l n e
  let_tells l n (tabular_alone q) = rowed_tells l n q
  let_tells l n (either e q) = by (is_tabular text known l (bare_name e)) where
    by : (b : Bool) → TellsFirst (cond {A = Verdict Letting} b (tabular_let text known l n q) (scalar_let text known l n e)) (cond b (rowed_faults text known l n q) (scalar_faults text known l n e))
    by true = rowed_tells l n q
    by false = scalar_tells l n e

  lets_tell : (l : Letting) (xs : List LetTree) → TellsFirst (lets_made text known l xs) (lets_faults text known l xs)
  lets_tell l [] = refl
  lets_tell l (x ∷ xs) =
      then_bound (let_made text known l x.name x.right) (λ m. lets_made text known m xs) (let_faults text known l x.name x.right) (λ m. lets_faults text known m xs)
      (let_tells l x.name x.right) (λ m. lets_tell m xs)

  walk_tells : (q : QueryTree) → TellsFirst (query_walked text known q) (query_faults text known q)
  walk_tells q =
      then_bound (lets_made text known nothing_let q.lets) (λ l. and_then (tabular (scope_of text known l) l.progress q.tabular) (λ w. done (planned w)))
      (lets_faults text known nothing_let q.lets) (λ l. tabular_faults (scope_of text known l) l.progress q.tabular) (lets_tell nothing_let q.lets)
      (λ l. then_done (tabular (scope_of text known l) l.progress q.tabular) planned (tabular_faults (scope_of text known l) l.progress q.tabular)
      (tabular_tells (scope_of text known l) l.progress q.tabular))

  pub query_tells : (q : QueryTree) → TellsFirst (query_bound text known q) (first_unsupported (unsupported_query text q) ++ query_faults text known q)
  query_tells q = by (unsupported_query text q) where
    by : (o : Option ℕ) → TellsFirst (supported_or o (query_walked text known q)) (first_unsupported o ++ query_faults text known q)
    by (Some at) = (query_faults text known q, refl)
    by None = walk_tells q
