-- The faults of a query stand in the order of its text.
use Rattle.std.proofs.Common.{◌≡◌, ℕ, Bool, true, false, cond, not, nat_eq, List, [], ◌∷◌, ◌++◌, length, append-nil, Option, Some, None, refl, sym, subst}
use Rattle.std.specs.Prelude.{◌%◌}
use Rattle.std.specs.List.{list_any}
use Rattle.kq_bind_query.specs.kq_bind_operators.Clauses.{grouping_items}
use Rattle.kq_bind_query.specs.kq_bind_operators.Flows.{Progressing, Flowing, columns, columns_at, next_stage}
use Rattle.kq_bind_query.specs.kq_bind_operators.Operators.{natural}
use Rattle.kq_bind_query.specs.kq_bind_operators.Scopes.{Scoping, names}
use Rattle.kq_bind_query.specs.Pipes.{tabular, sourced, armed, operated}
use Rattle.kq_bind_query.specs.Queries.{Letting, nothing_let, scope_of, is_let, is_tabular, bare_name, let_made, lets_made}
use Rattle.kq_bind_aggregates.specs.Arguments.{unkeyed}
use Rattle.kq_bind_aggregates.specs.Gathered.{no_aggregate}
use Rattle.kq_bind_clauses.specs.Tables.{table_columns}
use Rattle.kq_bind_columns.specs.Chosen.{without}
use Rattle.kq_bind_columns.specs.Items.{nothing_made, items_made}
use Rattle.kq_bind_expressions.specs.Bound.{bound}
use Rattle.kq_bind_expressions.specs.Verdicts.{Fault, Verdict, unsupported, unknown, mistyped}
use Rattle.kq_read_grammar.specs.Clauses.{item_text, grouping_text}
use Rattle.kq_read_grammar.specs.declared.clause.Cell.{Cell}
use Rattle.kq_read_grammar.specs.declared.clause.Column.{Column}
use Rattle.kq_read_grammar.specs.declared.expression.Name.{Name}
use Rattle.kq_read_grammar.specs.declared.expression.Name.TheVariants as shown
use Rattle.kq_read_grammar.specs.Expressions.{name_text}
use Rattle.kq_read_grammar.specs.Tabulars.{table_text, view_text, typeof_text, tabular_text, source_text, from_text, union_text, arm_text, arms_text, operators_text, body_text, scalar_right, tabular_right, let_text, query_text}
use Rattle.kq_read_grammar.specs.Trees.{Tree, ItemTree, plain, named, AggregateTree, GroupingTree, TabularTree, pipeline, SourceTree, table, nested, worded, FromTree, view, print, range, datatable, union, UnionTree, arms, ArmTree, named_arm, nested_arm, Arms, no_arm, and_arm, Operators, no_operator, and_operator, BodyTree, filter, extend, project, project_away, project_rename, take, count, sort, top, distinct, distinct_all, summarize, summarize_by, join, unite, mv_expand, LetTree, QueryTree}
use Rattle.kq_plan.specs.Names.{Known}
use Rattle.kq_read_meanings.specs.Literals.{literal_value}
use Rattle.kq_read_meanings.specs.Names.{name_said, name_place, string_said}
use Rattle.kq_read_meanings.specs.Pieces.{piece}
use Rattle.kq_read_symbols.specs.Choices.{Right, scalar, table as tabular_alone, either, Chosen}
use Rattle.kq_read_symbols.specs.Forms.{Many, Maybe}
use Rattle.kq_read_symbols.specs.declared.kind.Symbol.{Symbol}
use Rattle.kq_value.specs.declared.ty.Ty.TheVariants as ty
use Rattle.kq_value.specs.Ty.{same_ty}
use Rattle.std.specs.Prelude.{option_and_then}
use Rattle.kq_bind_laws.specs.ClauseFaults.{value_faults, typed_faults, number_faults, key_faults, items_faults, aggregates_faults, all_on_faults, columns_faults, cells_faults, unfilled, table_faults}
use Rattle.kq_bind_laws.specs.Faults.{faults_in}
use Rattle.kq_bind_laws.specs.Items.{expression_of}
use Rattle.kq_bind_laws.specs.QueryFaults.{stands_for_rows, rows_faults, is_view, view_faults, group_faults, star_faults, typeof_faults, tabular_faults, source_faults, from_faults, union_faults, arms_faults, arm_faults, operators_faults, body_faults, renamed_let, scalar_faults, rowed_faults, let_faults, lets_faults, query_faults}
use Rattle.kq_bind_laws.specs.Told.{where_bound, where_none, InText, none}
use Rattle.kq_bind_laws.proofs.ClauseInText.{where_in, if_at, typed_in, type_in, key_in, keys_in, items_in, printed_in, aggregates_in, choices_in, renames_in, all_on_in, range_in, columns_in, cells_in}
use Rattle.kq_bind_laws.proofs.InText.{both, behind, before, AllAt, at_one, at_name, unless_at, bound_at, tree_in}

-- ---- sources

rows_at : (s : Scoping) (n : Name) → AllAt (name_place n) (rows_faults s n)
rows_at s n = if_at (not (stands_for_rows s (name_said s.text n))) (unknown (name_place n))

rows_in : (s : Scoping) (n : Name) (ts : List Symbol) → name_text n ts → InText (rows_faults s n) ts
rows_in s n ts h = at_name (rows_faults s n) n ts h (rows_at s n)

table_in : (s : Scoping) (n : Name) (ts : List Symbol) → table_text n ts → InText (rows_faults s n) ts
table_in s (shown.Word t) ts h = at_one (rows_faults s (shown.Word t)) t ts [] h.1 (rows_at s (shown.Word t))
table_in s (shown.Bracketed t q) ts h = rows_in s (shown.Bracketed t q) ts h

view_in : (s : Scoping) (t : Symbol) (ts : List Symbol) → view_text t ts → InText (view_faults s t) ts
view_in s t ts h =
    behind ts h.left h.right (view_faults s t) h.joined
    (before h.right h.after.left h.after.right (view_faults s t) h.after.joined
    (at_one (view_faults s t) t h.after.left [] h.after.before.1 (if_at (not (is_view (s.known (string_said (piece s.text t))))) (unknown t.from))))

none_at : (at : ℕ) (others fs : List Fault) → AllAt at fs → AllAt at (where_none others fs)
none_at at [] fs h = h
none_at at (e ∷ others) fs h = tt

datatable_in : (text : List ℕ) (t : Symbol) (c : Column) (cs : List Column) (ls : List Cell) (ts u v : List Symbol) (is : ts ≡ u ++ v) → u ≡ t ∷ [] → from_text (datatable c cs ls) v
    → InText (table_faults text t.from (c ∷ cs) ls) ts
datatable_in text t c cs ls ts u v is word h =
    let own = unfilled t.from (c ∷ cs) ls in
    let heads = columns_faults text [] (c ∷ cs) in
    let cells = where_bound (table_columns text [] (c ∷ cs)) (λ fs. cells_faults text fs fs ls) in
    let front = h.before in
    let list = front.after in
    let back = h.after in
    let inner = back.after in
    both ts u v (where_none (heads ++ cells) own) (heads ++ cells) is
    (at_one (where_none (heads ++ cells) own) t u [] word (none_at t.from (heads ++ cells) own (if_at (not (nat_eq (length ls % length (c ∷ cs)) 0)) (mistyped t.from))))
    (both v h.left h.right heads cells h.joined
    (behind h.left front.left front.right heads front.joined (before front.right list.left list.right heads list.joined (columns_in text [] c cs list.left list.before)))
    (behind h.right back.left back.right cells back.joined
    (before back.right inner.left inner.right cells inner.joined
    (where_in (table_columns text [] (c ∷ cs)) (λ fs. cells_faults text fs fs ls) inner.left (λ fs. cells_in text fs fs ls inner.left inner.before)))))

-- ---- operators

grouping_in : (s : Scoping) (w : Flowing) (g : Option GroupingTree) (ts : List Symbol) → Maybe grouping_text g ts → InText (items_faults (names s) (columns w) [] true nothing_made (grouping_items g)) ts
grouping_in s w None ts h = none
grouping_in s w (Some g) ts h =
    behind ts h.left h.right (items_faults (names s) (columns w) [] true nothing_made (g.0 ∷ g.1)) h.joined (items_in (names s) (columns w) [] true nothing_made g.0 g.1 h.right h.after)

group_in : (s : Scoping) (w : Flowing) (a : AggregateTree) (more : List AggregateTree) (g : Option GroupingTree) (ts : List Symbol) → body_text (summarize a more g) ts
    → InText (group_faults s w (a ∷ more) (grouping_items g)) ts
group_in s w a more g ts h =
    let keys = items_made (names s) (columns w) [] true nothing_made (grouping_items g) in
    both ts h.left h.right (where_bound keys (λ m. aggregates_faults (names s) (columns w) (unkeyed 0 (columns w) m.fields) (no_aggregate m.fields) (a ∷ more)))
    (items_faults (names s) (columns w) [] true nothing_made (grouping_items g)) h.joined
    (where_in keys (λ m. aggregates_faults (names s) (columns w) (unkeyed 0 (columns w) m.fields) (no_aggregate m.fields) (a ∷ more)) h.left
    (λ m. aggregates_in (names s) (columns w) (unkeyed 0 (columns w) m.fields) (no_aggregate m.fields) a more h.left h.before))
    (grouping_in s w g h.right h.after)

keys_alone : (s : Scoping) (w : Flowing) (g : GroupingTree) (ts : List Symbol) → grouping_text g ts → InText (group_faults s w [] (g.0 ∷ g.1)) ts
keys_alone s w g ts h =
    let keys = items_made (names s) (columns w) [] true nothing_made (g.0 ∷ g.1) in
    both ts h.left h.right (where_bound keys (λ m. aggregates_faults (names s) (columns w) (unkeyed 0 (columns w) m.fields) (no_aggregate m.fields) []))
    (items_faults (names s) (columns w) [] true nothing_made (g.0 ∷ g.1)) h.joined
    (where_in keys (λ m. aggregates_faults (names s) (columns w) (unkeyed 0 (columns w) m.fields) (no_aggregate m.fields) []) h.left (λ m. none))
    (items_in (names s) (columns w) [] true nothing_made g.0 g.1 h.right h.after)

number_in : (text : List ℕ) (t : Symbol) (ts : List Symbol) → ts ≡ t ∷ [] → InText (number_faults text t) ts
number_in text t ts is = at_one (number_faults text t) t ts [] is (unless_at (option_and_then natural (literal_value text t)) (unsupported t.from))

star_in : (w : Flowing) (t : Symbol) (ts : List Symbol) → ts ≡ t ∷ [] → InText (star_faults w t) ts
star_in w t ts is = at_one (star_faults w t) t ts [] is (if_at (list_any (λ c. same_ty c.ty ty.Dynamic) (columns w)) (mistyped t.from))

typeof_in : (s : Scoping) (t : Option Symbol) (ts : List Symbol) → Maybe typeof_text t ts → InText (typeof_faults s t) ts
typeof_in s None ts h = none
typeof_in s (Some t) ts h =
    let fs = typeof_faults s (Some t) in
    let second = h.after in
    let third = second.after in
    let last = third.after in
    behind ts h.left h.right fs h.joined (behind h.right second.left second.right fs second.joined (behind second.right third.left third.right fs third.joined
    (before third.right last.left last.right fs last.joined (type_in s.text t last.left [] last.before.1))))

expanded_in : (s : Scoping) (w : Flowing) (i : ItemTree) (ts : List Symbol) → item_text i ts → InText (typed_faults (names s) (columns w) ty.Dynamic (expression_of i)) ts
expanded_in s w (plain e) ts h = typed_in (names s) (columns w) ty.Dynamic e ts h
expanded_in s w (named n e) ts h =
    let fs = typed_faults (names s) (columns w) ty.Dynamic e in
    behind ts h.left h.right fs h.joined (behind h.right h.after.left h.after.right fs h.after.joined (typed_in (names s) (columns w) ty.Dynamic e h.after.right h.after.after))

-- ---- pipes

mutual
  pub tabular_in : (s : Scoping) (p : Progressing) (q : TabularTree) (ts : List Symbol) → tabular_text q ts → InText (tabular_faults s p q) ts
  tabular_in s p (pipeline o bs) ts h =
      both ts h.left h.right (source_faults s p o) (where_bound (sourced s p o) (λ w. operators_faults s w bs)) h.joined (source_in s p o h.left h.before)
      (where_in (sourced s p o) (λ w. operators_faults s w bs) h.right (λ w. operators_in s w bs h.right h.after))

  source_in : (s : Scoping) (p : Progressing) (o : SourceTree) (ts : List Symbol) → source_text o ts → InText (source_faults s p o) ts
  source_in s p (table n) ts h = table_in s n ts h
  source_in s p (nested t q) ts h =
      behind ts h.left h.right (tabular_faults s p q) h.joined
      (before h.right h.after.left h.after.right (tabular_faults s p q) h.after.joined (tabular_in s p q h.after.left h.after.before))
  source_in s p (worded t b) ts h = from_in s p t b ts h.left h.right h.joined h.before.1 h.after

  from_in : (s : Scoping) (p : Progressing) (t : Symbol) (b : FromTree) (ts u v : List Symbol) → ts ≡ u ++ v → u ≡ t ∷ [] → from_text b v → InText (from_faults s p t b) ts
  from_in s p t (view n) ts u v is word h = behind ts u v (view_faults s n) is (view_in s n v h)
  from_in s p t (print i is') ts u v is word h = behind ts u v (from_faults s p t (print i is')) is (printed_in (names s) 0 nothing_made i is' v h)
  from_in s p t (range n a b c) ts u v is word h =
      behind ts u v (from_faults s p t (range n a b c)) is (behind v h.left h.right (from_faults s p t (range n a b c)) h.joined (range_in (names s) a b c h.right h.after))
  from_in s p t (datatable c cs ls) ts u v is word h = datatable_in s.text t c cs ls ts u v is word h
  from_in s p t (union q) ts u v is word h = behind ts u v (union_faults s (next_stage p) q) is (union_in s (next_stage p) q v h)

  union_in : (s : Scoping) (p : Progressing) (q : UnionTree) (ts : List Symbol) → union_text q ts → InText (union_faults s p q) ts
  union_in s p (arms kind a more) ts h =
      let fs = union_faults s p (arms kind a more) in
      behind ts h.left h.right fs h.joined
      (both h.right h.after.left h.after.right (arm_faults s p a) (where_bound (armed s p a) (λ w. arms_faults s w.progress more)) h.after.joined (arm_in s p a h.after.left h.after.before)
      (where_in (armed s p a) (λ w. arms_faults s w.progress more) h.after.right (λ w. arms_in s w.progress more h.after.right h.after.after)))

  arms_in : (s : Scoping) (p : Progressing) (more : Arms) (ts : List Symbol) → arms_text more ts → InText (arms_faults s p more) ts
  arms_in s p no_arm ts h = none
  arms_in s p (and_arm a more) ts h =
      let one = h.before in
      both ts h.left h.right (arm_faults s p a) (where_bound (armed s p a) (λ w. arms_faults s w.progress more)) h.joined
      (behind h.left one.left one.right (arm_faults s p a) one.joined (arm_in s p a one.right one.after))
      (where_in (armed s p a) (λ w. arms_faults s w.progress more) h.right (λ w. arms_in s w.progress more h.right h.after))

  arm_in : (s : Scoping) (p : Progressing) (a : ArmTree) (ts : List Symbol) → arm_text a ts → InText (arm_faults s p a) ts
  arm_in s p (named_arm n) ts h = rows_in s n ts h
  arm_in s p (nested_arm t q) ts h =
      behind ts h.left h.right (tabular_faults s p q) h.joined
      (before h.right h.after.left h.after.right (tabular_faults s p q) h.after.joined (tabular_in s p q h.after.left h.after.before))

  operators_in : (s : Scoping) (w : Flowing) (bs : Operators) (ts : List Symbol) → operators_text bs ts → InText (operators_faults s w bs) ts
  operators_in s w no_operator ts h = none
  operators_in s w (and_operator t b bs) ts h =
      let own = h.before in
      let fs = body_faults s w b in
      both ts h.left h.right fs (where_bound (operated s w b) (λ v. operators_faults s v bs)) h.joined
      (behind h.left own.left own.right fs own.joined (behind own.right own.after.left own.after.right fs own.after.joined (body_in s w b own.after.right own.after.after)))
      (where_in (operated s w b) (λ v. operators_faults s v bs) h.right (λ v. operators_in s v bs h.right h.after))

  body_in : (s : Scoping) (w : Flowing) (b : BodyTree) (ts : List Symbol) → body_text b ts → InText (body_faults s w b) ts
  body_in s w (filter e) ts h = typed_in (names s) (columns w) ty.Bool e ts h
  body_in s w (extend i is) ts h = items_in (names s) (columns w) (columns w) false nothing_made i is ts h
  body_in s w (project i is) ts h = items_in (names s) (columns w) [] false nothing_made i is ts h
  body_in s w (project_away n ns) ts h = choices_in s.text (columns w) false n ns ts h
  body_in s w (project_rename q qs) ts h = renames_in s.text (columns w) (λ is. (without 0 (columns w) is).1) q qs ts h
  body_in s w (take t) ts h = number_in s.text t ts h.1
  body_in s w count ts h = none
  body_in s w (sort q qs) ts h = behind ts h.left h.right (key_faults (names s) (columns w) (q ∷ qs)) h.joined (keys_in (names s) (columns w) q qs h.right h.after)
  body_in s w (top t q) ts h =
      let fs = key_faults (names s) (columns w) (q ∷ []) in
      both ts h.left h.right (number_faults s.text t) fs h.joined (number_in s.text t h.left h.before.1)
      (behind h.right h.after.left h.after.right fs h.after.joined
      (both h.after.right h.after.right [] (value_faults (names s) (columns w) true q.value) [] (sym (append-nil h.after.right)) (key_in (names s) (columns w) q h.after.right h.after.after) none))
  body_in s w (distinct n ns) ts h = choices_in s.text (columns w) true n ns ts h
  body_in s w (distinct_all t) ts h = star_in w t ts h.1
  body_in s w (summarize a more g) ts h = group_in s w a more g ts h
  body_in s w (summarize_by g) ts h = keys_alone s w g ts h
  body_in s w (join kind q j js) ts h =
      let right = h.after.before in
      let list = right.after in
      let keys = h.after.after in
      let rows = tabular s (next_stage w.progress) q in
      let fs = tabular_faults s (next_stage w.progress) q in
      let on = where_bound rows (λ r. all_on_faults s.text (columns_at r.progress.steps w.input) (columns r) (j ∷ js)) in
      behind ts h.left h.right (fs ++ on) h.joined
      (both h.right h.after.left h.after.right fs on h.after.joined
      (behind h.after.left right.left right.right fs right.joined (before right.right list.left list.right fs list.joined (tabular_in s (next_stage w.progress) q list.left list.before)))
      (behind h.after.right keys.left keys.right on keys.joined
      (where_in rows (λ r. all_on_faults s.text (columns_at r.progress.steps w.input) (columns r) (j ∷ js)) keys.right
      (λ r. all_on_in s.text (columns_at r.progress.steps w.input) (columns r) j js keys.right keys.after))))
  body_in s w (unite u) ts h = union_in s (next_stage w.progress) u ts h
  body_in s w (mv_expand i t) ts h =
      both ts h.left h.right (typed_faults (names s) (columns w) ty.Dynamic (expression_of i)) (typeof_faults s t) h.joined (expanded_in s w i h.left h.before) (typeof_in s t h.right h.after)

-- ---- lets and queries

module _ (text : List ℕ) (known : List ℕ → Option Known) where
  -- the name of a let, and its right side
  named_in : {A : Type 0} (l : Letting) (n : Name) (v : Verdict A) (fs : List Fault) (ts us : List Symbol) → name_text n ts → InText fs us → InText (where_bound v (λ x. renamed_let text l n) ++ fs) (ts ++ us)
  named_in l n v fs ts us h k =
      both (ts ++ us) ts us (where_bound v (λ x. renamed_let text l n)) fs refl
      (at_name (where_bound v (λ x. renamed_let text l n)) n ts h (bound_at (name_place n) v (λ x. renamed_let text l n) (λ x. if_at (is_let l (name_said text n)) (mistyped (name_place n))))) k

  scalar_in : (l : Letting) (n : Name) (e : Tree) (ts us : List Symbol) → name_text n ts → InText (faults_in (names (scope_of text known l)) [] e) us → InText (scalar_faults text known l n e) (ts ++ us)
  scalar_in l n e ts us h k = named_in l n (bound (names (scope_of text known l)) [] e) (faults_in (names (scope_of text known l)) [] e) ts us h k

  rowed_in : (l : Letting) (n : Name) (q : TabularTree) (ts us : List Symbol) → name_text n ts → InText (tabular_faults (scope_of text known l) l.progress q) us → InText (rowed_faults text known l n q) (ts ++ us)
  rowed_in l n q ts us h k = named_in l n (tabular (scope_of text known l) l.progress q) (tabular_faults (scope_of text known l) l.progress q) ts us h k

  of_scalar : (l : Letting) (e : Tree) (us : List Symbol) → scalar_right e us → InText (faults_in (names (scope_of text known l)) [] e) us
  of_scalar l e us h = before us h.left h.right (faults_in (names (scope_of text known l)) [] e) h.joined (tree_in (names (scope_of text known l)) [] e h.left h.before)

  of_rows : (l : Letting) (q : TabularTree) (us : List Symbol) → tabular_right q us → InText (tabular_faults (scope_of text known l) l.progress q) us
  of_rows l q us h = before us h.left h.right (tabular_faults (scope_of text known l) l.progress q) h.joined (tabular_in (scope_of text known l) l.progress q h.left h.before)

  right_in : (l : Letting) (n : Name) (r : Right Tree TabularTree) (ts us vs ws : List Symbol) → us ≡ vs ++ ws → name_text n ts → Chosen scalar_right tabular_right r ws
      → InText (let_faults text known l n r) (ts ++ us)
  right_in l n (scalar e) ts us vs ws is h c = scalar_in l n e ts us h (behind us vs ws (faults_in (names (scope_of text known l)) [] e) is (of_scalar l e ws c.0))
  right_in l n (tabular_alone q) ts us vs ws is h c = rowed_in l n q ts us h (behind us vs ws (tabular_faults (scope_of text known l) l.progress q) is (of_rows l q ws c.0))
  right_in l n (either e q) ts us vs ws is h c = by (is_tabular text known l (bare_name e)) where
    by : (b : Bool) → InText (cond b (rowed_faults text known l n q) (scalar_faults text known l n e)) (ts ++ us)
    by true = rowed_in l n q ts us h (behind us vs ws (tabular_faults (scope_of text known l) l.progress q) is (of_rows l q ws c.1))
    by false = scalar_in l n e ts us h (behind us vs ws (faults_in (names (scope_of text known l)) [] e) is (of_scalar l e ws c.0))

  let_in : (l : Letting) (x : LetTree) (ts : List Symbol) → let_text x ts → InText (let_faults text known l x.name x.right) ts
  let_in l x ts h =
      let inner = h.after in
      let assigned = inner.after in
      let fs = let_faults text known l x.name x.right in
      behind ts h.left h.right fs h.joined
      (subst (InText fs) (sym inner.joined) (right_in l x.name x.right inner.left inner.right assigned.left assigned.right assigned.joined inner.before assigned.after))

  lets_in : (l : Letting) (xs : List LetTree) (ts : List Symbol) → Many let_text xs ts → InText (lets_faults text known l xs) ts
  lets_in l [] ts h = none
  lets_in l (x ∷ xs) ts h =
      both ts h.0 h.1 (let_faults text known l x.name x.right) (where_bound (let_made text known l x.name x.right) (λ m. lets_faults text known m xs)) h.2 (let_in l x h.0 h.3)
      (where_in (let_made text known l x.name x.right) (λ m. lets_faults text known m xs) h.1 (λ m. lets_in m xs h.1 h.4))

  pub query_in : (q : QueryTree) (ts : List Symbol) → query_text q ts → InText (query_faults text known q) ts
  query_in q ts h =
      let made = lets_made text known nothing_let q.lets in
      let rows = where_bound made (λ l. tabular_faults (scope_of text known l) l.progress q.tabular) in
      both ts h.left h.right (lets_faults text known nothing_let q.lets) rows h.joined (lets_in nothing_let q.lets h.left h.before)
      (before h.right h.after.left h.after.right rows h.after.joined
      (where_in made (λ l. tabular_faults (scope_of text known l) l.progress q.tabular) h.after.left (λ l. tabular_in (scope_of text known l) l.progress q.tabular h.after.left h.after.before)))
