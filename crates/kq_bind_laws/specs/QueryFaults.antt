-- All faults of a query, in the order of its text.
use Rattle.std.specs.Prelude.{ℕ, Bool, true, false, ◌&&◌, ◌||◌, not, List, [], ◌∷◌, ◌++◌, map, Option, Some, None, is_some, if◌then◌else◌}
use Rattle.std.specs.List.{list_any}
use Rattle.kq_bind_query.specs.kq_bind_operators.Clauses.{grouping_items}
use Rattle.kq_bind_query.specs.kq_bind_operators.Flows.{Progressing, Flowing, columns, columns_at, next_stage}
use Rattle.kq_bind_query.specs.kq_bind_operators.Operators.{new_name, old_name}
use Rattle.kq_bind_query.specs.kq_bind_operators.Scopes.{Scoping, names, tabling_named}
use Rattle.kq_bind_query.specs.Pipes.{tabular, sourced, armed, operated}
use Rattle.kq_bind_query.specs.Queries.{Letting, nothing_let, scope_of, is_let, is_tabular, bare_name, let_made, lets_made}
use Rattle.kq_bind_aggregates.specs.Arguments.{unkeyed}
use Rattle.kq_bind_aggregates.specs.Gathered.{no_aggregate}
use Rattle.kq_bind_columns.specs.Chosen.{chosen, without}
use Rattle.kq_bind_columns.specs.Items.{nothing_made, items_made}
use Rattle.kq_bind_columns.specs.Naming.{is_taken}
use Rattle.kq_bind_expressions.specs.Bound.{bound}
use Rattle.kq_bind_expressions.specs.Verdicts.{Fault, unsupported, unknown, mistyped}
use Rattle.kq_read_grammar.specs.declared.expression.Name.{Name}
use Rattle.kq_read_grammar.specs.Trees.{Tree, ItemTree, AggregateTree, TabularTree, pipeline, SourceTree, table, nested, worded, FromTree, view, print, range, datatable, union, UnionTree, arms, ArmTree, named_arm, nested_arm, Arms, no_arm, and_arm, Operators, no_operator, and_operator, BodyTree, filter, extend, project, project_away, project_rename, take, count, sort, top, distinct, distinct_all, summarize, summarize_by, join, unite, mv_expand, LetTree, QueryTree}
use Rattle.kq_plan.specs.declared.names.NameKind.TheVariants as known_as
use Rattle.kq_plan.specs.Names.{Known}
use Rattle.kq_read_meanings.specs.Names.{name_said, name_place, string_said}
use Rattle.kq_read_meanings.specs.Pieces.{piece}
use Rattle.kq_read_symbols.specs.Choices.{Right, scalar, table as tabular_alone, either}
use Rattle.kq_read_symbols.specs.declared.kind.Symbol.{Symbol}
use Rattle.kq_value.specs.declared.ty.Ty.TheVariants as ty
use Rattle.kq_value.specs.Ty.{same_ty}
use Rattle.kq_bind_laws.specs.ClauseFaults.{typed_faults, number_faults, type_faults, key_faults, items_faults, printed_faults, aggregates_faults, choices_faults, renaming_faults, all_on_faults, range_faults, table_faults}
use Rattle.kq_bind_laws.specs.Faults.{faults_in}
use Rattle.kq_bind_laws.specs.Items.{expression_of}
use Rattle.kq_bind_laws.specs.Told.{if_so, where_bound}

-- ---- sources

-- a tabular let of this name, or else, where no scalar let has it, a name of the catalogue
abbrev pub stands_for_rows : Scoping → List ℕ → Bool
stands_for_rows s said = is_some (tabling_named s.tables said) || (not (is_taken s.lets said) && is_some (s.known said))

abbrev pub rows_faults : Scoping → Name → List Fault
rows_faults s n = if_so (not (stands_for_rows s (name_said s.text n))) (unknown (name_place n))

abbrev pub is_view : Option Known → Bool
is_view (Some (known_as.View, cs)) = true
is_view _ = false

abbrev pub view_faults : Scoping → Symbol → List Fault
view_faults s t = if_so (not (is_view (s.known (string_said (piece s.text t))))) (unknown t.from)

-- ---- operators

-- the aggregates, which stand before the keys, are looked at where these bind
abbrev pub group_faults : Scoping → Flowing → List AggregateTree → List ItemTree → List Fault
group_faults s w aggregates keys =
    where_bound (items_made (names s) (columns w) [] true nothing_made keys)
    (λ m. aggregates_faults (names s) (columns w) (unkeyed 0 (columns w) m.fields) (no_aggregate m.fields) aggregates)
    ++ items_faults (names s) (columns w) [] true nothing_made keys

-- the new names are tested where all old ones are found
abbrev pub rename_faults : Scoping → Flowing → List (Name × Name) → List Fault
rename_faults s w ps =
    where_bound (chosen s.text (columns w) false [] (map old_name ps)) (λ is. renaming_faults s.text (without 0 (columns w) is).1 (map new_name ps))
    ++ choices_faults s.text (columns w) false [] (map old_name ps)

abbrev pub star_faults : Flowing → Symbol → List Fault
star_faults w t = if_so (list_any (λ c. same_ty c.ty ty.Dynamic) (columns w)) (mistyped t.from)

abbrev pub typeof_faults : Scoping → Option Symbol → List Fault
typeof_faults s None = []
typeof_faults s (Some t) = type_faults s.text t

-- ---- pipes

-- each source and operator is looked at where all before it binds
abbrev mutual
  pub tabular_faults : Scoping → Progressing → TabularTree → List Fault
  tabular_faults s p (pipeline o bs) = source_faults s p o ++ where_bound (sourced s p o) (λ w. operators_faults s w bs)

  pub source_faults : Scoping → Progressing → SourceTree → List Fault
  source_faults s p (table n) = rows_faults s n
  source_faults s p (nested t q) = tabular_faults s p q
  source_faults s p (worded t b) = from_faults s p t b

  pub from_faults : Scoping → Progressing → Symbol → FromTree → List Fault
  from_faults s p t (view v) = view_faults s v
  from_faults s p t (print i is) = printed_faults (names s) 0 nothing_made (i ∷ is)
  from_faults s p t (range n a b c) = range_faults (names s) a b c
  from_faults s p t (datatable c cs ls) = table_faults s.text t.from (c ∷ cs) ls
  from_faults s p t (union u) = union_faults s (next_stage p) u

  pub union_faults : Scoping → Progressing → UnionTree → List Fault
  union_faults s p (arms kind a more) = arm_faults s p a ++ where_bound (armed s p a) (λ w. arms_faults s w.progress more)

  pub arms_faults : Scoping → Progressing → Arms → List Fault
  arms_faults s p no_arm = []
  arms_faults s p (and_arm a more) = arm_faults s p a ++ where_bound (armed s p a) (λ w. arms_faults s w.progress more)

  pub arm_faults : Scoping → Progressing → ArmTree → List Fault
  arm_faults s p (named_arm n) = rows_faults s n
  arm_faults s p (nested_arm t q) = tabular_faults s p q

  pub operators_faults : Scoping → Flowing → Operators → List Fault
  operators_faults s w no_operator = []
  operators_faults s w (and_operator t b bs) = body_faults s w b ++ where_bound (operated s w b) (λ v. operators_faults s v bs)

  pub body_faults : Scoping → Flowing → BodyTree → List Fault
  body_faults s w (filter e) = typed_faults (names s) (columns w) ty.Bool e
  body_faults s w (extend i is) = items_faults (names s) (columns w) (columns w) false nothing_made (i ∷ is)
  body_faults s w (project i is) = items_faults (names s) (columns w) [] false nothing_made (i ∷ is)
  body_faults s w (project_away n ns) = choices_faults s.text (columns w) false [] (n ∷ ns)
  body_faults s w (project_rename q qs) = rename_faults s w (q ∷ qs)
  body_faults s w (take t) = number_faults s.text t
  body_faults s w count = []
  body_faults s w (sort k ks) = key_faults (names s) (columns w) (k ∷ ks)
  body_faults s w (top t k) = number_faults s.text t ++ key_faults (names s) (columns w) (k ∷ [])
  body_faults s w (distinct n ns) = choices_faults s.text (columns w) true [] (n ∷ ns)
  body_faults s w (distinct_all t) = star_faults w t
  body_faults s w (summarize a more g) = group_faults s w (a ∷ more) (grouping_items g)
  body_faults s w (summarize_by g) = group_faults s w [] (g.0 ∷ g.1)
  body_faults s w (join kind q k ks) =
      tabular_faults s (next_stage w.progress) q
      ++ where_bound (tabular s (next_stage w.progress) q) (λ r. all_on_faults s.text (columns_at r.progress.steps w.input) (columns r) (k ∷ ks))
  body_faults s w (unite u) = union_faults s (next_stage w.progress) u
  body_faults s w (mv_expand i t) = typed_faults (names s) (columns w) ty.Dynamic (expression_of i) ++ typeof_faults s t

-- ---- lets and queries

-- the name of a let is tested where its right side binds
abbrev pub renamed_let : List ℕ → Letting → Name → List Fault
renamed_let text l n = if_so (is_let l (name_said text n)) (mistyped (name_place n))

abbrev pub scalar_faults : List ℕ → (List ℕ → Option Known) → Letting → Name → Tree → List Fault
scalar_faults text known l n e = where_bound (bound (names (scope_of text known l)) [] e) (λ x. renamed_let text l n) ++ faults_in (names (scope_of text known l)) [] e

abbrev pub rowed_faults : List ℕ → (List ℕ → Option Known) → Letting → Name → TabularTree → List Fault
rowed_faults text known l n q = where_bound (tabular (scope_of text known l) l.progress q) (λ w. renamed_let text l n) ++ tabular_faults (scope_of text known l) l.progress q

abbrev pub let_faults : List ℕ → (List ℕ → Option Known) → Letting → Name → Right Tree TabularTree → List Fault
let_faults text known l n (scalar e) = scalar_faults text known l n e
let_faults text known l n (tabular_alone q) = rowed_faults text known l n q
let_faults text known l n (either e q) = if is_tabular text known l (bare_name e) then rowed_faults text known l n q else scalar_faults text known l n e

abbrev pub lets_faults : List ℕ → (List ℕ → Option Known) → Letting → List LetTree → List Fault
lets_faults text known l [] = []
lets_faults text known l (x ∷ xs) = let_faults text known l x.name x.right ++ where_bound (let_made text known l x.name x.right) (λ m. lets_faults text known m xs)

abbrev pub query_faults : List ℕ → (List ℕ → Option Known) → QueryTree → List Fault
query_faults text known q =
    lets_faults text known nothing_let q.lets ++ where_bound (lets_made text known nothing_let q.lets) (λ l. tabular_faults (scope_of text known l) l.progress q.tabular)

-- a literal or a word of a type that isn't supported comes before all of them
abbrev pub first_unsupported : Option ℕ → List Fault
first_unsupported (Some at) = unsupported at ∷ []
first_unsupported None = []
