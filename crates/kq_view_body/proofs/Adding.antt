-- Each operator that a body may have adds one step, which takes the rows that come.
use Rattle.std.proofs.Common.{◌≡◌, ℕ, Bool, true, false, cond, List, [], ◌∷◌, map, Some, Ok, Err, refl}
use Rattle.kq_bind_query.specs.Pipes.{operated}
use Rattle.kq_bind_query.specs.kq_bind_aggregates.Gathered.{no_aggregate, aggregates_made}
use Rattle.kq_bind_query.specs.kq_bind_columns.Chosen.{chosen, without, names_given, renamed as fields_renamed}
use Rattle.kq_bind_query.specs.kq_bind_columns.Defaults.{first_token}
use Rattle.kq_bind_query.specs.kq_bind_columns.Items.{nothing_made, items_made}
use Rattle.kq_bind_query.specs.kq_bind_columns.Laying.{as_they_are, over}
use Rattle.kq_bind_expressions.specs.Bound.{bound}
use Rattle.kq_bind_expressions.specs.Verdicts.{Verdict, and_then, mistyped}
use Rattle.kq_bind_query.specs.kq_bind_operators.Clauses.{summarized_by, grouped, grouping_items}
use Rattle.kq_bind_query.specs.kq_bind_operators.Flows.{Flowing, columns, after, following}
use Rattle.kq_bind_query.specs.kq_bind_operators.Operators.{where_true, filtered, laid_after, projected, extended, dropped, new_name, old_name, renamed}
use Rattle.kq_bind_query.specs.kq_bind_operators.Scopes.{Scoping, names}
use Rattle.kq_view_body.specs.Bodies.{Part, table_name, row_operator, summarize as summarize_part, foreign}
use Rattle.kq_view_body.specs.Parts.{role_of, in_role}
use Rattle.kq_plan_expressions.specs.Terms.{Bound}
use Rattle.kq_bind_query.proofs.Progress.{then_ok, done, done_is}
use Rattle.kq_read_grammar.specs.declared.expression.Name.{Name}
use Rattle.kq_read_grammar.specs.Trees.{Tree, ItemTree, AggregateTree, BodyTree, filter, extend, project, project_away, project_rename, summarize, summarize_by}
use Rattle.kq_run_gather.specs.Bodies.{is_body_step, is_summarize}
use Rattle.kq_run_gather.specs.Steps.{flows_from}
use Rattle.kq_plan.specs.Plans.{Doing, kept, mapped, summarized}
use Rattle.kq_value.specs.declared.schema.Field.{Field}
use Rattle.kq_value.specs.declared.ty.Ty.TheVariants as ty
use Rattle.kq_value.specs.Ty.{same_ty}

-- one step more, of this kind, whose rows are made of those that came
pub record AddsOne (is : Doing → Bool) (w v : Flowing) : Type 0 where
  pub doing : Doing
  pub made : List Field
  pub so : following w.progress doing made ≡ v
  pub kind : is doing ≡ true
  pub takes : flows_from doing ≡ Some w.input

after_adds : (is : Doing → Bool) (w v : Flowing) (d : ℕ → Doing) (cs : List Field) → is (d w.input) ≡ true → flows_from (d w.input) ≡ Some w.input
    → done (after w d cs) ≡ Ok v → AddsOne is w v
after_adds is w v d cs kind takes e = record { doing = d w.input; made = cs; so = done_is (after w d cs) v e; kind = kind; takes = takes }

-- ---- row operators

abbrev AddsRow : Flowing → Flowing → Type 0
AddsRow = AddsOne is_body_step

where_adds : (w v : Flowing) (at : ℕ) (x : Bound) → where_true w at x ≡ Ok v → AddsRow w v
where_adds w v at x e = by (same_ty x.1 ty.Bool) e where
  by : (b : Bool) → cond {A = Verdict Flowing} b (done (after w (λ i. kept i x.0) (columns w))) (Err (mistyped at)) ≡ Ok v → AddsRow w v
  by true g = after_adds is_body_step w v (λ i. kept i x.0) (columns w) refl refl g
  by false g = absurd (cc)

filtered_adds : (s : Scoping) (w v : Flowing) (e : Tree) → filtered s w e ≡ Ok v → AddsRow w v
filtered_adds s w v e is =
    let x = then_ok (bound (names s) (columns w) e) (where_true w (first_token e)) v is in
    where_adds w v (first_token e) x.0 x.2

projected_adds : (s : Scoping) (w v : Flowing) (is : List ItemTree) → projected s w is ≡ Ok v → AddsRow w v
projected_adds s w v is e =
    let m = then_ok (items_made (names s) (columns w) [] false nothing_made is) (λ m. done (after w (λ i. mapped i m.terms) m.fields)) v e in
    after_adds is_body_step w v (λ i. mapped i m.0.terms) m.0.fields refl refl m.2

extended_adds : (s : Scoping) (w v : Flowing) (is : List ItemTree) → extended s w is ≡ Ok v → AddsRow w v
extended_adds s w v is e =
    let cs = columns w in
    let m = then_ok (items_made (names s) cs cs false nothing_made is) (λ m. done (laid_after w (over cs m))) v e in
    after_adds is_body_step w v (λ i. mapped i (over cs m.0).0) (over cs m.0).1 refl refl m.2

dropped_adds : (s : Scoping) (w v : Flowing) (ns : List Name) → dropped s w ns ≡ Ok v → AddsRow w v
dropped_adds s w v ns e =
    let is = then_ok (chosen s.text (columns w) false [] ns) (λ is. done (laid_after w (without 0 (columns w) is))) v e in
    let left = without 0 (columns w) is.0 in
    after_adds is_body_step w v (λ i. mapped i left.0) left.1 refl refl is.2

renamed_adds : (s : Scoping) (w v : Flowing) (ps : List (Name × Name)) → renamed s w ps ≡ Ok v → AddsRow w v
renamed_adds s w v ps e =
    let cs = columns w in
    let put = λ (is : List ℕ) (ns : List (List ℕ)). after w (λ i. mapped i (as_they_are 0 cs)) (fields_renamed 0 cs is ns) in
    let is = then_ok (chosen s.text cs false [] (map old_name ps))
    (λ is. and_then (names_given s.text (without 0 cs is).1 (map new_name ps)) (λ ns. done (put is ns))) v e in
    let ns = then_ok (names_given s.text (without 0 cs is.0).1 (map new_name ps)) (λ ns. done (put is.0 ns)) v is.2 in
    after_adds is_body_step w v (λ i. mapped i (as_they_are 0 cs)) (fields_renamed 0 cs is.0 ns.0) refl refl ns.2

-- ---- the summarize

grouped_adds : (s : Scoping) (w v : Flowing) (aggs : List AggregateTree) (is : List ItemTree) → grouped s w aggs is ≡ Ok v → AddsOne is_summarize w v
grouped_adds s w v aggs is e =
    let cs = columns w in
    let m = then_ok (items_made (names s) cs [] true nothing_made is)
    (λ m. and_then (aggregates_made (names s) cs m.fields (no_aggregate m.fields) aggs) (λ g. done (summarized_by w m.terms g))) v e in
    let g = then_ok (aggregates_made (names s) cs m.0.fields (no_aggregate m.0.fields) aggs) (λ g. done (summarized_by w m.0.terms g)) v m.2 in
    after_adds is_summarize w v (λ i. summarized i m.0.terms g.0.aggregates) g.0.fields refl refl g.2

-- ---- operators

-- what an operator adds, as its part says; nothing is claimed of those that no body has
abbrev pub Adds : Part → Flowing → Flowing → Type 0
Adds (table_name at) w v = Unit {0}
Adds (row_operator at) w v = AddsOne is_body_step w v
Adds (summarize_part at) w v = AddsOne is_summarize w v
Adds (foreign at) w v = Unit {0}

pub operated_adds : (s : Scoping) (w : Flowing) (b : BodyTree) (v : Flowing) (at : ℕ) → operated s w b ≡ Ok v → Adds (in_role (role_of b) at) w v
operated_adds s w (filter c) v at e = filtered_adds s w v c e
operated_adds s w (extend i is) v at e = extended_adds s w v (i ∷ is) e
operated_adds s w (project i is) v at e = projected_adds s w v (i ∷ is) e
operated_adds s w (project_away n ns) v at e = dropped_adds s w v (n ∷ ns) e
operated_adds s w (project_rename p ps) v at e = renamed_adds s w v (p ∷ ps) e
operated_adds s w (summarize a more g) v at e = grouped_adds s w v (a ∷ more) (grouping_items g) e
operated_adds s w (summarize_by g) v at e = grouped_adds s w v [] (g.0 ∷ g.1) e
operated_adds s w _ v at e = tt
