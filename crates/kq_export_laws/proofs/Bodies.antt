-- The body of a view is bound to the body of an export over its table, which asks for no moment.
use Rattle.std.proofs.Common.{◌≡◌, ℕ, Bool, true, false, not, cond, List, [], ◌∷◌, ◌++◌, Option, Some, None, Ok, refl}
use Rattle.std.specs.List.{All, list_any}
use Rattle.std.proofs.lemmas.List.Elements.{All-nil, All-cons}
use Rattle.kq_export_binder.specs.Bodies.{is_foreign, is_export_body, reads_other}
use Rattle.kq_view_body.specs.Bodies.{Part, table_name, summarize as summarize_part, foreign, is_steps, is_body}
use Rattle.kq_view_body.specs.Exports.{foreign_body, foreign_operators, foreign_tabular}
use Rattle.kq_view_body.specs.Moments.{or_later}
use Rattle.kq_view_body.specs.Parts.{foreign_at, lets_place, none, operator_parts, pipe_parts, query_parts}
use Rattle.kq_bind_query.specs.Queries.{query_bound}
use Rattle.kq_read_grammar.specs.Trees.{TabularTree, pipeline, table as table_source, nested, worded, Operators, no_operator, and_operator, BodyTree, filter, extend, project, project_away, project_rename, summarize, summarize_by, LetTree, QueryTree}
use Rattle.kq_policy_moments.specs.kq_catalog_journal.Moments.{step_asks}
use Rattle.kq_policy_moments.specs.kq_catalog_journal.PolicyBodies.{asks_moment}
use Rattle.kq_plan.specs.declared.names.NameKind.TheVariants as name
use Rattle.kq_plan.specs.Names.{Known}
use Rattle.kq_plan.specs.Plans.{Planned, Stepping}
use Rattle.kq_read_meanings.specs.Names.{name_said, name_place}
use Rattle.kq_read_tokens.specs.Bytes.{is_text}
use Rattle.kq_value.specs.declared.schema.Field.{Field}
use Rattle.kq_export_laws.proofs.Owned.{own_body}
use Rattle.kq_export_laws.proofs.Timeless.{left_false, right_false}

-- ---- the text

module _ (text table : List ℕ) where
  -- nothing foreign stands in any of its operators
  abbrev HasNone : Operators → Type 0
  HasNone bs = foreign_operators text table bs ≡ None

  behind : (b : BodyTree) (bs : Operators) → foreign_body text table b ≡ None → HasNone bs → or_later (foreign_body text table b) (foreign_operators text table bs) ≡ None
  behind b bs h k = by (foreign_body text table b) h where
    by : (o : Option ℕ) → o ≡ None → or_later o (foreign_operators text table bs) ≡ None
    by None e = k
    by (Some at) e = absurd (cc)

  row_parts : (o : Option ℕ) (ps : List Part) → is_steps (foreign_at o ++ ps) ≡ true → (o ≡ None) × (is_steps ps ≡ true)
  row_parts None ps h = (refl, h)
  row_parts (Some at) ps h = absurd (cc)

  row : (b : BodyTree) (bs : Operators) → is_steps (foreign_at (foreign_body text table b) ++ operator_parts text bs) ≡ true
      → (is_steps (operator_parts text bs) ≡ true → HasNone bs) → or_later (foreign_body text table b) (foreign_operators text table bs) ≡ None
  row b bs h more =
      let p = row_parts (foreign_body text table b) (operator_parts text bs) h in
      behind b bs p.0 (more p.1)

  last : (b : BodyTree) (bs : Operators) (at : ℕ) → is_steps (summarize_part at ∷ (foreign_at (foreign_body text table b) ++ operator_parts text bs)) ≡ true
      → or_later (foreign_body text table b) (foreign_operators text table bs) ≡ None
  last b bs at h = by (foreign_body text table b) bs h where
    by : (o : Option ℕ) (os : Operators) → is_steps (summarize_part at ∷ (foreign_at o ++ operator_parts text os)) ≡ true → or_later o (foreign_operators text table os) ≡ None
    by None no_operator g = refl
    by None (and_operator t c os) g = absurd (cc)
    by (Some m) os g = absurd (cc)

  steps : (bs : Operators) → is_steps (operator_parts text bs) ≡ true → HasNone bs
  steps no_operator h = absurd (cc)
  steps (and_operator t (filter e) bs) h = row (filter e) bs h (λ k. steps bs k)
  steps (and_operator t (extend i is) bs) h = row (extend i is) bs h (λ k. steps bs k)
  steps (and_operator t (project i is) bs) h = row (project i is) bs h (λ k. steps bs k)
  steps (and_operator t (project_away n ns) bs) h = row (project_away n ns) bs h (λ k. steps bs k)
  steps (and_operator t (project_rename q qs) bs) h = row (project_rename q qs) bs h (λ k. steps bs k)
  steps (and_operator t (summarize a more g) bs) h = last (summarize a more g) bs t.from h
  steps (and_operator t (summarize_by g) bs) h = last (summarize_by g) bs t.from h
  steps (and_operator t _ bs) h = absurd (cc)

  pipe : (t : TabularTree) → is_body (pipe_parts text table true t) ≡ true → foreign_tabular text table t ≡ None
  pipe (pipeline (table_source n) bs) h = by (is_text (name_said text n) table) h where
    by : (b : Bool) → is_body (cond b (table_name (name_place n)) (foreign (name_place n)) ∷ operator_parts text bs) ≡ true
        → or_later (cond {A = Option ℕ} b None (Some (name_place n))) (foreign_operators text table bs) ≡ None
    by true g = steps bs g
    by false g = absurd (cc)
  pipe (pipeline (nested t q) bs) h = absurd (cc)
  pipe (pipeline (worded t b) bs) h = absurd (cc)

  -- it has no lets, and nothing foreign
  query : (q : QueryTree) → is_body (query_parts text table q) ≡ true → (q.lets ≡ []) × (foreign_tabular text table q.tabular ≡ None)
  query q h = by q.lets q.tabular h where
    with_lets : (o : Option ℕ) (t : TabularTree) → is_body (foreign_at o ++ pipe_parts text table false t) ≡ true → ⊥
    with_lets (Some at) t g = cc
    with_lets None (pipeline o bs) g = cc

    by : (ls : List LetTree) (t : TabularTree) → is_body (foreign_at (lets_place text [] ls) ++ pipe_parts text table (none ls) t) ≡ true
        → (ls ≡ []) × (foreign_tabular text table t ≡ None)
    by [] t g = (refl, pipe t g)
    by (l ∷ ls) t g = absurd (with_lets (lets_place text [] (l ∷ ls)) t g)

-- ---- the plan

pub body_bound : (text table : List ℕ) (known : List ℕ → Option Known) (cs : List Field) (q : QueryTree) (p : Planned) → known table ≡ Some (name.Table, cs)
    → is_body (query_parts text table q) ≡ true → query_bound text known q ≡ Ok p → is_export_body table p ≡ true
body_bound text table known cs q p stands form bound = let own = query text table q form in own_body text table known cs stands q p own.0 own.1 bound

abbrev IsTimelessStep : Stepping → Type 0
IsTimelessStep s = asks_moment s ≡ false

steps_timeless : (table : List ℕ) (ss : List Stepping) → list_any (is_foreign table) ss ≡ false → All IsTimelessStep ss
steps_timeless table [] h = All-nil IsTimelessStep
steps_timeless table (s ∷ ss) h =
    All-cons IsTimelessStep s ss (right_false (reads_other table s.doing) (step_asks s.doing) (left_false (is_foreign table s) (list_any (is_foreign table) ss) h))
    (steps_timeless table ss (right_false (is_foreign table s) (list_any (is_foreign table) ss) h))

not_true : (b : Bool) → not b ≡ true → b ≡ false
not_true true e = absurd (cc)
not_true false e = refl

-- no step of the body of an export asks for the moment
pub body_timeless : (table : List ℕ) (p : Planned) → is_export_body table p ≡ true → All IsTimelessStep p.steps
body_timeless table p body = steps_timeless table p.steps (not_true (list_any (is_foreign table) p.steps) body)
