-- Each form of a pipe adds steps that fit.
use Rattle.std.proofs.Common.{◌≡◌, ℕ, ◌+◌, List, [], ◌∷◌, ◌++◌, All, Option, Ok, subst}
use Rattle.std.proofs.lemmas.List.Elements.{All-nil, All-cons, All-push, All-weaker}
use Rattle.kq_bind_query.specs.kq_bind_operators.Clauses.{grouping_items, joined_on, all_together}
use Rattle.kq_bind_query.specs.kq_bind_operators.Flows.{Progressing, Flowing, after, next_stage}
use Rattle.kq_bind_query.specs.kq_bind_operators.Operators.{count_column}
use Rattle.kq_bind_query.specs.Pipes.{tabular, sourced, from_word, united_with, gathered, armed, piped, operated}
use Rattle.kq_bind_query.specs.kq_bind_operators.Scopes.{Scoping}
use Rattle.kq_bind_clauses.specs.Joins.{join_kind}
use Rattle.kq_read_grammar.specs.Trees.{TabularTree, pipeline, SourceTree, table, nested, worded, FromTree, view, print, range, datatable, union, UnionTree, arms, ArmTree, named_arm, nested_arm, Arms, no_arm, and_arm, Operators, no_operator, and_operator, BodyTree, filter, extend, project, project_away, project_rename, take, count, sort, top, distinct, distinct_all, summarize, summarize_by, join, unite, mv_expand}
use Rattle.kq_plan.specs.Plans.{Stepping, counted}
use Rattle.kq_read_symbols.specs.declared.kind.Symbol.{Symbol}
use Rattle.kq_bind_query.proofs.Progress.{then_ok, done_is, IsGiven, Kept, given_kept, Holds, Goes}
use Rattle.kq_bind_query.proofs.Clauses.{sorted_goes, topped_goes, range_goes, parts_goes}
use Rattle.kq_bind_query.proofs.Groups.{grouped_goes}
use Rattle.kq_bind_query.proofs.Operators.{printed_row_goes, filtered_goes, taken_goes, counted_goes, projected_goes, extended_goes, dropped_goes, renamed_goes, distinct_goes, all_distinct_goes}
use Rattle.kq_bind_query.proofs.Several.{joined_goes, together_goes}
use Rattle.kq_bind_query.proofs.Sources.{part_named_goes, source_goes}
use Rattle.kq_bind_query.proofs.Tables.{table_goes}

-- ---- one thing after another

abbrev AreGiven : List Stepping → List ℕ → Type 0
AreGiven ss is = All (IsGiven ss) is

kept_further : (a b c : List Stepping) → Kept a b → Kept b c → Kept a c
kept_further a b c h k i cs e = k i cs (h i cs e)

goes_further : (s : Scoping) (ss before : List Stepping) (v : Flowing) → Kept ss before → Goes s before v → Goes s ss v
goes_further s ss before v kept g = record { holds = g.holds; rows = g.rows; kept = kept_further ss before v.progress.steps kept g.kept }

-- the rows of these steps, and those of one arm more
given_more : (s : Scoping) (ss : List Stepping) (is : List ℕ) (w : Flowing) → AreGiven ss is → Goes s ss w → AreGiven w.progress.steps (is ++ w.input ∷ [])
given_more s ss is w h g =
    All-push (IsGiven w.progress.steps) is w.input
    (All-weaker (IsGiven ss) (IsGiven w.progress.steps) (λ i e. given_kept ss w.progress.steps i g.kept e) is h) g.rows

-- ---- pipes

mutual
  pub tabular_goes : (s : Scoping) (p : Progressing) (q : TabularTree) (v : Flowing) → Holds s p.steps → tabular s p q ≡ Ok v → Goes s p.steps v
  tabular_goes s p (pipeline o bs) v h e =
      let w = then_ok (sourced s p o) (λ w. piped s w bs) v e in
      piped_goes s p.steps w.0 bs v (sourced_goes s p o w.0 h w.1) w.2

  sourced_goes : (s : Scoping) (p : Progressing) (o : SourceTree) (v : Flowing) → Holds s p.steps → sourced s p o ≡ Ok v → Goes s p.steps v
  sourced_goes s p (table n) v h e = source_goes s p n v h e
  sourced_goes s p (nested t q) v h e = tabular_goes s p q v h e
  sourced_goes s p (worded t b) v h e = from_goes s p t b v h e

  from_goes : (s : Scoping) (p : Progressing) (t : Symbol) (b : FromTree) (v : Flowing) → Holds s p.steps → from_word s p t b ≡ Ok v → Goes s p.steps v
  from_goes s p t (view n) v h e = part_named_goes s p n v h e
  from_goes s p t (print i is) v h e = printed_row_goes s p (i ∷ is) v h e
  from_goes s p t (range n a b c) v h e = range_goes s p n a b c v h e
  from_goes s p t (datatable c cs ls) v h e = table_goes s p t.from (c ∷ cs) ls v h e
  from_goes s p t (union u) v h e = united_goes s p.steps (p.stages + 1) (next_stage p) [] u v h (λ i cs g. g) (All-nil (IsGiven p.steps)) e

  united_goes : (s : Scoping) (ss : List Stepping) (stage : ℕ) (p : Progressing) (is : List ℕ) (u : UnionTree) (v : Flowing) → Holds s p.steps
      → Kept ss p.steps → AreGiven p.steps is → united_with s stage p is u ≡ Ok v → Goes s ss v
  united_goes s ss stage p is (arms kind a more) v h kept given e =
      let w = then_ok (armed s p a) (λ w. gathered s stage kind w.progress (is ++ w.input ∷ []) more) v e in
      let g = armed_goes s p a w.0 h w.1 in
      gathered_goes s ss stage kind w.0.progress (is ++ w.0.input ∷ []) more v g.holds (kept_further ss p.steps w.0.progress.steps kept g.kept)
      (given_more s p.steps is w.0 given g) w.2

  gathered_goes : (s : Scoping) (ss : List Stepping) (stage : ℕ) (kind : Option Symbol) (p : Progressing) (is : List ℕ) (more : Arms) (v : Flowing)
      → Holds s p.steps → Kept ss p.steps → AreGiven p.steps is → gathered s stage kind p is more ≡ Ok v → Goes s ss v
  gathered_goes s ss stage kind p is no_arm v h kept given e =
      subst (Goes s ss) (done_is (all_together stage kind p is) v e) (together_goes s ss stage kind p is h kept given)
  gathered_goes s ss stage kind p is (and_arm a more) v h kept given e =
      let w = then_ok (armed s p a) (λ w. gathered s stage kind w.progress (is ++ w.input ∷ []) more) v e in
      let g = armed_goes s p a w.0 h w.1 in
      gathered_goes s ss stage kind w.0.progress (is ++ w.0.input ∷ []) more v g.holds (kept_further ss p.steps w.0.progress.steps kept g.kept)
      (given_more s p.steps is w.0 given g) w.2

  armed_goes : (s : Scoping) (p : Progressing) (a : ArmTree) (v : Flowing) → Holds s p.steps → armed s p a ≡ Ok v → Goes s p.steps v
  armed_goes s p (named_arm n) v h e = source_goes s p n v h e
  armed_goes s p (nested_arm t q) v h e = tabular_goes s p q v h e

  piped_goes : (s : Scoping) (ss : List Stepping) (w : Flowing) (bs : Operators) (v : Flowing) → Goes s ss w → piped s w bs ≡ Ok v → Goes s ss v
  piped_goes s ss w no_operator v g e = subst (Goes s ss) (done_is w v e) g
  piped_goes s ss w (and_operator t b bs) v g e =
      let u = then_ok (operated s w b) (λ u. piped s u bs) v e in
      piped_goes s ss u.0 bs v (operated_goes s ss w b u.0 g u.1) u.2

  operated_goes : (s : Scoping) (ss : List Stepping) (w : Flowing) (b : BodyTree) (v : Flowing) → Goes s ss w → operated s w b ≡ Ok v → Goes s ss v
  operated_goes s ss w (filter c) v g e = filtered_goes s ss w v c g e
  operated_goes s ss w (extend i is) v g e = extended_goes s ss w v (i ∷ is) g e
  operated_goes s ss w (project i is) v g e = projected_goes s ss w v (i ∷ is) g e
  operated_goes s ss w (project_away n ns) v g e = dropped_goes s ss w v (n ∷ ns) g e
  operated_goes s ss w (project_rename q qs) v g e = renamed_goes s ss w v (q ∷ qs) g e
  operated_goes s ss w (take t) v g e = taken_goes s ss w v t g e
  operated_goes s ss w count v g e = subst (Goes s ss) (done_is (after w counted count_column) v e) (counted_goes s ss w g)
  operated_goes s ss w (sort k ks) v g e = sorted_goes s ss w v (k ∷ ks) g e
  operated_goes s ss w (top t k) v g e = topped_goes s ss w v t k g e
  operated_goes s ss w (distinct n ns) v g e = distinct_goes s ss w v (n ∷ ns) g e
  operated_goes s ss w (distinct_all t) v g e = all_distinct_goes s ss w v t g e
  operated_goes s ss w (summarize a more keys) v g e = grouped_goes s ss w v (a ∷ more) (grouping_items keys) g e
  operated_goes s ss w (summarize_by keys) v g e = grouped_goes s ss w v [] (keys.0 ∷ keys.1) g e
  operated_goes s ss w (join kind q k ks) v g e =
      let r = then_ok (tabular s (next_stage w.progress) q) (λ r. joined_on s (w.progress.stages + 1) w.input (join_kind kind) r (k ∷ ks)) v e in
      let right = tabular_goes s (next_stage w.progress) q r.0 g.holds r.1 in
      let given = given_kept w.progress.steps r.0.progress.steps w.input right.kept g.rows in
      joined_goes s ss (w.progress.stages + 1) w.input (join_kind kind) r.0 v (k ∷ ks) (goes_further s ss w.progress.steps r.0 g.kept right) given r.2
  operated_goes s ss w (unite u) v g e =
      united_goes s ss (w.progress.stages + 1) (next_stage w.progress) (w.input ∷ []) u v g.holds g.kept
      (All-cons (IsGiven w.progress.steps) w.input [] g.rows (All-nil (IsGiven w.progress.steps))) e
  operated_goes s ss w (mv_expand i t) v g e = parts_goes s ss w v i t g e
