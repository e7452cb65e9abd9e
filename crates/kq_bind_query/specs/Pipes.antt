-- What a pipe is bound to: one line for each form of the grammar.
use Rattle.std.specs.Prelude.{ℕ, ◌+◌, List, [], ◌∷◌, ◌++◌, Option, Ok}
use Rattle.kq_bind_operators.specs.Flows.{Progressing, Flowing, after, next_stage}
use Rattle.kq_bind_operators.specs.Clauses.{bind_range, table_rows, sorted_by, topped_by, grouped, grouping_items, bind_mv_expand, joined_on, all_together}
use Rattle.kq_bind_operators.specs.Operators.{printed_row, filtered, taken, count_column, projected, extended, dropped, renamed, bind_distinct, all_distinct}
use Rattle.kq_bind_operators.specs.Scopes.{Scoping, source_named, part_named}
use Rattle.kq_bind_operators.specs.kq_bind_clauses.Joins.{join_kind}
use Rattle.kq_bind_expressions.specs.Verdicts.{Verdict, and_then}
use Rattle.kq_read_grammar.specs.Trees.{TabularTree, pipeline, SourceTree, table, nested, worded, FromTree, view, print, range, datatable, union, UnionTree, arms, ArmTree, named_arm, nested_arm, Arms, no_arm, and_arm, Operators, no_operator, and_operator, BodyTree, filter, extend, project, project_away, project_rename, take, count, sort, top, distinct, distinct_all, summarize, summarize_by, join, unite, mv_expand}
use Rattle.kq_plan.specs.Plans.{counted}
use Rattle.kq_read_symbols.specs.declared.kind.Symbol.{Symbol}

abbrev mutual
  pub tabular : Scoping → Progressing → TabularTree → Verdict Flowing
  tabular s p (pipeline o bs) = and_then (sourced s p o) (λ w. piped s w bs)

  pub sourced : Scoping → Progressing → SourceTree → Verdict Flowing
  sourced s p (table n) = source_named s p n
  sourced s p (nested t q) = tabular s p q
  sourced s p (worded t b) = from_word s p t b

  pub from_word : Scoping → Progressing → Symbol → FromTree → Verdict Flowing
  from_word s p t (view v) = part_named s p v
  from_word s p t (print i is) = printed_row s p (i ∷ is)
  from_word s p t (range n a b c) = bind_range s p n a b c
  from_word s p t (datatable c cs ls) = table_rows s p t.from (c ∷ cs) ls
  from_word s p t (union u) = united_with s (p.stages + 1) (next_stage p) [] u

  -- the rows of these steps with those of the arms; the stage stands before those of the arms, the step behind them
  pub united_with : Scoping → ℕ → Progressing → List ℕ → UnionTree → Verdict Flowing
  united_with s stage p is (arms kind a more) = and_then (armed s p a) (λ w. gathered s stage kind w.progress (is ++ w.input ∷ []) more)

  pub gathered : Scoping → ℕ → Option Symbol → Progressing → List ℕ → Arms → Verdict Flowing
  gathered s stage kind p is no_arm = Ok (all_together stage kind p is)
  gathered s stage kind p is (and_arm a more) = and_then (armed s p a) (λ w. gathered s stage kind w.progress (is ++ w.input ∷ []) more)

  pub armed : Scoping → Progressing → ArmTree → Verdict Flowing
  armed s p (named_arm n) = source_named s p n
  armed s p (nested_arm t q) = tabular s p q

  pub piped : Scoping → Flowing → Operators → Verdict Flowing
  piped s w no_operator = Ok w
  piped s w (and_operator t b bs) = and_then (operated s w b) (λ v. piped s v bs)

  pub operated : Scoping → Flowing → BodyTree → Verdict Flowing
  operated s w (filter e) = filtered s w e
  operated s w (extend i is) = extended s w (i ∷ is)
  operated s w (project i is) = projected s w (i ∷ is)
  operated s w (project_away n ns) = dropped s w (n ∷ ns)
  operated s w (project_rename q qs) = renamed s w (q ∷ qs)
  operated s w (take t) = taken s w t
  operated s w count = Ok (after w counted count_column)
  operated s w (sort k ks) = sorted_by s w (k ∷ ks)
  operated s w (top t k) = topped_by s w t k
  operated s w (distinct n ns) = bind_distinct s w (n ∷ ns)
  operated s w (distinct_all t) = all_distinct w t
  operated s w (summarize a more g) = grouped s w (a ∷ more) (grouping_items g)
  operated s w (summarize_by g) = grouped s w [] (g.0 ∷ g.1)
  -- the stage of a join stands before those of its right side, its step behind them
  operated s w (join kind q k ks) = and_then (tabular s (next_stage w.progress) q) (λ r. joined_on s (w.progress.stages + 1) w.input (join_kind kind) r (k ∷ ks))
  operated s w (unite u) = united_with s (w.progress.stages + 1) (next_stage w.progress) (w.input ∷ []) u
  operated s w (mv_expand i t) = bind_mv_expand s w i t
