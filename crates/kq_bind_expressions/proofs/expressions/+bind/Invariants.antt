use Rattle.std.proofs.Common.{◌≡◌, ◌++◌, map, drop, Ok}
use Rattle.kq_bind_expressions.specs.Bound.{bounds, chained, walked}
use Rattle.kq_bind_expressions.specs.Names.{names_of}
use Rattle.kq_bind_expressions.specs.Verdicts.{and_then}
use Rattle.kq_bind_expressions.proofs.expressions.+bind.Given as goal
use Rattle.kq_plan_expressions.specs.Terms.{typed_of}
use Rattle.kq_read_grammar.specs.Views.{tree_of, trees_of, link_of, links_of, step_of, steps_of, precedence_of}

abbrev pub invariant-bind_all-loop-tree : goal.invariant-bind_all-loop-tree
invariant-bind_all-loop-tree l = bounds (names_of l.scope) l.columns (trees_of (map tree_of l.fn.trees.items)) ≡ and_then (bounds (names_of l.scope) l.columns (trees_of (map tree_of (drop l.tree-index l.tree-items)))) (λ xs. Ok (map typed_of l.given.items ++ xs))

abbrev pub invariant-bind_links-loop-link : goal.invariant-bind_links-loop-link
invariant-bind_links-loop-link l = chained (names_of l.scope) l.columns (precedence_of l.level) (typed_of l.fn.first) (links_of (map link_of l.fn.links.items)) ≡ chained (names_of l.scope) l.columns (precedence_of l.level) (typed_of l.left) (links_of (map link_of (drop l.link-index l.link-items)))

abbrev pub invariant-bind_steps-loop-step : goal.invariant-bind_steps-loop-step
invariant-bind_steps-loop-step l = walked (names_of l.scope) l.columns (typed_of l.fn.first) (steps_of (map step_of l.fn.steps.items)) ≡ walked (names_of l.scope) l.columns (typed_of l.from) (steps_of (map step_of (drop l.step-index l.step-items)))
