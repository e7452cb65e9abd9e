use Rattle.std.proofs.Common.{◌≡◌, map, drop}
use Rattle.kq_bind_expressions.specs.Unsupported.{unsupported_among, unsupported_links, unsupported_steps}
use Rattle.kq_bind_expressions.proofs.literals.+unsupported.Given as goal
use Rattle.kq_read_grammar.specs.Views.{tree_of, trees_of, link_of, links_of, step_of, steps_of}

abbrev pub invariant-among-loop-tree : goal.invariant-among-loop-tree
invariant-among-loop-tree l = unsupported_among l.text (trees_of (map tree_of l.fn.trees.items)) ≡ unsupported_among l.text (trees_of (map tree_of (drop l.tree-index l.tree-items)))

abbrev pub invariant-in_links-loop-link : goal.invariant-in_links-loop-link
invariant-in_links-loop-link l = unsupported_links l.text (links_of (map link_of l.fn.links.items)) ≡ unsupported_links l.text (links_of (map link_of (drop l.link-index l.link-items)))

abbrev pub invariant-in_steps-loop-step : goal.invariant-in_steps-loop-step
invariant-in_steps-loop-step l = unsupported_steps l.text (steps_of (map step_of l.fn.steps.items)) ≡ unsupported_steps l.text (steps_of (map step_of (drop l.step-index l.step-items)))
