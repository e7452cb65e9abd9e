use Rattle.std.proofs.Common.{◌≡◌, map, drop}
use Rattle.kq_view_body.specs.Moments.{moment_among, moment_in_links, moment_at_steps}
use Rattle.kq_view_body.proofs.moments.+moments.Given as goal
use Rattle.kq_read_grammar.specs.Views.{tree_of, trees_of, link_of, links_of, step_of, steps_of}

abbrev pub invariant-among-loop-tree : goal.invariant-among-loop-tree
invariant-among-loop-tree l = moment_among l.text (trees_of (map tree_of l.fn.trees.items)) ≡ moment_among l.text (trees_of (map tree_of (drop l.tree-index l.tree-items)))

abbrev pub invariant-in_links-loop-link : goal.invariant-in_links-loop-link
invariant-in_links-loop-link l = moment_in_links l.text (links_of (map link_of l.fn.links.items)) ≡ moment_in_links l.text (links_of (map link_of (drop l.link-index l.link-items)))

abbrev pub invariant-at_steps-loop-step : goal.invariant-at_steps-loop-step
invariant-at_steps-loop-step l = moment_at_steps l.text (steps_of (map step_of l.fn.steps.items)) ≡ moment_at_steps l.text (steps_of (map step_of (drop l.step-index l.step-items)))
