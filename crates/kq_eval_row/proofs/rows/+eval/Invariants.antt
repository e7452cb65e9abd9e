use Rattle.std.proofs.Common.{◌≡◌, ◌++◌, ◌+◌, ◌-◌, ◌*◌, ◌≤◌, drop, map, length}
use Rattle.kq_value.specs.Computed.{Is, and_then}
use Rattle.kq_plan_expressions.specs.Terms.{mapped}
use Rattle.kq_eval_row.specs.Val.{val, values, first_chosen, first_present, links_at}
use Rattle.kq_eval_row.specs.Seen.{seen}
use Rattle.kq_eval_row.proofs.rows.+eval.Given as goal

-- the values of all are those that were found, and then those of the rest
abbrev pub invariant-eval_all-loop-expr : goal.invariant-eval_all-loop-expr
invariant-eval_all-loop-expr l =
    values (map val l.fn.exprs.items) (seen l.around) l.row ≡ and_then (values (map val (drop l.expr-index l.expr-items)) (seen l.around) l.row) (λ vs. Is (l.values.items ++ vs))

-- no test so far was true
abbrev pub invariant-eval_chosen-loop-i : goal.invariant-eval_chosen-loop-i
invariant-eval_chosen-loop-i l =
    (l.i ≤ length l.exprs.items) × (first_chosen (map val l.exprs.items) (seen l.around) l.row ≡ first_chosen (map val (drop l.i l.exprs.items)) (seen l.around) l.row)

abbrev pub decreases-eval_chosen-loop-i : goal.decreases-eval_chosen-loop-i
decreases-eval_chosen-loop-i l = length l.exprs.items - l.i

-- no value so far was there
abbrev pub invariant-eval_present-loop-i : goal.invariant-eval_present-loop-i
invariant-eval_present-loop-i l = first_present (map val l.exprs.items) (seen l.around) l.row ≡ first_present (map val (drop l.i l.exprs.items)) (seen l.around) l.row

-- what the rest of the links make of the value so far is what all make of the first
abbrev pub invariant-eval_links-loop-link : goal.invariant-eval_links-loop-link
invariant-eval_links-loop-link l =
    links_at (map (mapped val) l.fn.links.items) (seen l.around) l.row l.fn.first ≡ links_at (map (mapped val) (drop l.link-index l.link-items)) (seen l.around) l.row l.value

-- ---- each function goes on with a part, or with the same and a lesser function

abbrev pub decreases-eval_around : goal.decreases-eval_around
decreases-eval_around l = 3 * goal.size-eval_around l

abbrev pub decreases-eval_links : goal.decreases-eval_links
decreases-eval_links l = 3 * goal.size-eval_links l + 2

abbrev pub decreases-eval_link : goal.decreases-eval_link
decreases-eval_link l = 3 * goal.size-eval_link l + 1

abbrev pub decreases-eval_all : goal.decreases-eval_all
decreases-eval_all l = 3 * goal.size-eval_all l + 1

abbrev pub decreases-eval_chosen : goal.decreases-eval_chosen
decreases-eval_chosen l = 3 * goal.size-eval_chosen l + 2

abbrev pub decreases-is_chosen : goal.decreases-is_chosen
decreases-is_chosen l = 3 * goal.size-is_chosen l + 1

abbrev pub decreases-eval_present : goal.decreases-eval_present
decreases-eval_present l = 3 * goal.size-eval_present l + 1
