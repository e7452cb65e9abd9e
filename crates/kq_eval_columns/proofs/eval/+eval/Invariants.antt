use Rattle.std.proofs.Common.{◌≡◌, ◌≤◌, ◌+◌, ◌-◌, ◌*◌, drop, map, length}
use Rattle.kq_value.specs.Computed.{Is, and_then}
use Rattle.kq_plan_expressions.specs.Terms.{mapped}
use Rattle.kq_store_column_view.specs.Vectors.{cells_of}
use Rattle.kq_eval_columns.specs.Over.{over, values_over, chosen_over, present_over, given, chained_over}
use Rattle.kq_eval_columns.specs.Seen.{seen, rows_in, fronted, merged_by}
use Rattle.kq_eval_columns.proofs.eval.+eval.Given as goal

-- the columns of the arguments so far stand in front of those of the rest
abbrev pub invariant-eval_all-loop-expr : goal.invariant-eval_all-loop-expr
invariant-eval_all-loop-expr l =
    let rows = rows_in l.piece l.places in
    values_over (map over l.fn.exprs.items) (seen l.piece) rows ≡ and_then (values_over (map over (drop l.expr-index l.expr-items)) (seen l.piece) rows) (λ rs. Is (fronted l.vectors.items rs))

-- what the rest gives of the rows that are left, behind the branches so far, is the whole
abbrev pub invariant-eval_chosen-loop-i : goal.invariant-eval_chosen-loop-i
invariant-eval_chosen-loop-i l =
    (l.i ≤ length l.exprs.items)
    × (chosen_over (map over l.exprs.items) (seen l.piece) (rows_in l.piece l.places)
    ≡ and_then (chosen_over (map over (drop l.i l.exprs.items)) (seen l.piece) (rows_in l.piece l.left.items)) (λ zs. Is (merged_by l.branches.items zs)))

abbrev pub decreases-eval_chosen-loop-i : goal.decreases-eval_chosen-loop-i
decreases-eval_chosen-loop-i l = length l.exprs.items - l.i

abbrev pub invariant-eval_present-loop-i : goal.invariant-eval_present-loop-i
invariant-eval_present-loop-i l =
    (l.i ≤ length l.exprs.items)
    × (present_over (map over l.exprs.items) (seen l.piece) (rows_in l.piece l.places)
    ≡ and_then (present_over (map over (drop l.i l.exprs.items)) (seen l.piece) (rows_in l.piece l.left.items)) (λ zs. Is (merged_by l.branches.items zs)))

abbrev pub decreases-eval_present-loop-i : goal.decreases-eval_present-loop-i
decreases-eval_present-loop-i l = length l.exprs.items - l.i

-- what the rest of the links make of the values so far is what all make of the first
abbrev pub invariant-eval_links-loop-link : goal.invariant-eval_links-loop-link
invariant-eval_links-loop-link l =
    let rows = rows_in l.piece l.places in
    chained_over (given (cells_of l.fn.first)) (map (mapped over) l.fn.links.items) (seen l.piece) rows ≡ chained_over (given (cells_of l.values)) (map (mapped over) (drop l.link-index l.link-items)) (seen l.piece) rows

-- ---- each function goes on with a part, or with the same and a lesser function

abbrev pub decreases-eval_over : goal.decreases-eval_over
decreases-eval_over l = 8 * goal.size-eval_over l

abbrev pub decreases-eval_call : goal.decreases-eval_call
decreases-eval_call l = 8 * goal.size-eval_call l + 7

abbrev pub decreases-eval_links : goal.decreases-eval_links
decreases-eval_links l = 8 * goal.size-eval_links l + 7

abbrev pub decreases-eval_link : goal.decreases-eval_link
decreases-eval_link l = 8 * goal.size-eval_link l + 6

abbrev pub decreases-eval_chosen : goal.decreases-eval_chosen
decreases-eval_chosen l = 8 * goal.size-eval_chosen l + 6

abbrev pub decreases-eval_present : goal.decreases-eval_present
decreases-eval_present l = 8 * goal.size-eval_present l + 6

abbrev pub decreases-eval_member : goal.decreases-eval_member
decreases-eval_member l = 8 * goal.size-eval_member l + 6

abbrev pub decreases-eval_applied : goal.decreases-eval_applied
decreases-eval_applied l = 8 * goal.size-eval_applied l + 5

abbrev pub decreases-eval_split : goal.decreases-eval_split
decreases-eval_split l = 8 * goal.size-eval_split l + 5

abbrev pub decreases-eval_rest : goal.decreases-eval_rest
decreases-eval_rest l = 8 * goal.size-eval_rest l + 5

abbrev pub decreases-eval_last : goal.decreases-eval_last
decreases-eval_last l = 8 * goal.size-eval_last l + 4

abbrev pub decreases-eval_all : goal.decreases-eval_all
decreases-eval_all l = 8 * goal.size-eval_all l + 4

abbrev pub decreases-eval_tests : goal.decreases-eval_tests
decreases-eval_tests l = 8 * goal.size-eval_tests l + 4

abbrev pub decreases-eval_branch : goal.decreases-eval_branch
decreases-eval_branch l = 8 * goal.size-eval_branch l + 4
