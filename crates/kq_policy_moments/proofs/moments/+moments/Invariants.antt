use Rattle.std.proofs.Common.{◌≡◌, ◌+◌, ◌*◌, drop, map}
use Rattle.std.specs.List.{list_any}
use Rattle.kq_catalog_journal.specs.Moments.{some_asks}
use Rattle.kq_policy_moments.specs.Links.{link_asks}
use Rattle.kq_policy_moments.proofs.moments.+moments.Given as goal
use Rattle.kq_plan_expressions.specs.Terms.{link_of, term_of, terms_of}

abbrev pub invariant-some_asks-loop-expr : goal.invariant-some_asks-loop-expr
invariant-some_asks-loop-expr l = some_asks (terms_of (map term_of l.fn.exprs.items)) ≡ some_asks (terms_of (map term_of (drop l.expr-index l.expr-items)))

abbrev pub invariant-some_link_asks-loop-link : goal.invariant-some_link_asks-loop-link
invariant-some_link_asks-loop-link l = list_any link_asks (map link_of l.fn.links.items) ≡ list_any link_asks (map link_of (drop l.link-index l.link-items))

-- ---- each function goes on with a part, or with the same and a lesser function

abbrev pub decreases-asks : goal.decreases-asks
decreases-asks l = 3 * goal.size-asks l

abbrev pub decreases-some_asks : goal.decreases-some_asks
decreases-some_asks l = 3 * goal.size-some_asks l + 1

abbrev pub decreases-some_link_asks : goal.decreases-some_link_asks
decreases-some_link_asks l = 3 * goal.size-some_link_asks l + 2

abbrev pub decreases-link_asks : goal.decreases-link_asks
decreases-link_asks l = 3 * goal.size-link_asks l + 1
