use Rattle.std.proofs.Common.{◌≡◌, ◌+◌, ◌*◌, drop, map}
use Rattle.std.specs.List.{list_any}
use Rattle.kq_plan_expressions.specs.Terms.{link_of, term_of, terms_of}
use Rattle.kq_run_scan.specs.Constant.{link_reads, some_reads}
use Rattle.kq_run_scan.proofs.constant.+reads.Given as goal

abbrev pub invariant-some_reads-loop-expr : goal.invariant-some_reads-loop-expr
invariant-some_reads-loop-expr l = some_reads (terms_of (map term_of l.fn.exprs.items)) ≡ some_reads (terms_of (map term_of (drop l.expr-index l.expr-items)))

abbrev pub invariant-some_link_reads-loop-link : goal.invariant-some_link_reads-loop-link
invariant-some_link_reads-loop-link l = list_any link_reads (map link_of l.fn.links.items) ≡ list_any link_reads (map link_of (drop l.link-index l.link-items))

-- ---- each function goes on with a part, or with the same and a lesser function

abbrev pub decreases-reads : goal.decreases-reads
decreases-reads l = 3 * goal.size-reads l

abbrev pub decreases-some_reads : goal.decreases-some_reads
decreases-some_reads l = 3 * goal.size-some_reads l + 1

abbrev pub decreases-some_link_reads : goal.decreases-some_link_reads
decreases-some_link_reads l = 3 * goal.size-some_link_reads l + 2

abbrev pub decreases-link_reads : goal.decreases-link_reads
decreases-link_reads l = 3 * goal.size-link_reads l + 1
