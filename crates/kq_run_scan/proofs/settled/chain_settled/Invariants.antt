use Rattle.std.proofs.Common.{map, take}
use Rattle.kq_plan_expressions.specs.Terms.{chained, link_of, term_of}
use Rattle.kq_run_scan.specs.Settled.{MeansAs, seen}
use Rattle.kq_run_scan.proofs.settled.chain_settled.Given as goal

abbrev pub invariant-loop-link : goal.invariant-loop-link
invariant-loop-link l = MeansAs (seen l.around) (term_of l.chain) (chained (term_of l.first) (map link_of (take l.link-index l.links)))
