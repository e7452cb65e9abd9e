use Rattle.std.proofs.Common.{map, take}
use Rattle.kq_plan_expressions.specs.Terms.{chained, link_of, term_of}
use Rattle.kq_run_scan.specs.Lent.{extent_of, rows_of}
use Rattle.kq_run_scan.specs.Ruled.{IsJudged}
use Rattle.kq_run_scan.proofs.ruled.all_keep_none.Given as goal

abbrev pub invariant-loop-link : goal.invariant-loop-link
invariant-loop-link l = IsJudged (chained (term_of l.first) (map link_of (take l.link-index l.links))) (rows_of (extent_of l.records)) l.none
