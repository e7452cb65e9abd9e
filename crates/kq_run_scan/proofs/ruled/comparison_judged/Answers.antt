use Rattle.kq_plan_expressions.specs.Terms.{term_of}
use Rattle.kq_run_scan.specs.Lent.{extent_of, rows_of}
use Rattle.kq_run_scan.proofs.Conjunct.{judged_one}
use Rattle.kq_run_scan.proofs.ruled.comparison_judged.Goals as goal

pub returns-in-Some : goal.returns-in-Some
returns-in-Some c = judged_one (term_of c.args.condition.now) c.in-Some.comparison (rows_of (extent_of c.args.records.now)) c.meet_none.result c.in-Some.ensures c.meet_none.ensures
