-- What rows come to over which a summarize behind row operators is asked.
use Rattle.std.specs.Prelude.{◌≡◌, ◌+◌, List, length, map}
use Rattle.kq_plan_expressions.specs.Terms.{term_of}
use Rattle.kq_run_scan.specs.kq_eval_pieces.Operators.{Row}
use Rattle.kq_plan.specs.Plans.{aggregating_of}
use Rattle.kq_run_scan.specs.kq_eval_row.Val.{surroundings}
use Rattle.kq_run_row_operators.specs.Operators.{rowwise_of}
use Rattle.kq_run_row_operators.specs.Ran.{Ran, ran}
use Rattle.kq_run_gather.specs.Arriving.{ArriveAs}
use Rattle.kq_run_gather.specs.Grouping.{all_made}
use Rattle.kq_run_gather.specs.declared.arriving.Arrived.{Arrived}
use Rattle.kq_run_gather.specs.declared.summarize.Summarize.{Summarize}

-- there is a column for each key, and those of the aggregates
abbrev pub IsAsked : Summarize → Type 0
IsAsked a = length a.columns.now ≡ length a.keys.now + all_made (map aggregating_of a.aggregates.now)

-- what its operators make of rows
abbrev pub ran_of : Summarize → List Row → Ran
ran_of a rows = ran (map rowwise_of a.operators.now) (surroundings a.moment a.lets.now) rows

-- what becomes of that
abbrev pub ComesAs : Summarize → Ran → Arrived → Type 0
ComesAs a = ArriveAs (map term_of a.keys.now) (map aggregating_of a.aggregates.now) a.columns.now (surroundings a.moment a.lets.now)

abbrev pub ComesOf : Summarize → List Row → Arrived → Type 0
ComesOf a rows = ComesAs a (ran_of a rows)
