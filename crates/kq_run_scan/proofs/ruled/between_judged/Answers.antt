use Rattle.std.proofs.Common.{map, subst}
use Rattle.kq_plan_expressions.specs.Terms.{call, term_of, terms_of}
use Rattle.kq_plan_functions.specs.declared.function.Function.TheVariants as f
use Rattle.kq_run_scan.specs.Lent.{extent_of, rows_of}
use Rattle.kq_run_scan.specs.Ruled.{IsJudged}
use Rattle.kq_run_scan.proofs.Conjunct.{ends_judged, first_of, second_of}
use Rattle.kq_run_scan.proofs.ruled.between_judged.Goals as goal

pub returns-then-none : goal.returns-then-none
returns-then-none c =
    let args = map term_of c.args.args.now in
    let rows = rows_of (extent_of c.args.records.now) in
    let none = c.meet_none-none.result in
    let more = c.meet_none-more.result in
    subst (IsJudged (call f.Between (terms_of args)) rows) (first_of none more c.if-none.true)
    (ends_judged args c.in_ok-low.low c.in_ok-low.high rows none more c.in_ok-low.ensures c.meet_none-none.ensures c.meet_none-more.ensures)

pub returns-else-none : goal.returns-else-none
returns-else-none c =
    let args = map term_of c.args.args.now in
    let rows = rows_of (extent_of c.args.records.now) in
    let none = c.meet_none-none.result in
    let more = c.meet_none-more.result in
    subst (IsJudged (call f.Between (terms_of args)) rows) (second_of none more c.if-none.false)
    (ends_judged args c.in_ok-low.low c.in_ok-low.high rows none more c.in_ok-low.ensures c.meet_none-none.ensures c.meet_none-more.ensures)
