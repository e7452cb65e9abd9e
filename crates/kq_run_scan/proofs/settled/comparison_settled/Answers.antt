use Rattle.std.proofs.Common.{List, map, subst}
use Rattle.kq_plan_expressions.specs.declared.expr.Expr.{Expr}
use Rattle.kq_plan_expressions.specs.Terms.{term_of}
use Rattle.kq_run_scan.specs.Settled.{MeanAs, seen}
use Rattle.kq_run_scan.proofs.Settling.{all_settled, call_settled}
use Rattle.kq_run_scan.proofs.settled.comparison_settled.Goals as goal

pub returns-in-Some : goal.returns-in-Some
returns-in-Some c =
    let s = seen c.args.around in
    let settled = c.in-Some.settled in
    let all = all_settled s (map term_of c.as_slice.result.now) c.in_ok-settled-in-Call.field-0 settled c.in_ok-settled-in-Call.ensures c.in-Some.is in
    call_settled s c.args.condition.now c.in-Call.function c.in-Call.args settled c.in-Call.is
    (subst (λ (es : List Expr). MeanAs s (map term_of settled.items) (map term_of es)) c.as_slice.ensures.value all)
