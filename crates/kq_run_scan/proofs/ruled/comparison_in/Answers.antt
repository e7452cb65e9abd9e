use Rattle.std.proofs.Common.{◌≡◌, ◌∷◌, [], map, ap, sym, ◌∙◌}
use Rattle.kq_plan_expressions.specs.Terms.{column, literal, term_of}
use Rattle.kq_run_scan.specs.Ruled.{Compares}
use Rattle.kq_run_scan.specs.declared.ruled.Comparison.{Comparison}
use Rattle.kq_run_scan.proofs.LeftOut.{IfSome-then, compares}
use Rattle.kq_run_scan.proofs.ruled.comparison_in.Goals as goal

pub returns-in-Some : goal.returns-in-Some
returns-in-Some c =
    let given = ap (map term_of) c.as_slice.ensures.value in
    IfSome-then (λ (x : Comparison). (x.op ≡ c.in-Some.op) × (map term_of c.as_slice.result.now ≡ column x.column ∷ literal x.value.now ∷ [])) (Compares (term_of c.args.condition.now)) c.compared.result
    (λ x two. compares c.args.condition.now c.in-Call.function c.in-Some.op c.in-Call.args x c.in-Call.is c.in-Some.ensures two.0 (sym given ∙ two.1)) c.compared.ensures
