use Rattle.std.proofs.Common.{map, ap, sym, subst, ◌∙◌, List}
use Rattle.kq_plan_expressions.specs.declared.expr.Expr.{Expr}
use Rattle.kq_plan_expressions.specs.declared.expr.Link.{Link}
use Rattle.kq_plan_expressions.specs.Terms.{Term, chained, link_of, term_of}
use Rattle.kq_plan_expressions.proofs.Chains.{term_of_chain}
use Rattle.kq_run_scan.specs.Lent.{extent_of, rows_of}
use Rattle.kq_run_scan.specs.Ruled.{KeepsNone}
use Rattle.kq_run_scan.proofs.ruled.keeps_none.Goals as goal

pub returns-in-Chain : goal.returns-in-Chain
returns-in-Chain c told =
    let rows = rows_of (extent_of c.args.records.now) in
    let first = ap (λ (e : Expr). chained (term_of e) (map link_of c.as_slice.result.now)) c.deref.ensures in
    let links = ap (λ (ls : List (Link Expr)). chained (term_of c.in-Chain.first.value) (map link_of ls)) c.as_slice.ensures.value in
    subst (λ (t : Term). KeepsNone t rows) (first ∙ links ∙ sym (ap term_of c.in-Chain.is ∙ term_of_chain c.in-Chain.first c.in-Chain.links)) (c.all_keep_none.ensures told)
