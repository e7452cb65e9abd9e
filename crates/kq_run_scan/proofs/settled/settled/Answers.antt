use Rattle.std.proofs.Common.{map, ap, sym, subst, ◌∙◌, List}
use Rattle.kq_plan_expressions.specs.declared.expr.Expr.{Expr}
use Rattle.kq_plan_expressions.specs.declared.expr.Link.{Link}
use Rattle.kq_plan_expressions.specs.Terms.{Term, chained, link_of, term_of}
use Rattle.kq_plan_expressions.proofs.Chains.{term_of_chain}
use Rattle.kq_run_scan.specs.Settled.{SettlesTo, seen}
use Rattle.kq_run_scan.proofs.settled.settled.Goals as goal

pub returns-in-Chain : goal.returns-in-Chain
returns-in-Chain c =
    let first = ap (λ (e : Expr). chained (term_of e) (map link_of c.as_slice.result.now)) c.deref.ensures in
    let links = ap (λ (ls : List (Link Expr)). chained (term_of c.in-Chain.first.value) (map link_of ls)) c.as_slice.ensures.value in
    subst (λ (t : Term). SettlesTo (seen c.args.around) t c.chain_settled.result) (first ∙ links ∙ sym (ap term_of c.in-Chain.is ∙ term_of_chain c.in-Chain.first c.in-Chain.links)) c.chain_settled.ensures
