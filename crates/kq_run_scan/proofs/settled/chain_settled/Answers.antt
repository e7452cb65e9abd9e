use Rattle.std.proofs.Common.{◌+◌, map, take, sym, subst}
use Rattle.kq_plan_expressions.specs.declared.expr.Link.TheVariants as link
use Rattle.kq_plan_expressions.specs.declared.operation.Operation.TheVariants as operation
use Rattle.kq_plan_expressions.specs.Terms.{Term, chained, link_of, linked, term_of}
use Rattle.kq_run_scan.specs.Settled.{MeansAs, seen}
use Rattle.kq_run_scan.proofs.Conjunct.{chain_more}
use Rattle.kq_run_scan.proofs.Settling.{link_same, some_joined}
use Rattle.kq_run_scan.proofs.settled.chain_settled.Goals as goal

pub loop-link-preserved : goal.loop-link-preserved
loop-link-preserved c =
    let s = seen c.args.around in
    let first = term_of c.args.first.now in
    let links = c.args.links.now in
    let i = c.loop-link.link-index in
    let added = c.link-item.result in
    let chain = term_of c.loop-link.chain in
    let operand = term_of c.in-Some-2.operand in
    let so_far = chained first (map link_of (take i links)) in
    let joined = some_joined s (link_of added) c.in_ok-operand.field-0 c.in-Some-2.operand c.in_ok-operand.ensures c.in-Some-2.is in
    let more = link_same s chain so_far (link_of added) operand c.loop-link.invariant joined in
    subst (λ (t : Term). MeansAs s t (chained first (map link_of (take (i + 1) links)))) (sym c.in_ok-chain-in-Some-2.ensures)
    (subst (λ (t : Term). MeansAs s (linked chain (link.With operation.And operand)) t) (sym (chain_more first links i added c.loop-link-test.true c.link-item.is)) more)
