use Rattle.std.proofs.Common.{ap, sym, ◌∙◌}
use Rattle.kq_plan_expressions.specs.Terms.{term_of, linked, link_of}
use Rattle.kq_plan_expressions.proofs.Chains.{grown}
use Rattle.kq_plan_expressions.proofs.chain.linked.Goals as goal

pub returns-in_ok-push-in-Chain : goal.returns-in_ok-push-in-Chain
returns-in_ok-push-in-Chain c = grown c.in-Chain.first c.in-Chain.links c.push.new.self c.args.link c.in_ok-push-in-Chain.ensures.items ∙ ap (λ e. linked (term_of e) (link_of c.args.link)) (sym c.in-Chain.is)
