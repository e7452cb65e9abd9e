use Rattle.std.proofs.Common.{arith}
use Rattle.kq_policy_entries.proofs.PolicyLemmas.{fault_of-long, fault_of-within}
use Rattle.kq_policy_entries.proofs.json.read_policy.Goals as goal

pub returns-then-len-limit-clause-fault : goal.returns-then-len-limit-clause-fault
returns-then-len-limit-clause-fault c =
    λ _. fault_of-long c.args.limit c.args.text.now c.in-Ok.value c.in-Some.items.now.items c.in-Ok.ensures.ok c.in-Some.ensures (omega (arith, c.len.ensures))

pub returns-clause-sound : goal.returns-clause-sound
returns-clause-sound c =
    fault_of-within c.args.limit c.args.text.now c.in-Ok.value c.in-Some.items.now.items c.in-Ok.ensures.ok c.in-Some.ensures (omega (arith, c.len.ensures))
