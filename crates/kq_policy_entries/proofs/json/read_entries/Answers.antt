use Rattle.std.proofs.Common.{sym, ◌∙◌}
use Rattle.std.proofs.lemmas.List.{take_all}
use Rattle.kq_policy_entries.proofs.PolicyLemmas.{elements_of-items_view}
use Rattle.kq_policy_entries.proofs.json.read_entries.Goals as goal

pub returns : goal.returns
returns c =
    let all = rw (take_all c.loop-item.item-index c.args.items.now c.loop-item-test.false) at c.loop-item.invariant in
    all ∙ sym (elements_of-items_view c.args.items.now)
