use Rattle.std.proofs.Common.{◌≡◌, map, take}
use Rattle.serde_json.specs.View.{view}
use Rattle.kq_policy_entries.specs.PolicyTexts.{entry_of}
use Rattle.kq_policy_entries.proofs.json.read_entries.Given as goal

abbrev pub invariant-loop-item : goal.invariant-loop-item
invariant-loop-item l = l.entries.items ≡ map (λ v. entry_of (view v)) (take l.item-index l.items)
