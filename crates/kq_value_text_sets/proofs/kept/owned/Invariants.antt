use Rattle.std.proofs.Common.{◌≡◌, map, take}
use Rattle.kq_value_text_sets.proofs.kept.owned.Given as goal

abbrev pub invariant-loop-text : goal.invariant-loop-text
invariant-loop-text l = l.tags.items ≡ map (λ text. text.now) (take l.text-index l.texts)
