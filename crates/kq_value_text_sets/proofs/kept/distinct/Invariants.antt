use Rattle.std.proofs.Common.{take}
use Rattle.kq_value_text_sets.proofs.KeptLemmas.{AreDistinct}
use Rattle.kq_value_text_sets.proofs.kept.distinct.Given as goal

abbrev pub invariant-loop-text : goal.invariant-loop-text
invariant-loop-text l = AreDistinct (take l.text-index l.texts) l.seen.keys
