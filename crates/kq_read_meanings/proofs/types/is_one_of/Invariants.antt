use Rattle.std.proofs.Common.{◌≡◌, drop}
use Rattle.std.specs.List.{list_any}
use Rattle.kq_read_meanings.specs.Types.{same}
use Rattle.kq_read_meanings.proofs.types.is_one_of.Given as goal

-- what is left has the answer of the whole
abbrev pub invariant-loop-word : goal.invariant-loop-word
invariant-loop-word l = list_any (λ w. same l.text w.now) (drop l.word-index l.words) ≡ list_any (λ w. same l.text w.now) l.words
