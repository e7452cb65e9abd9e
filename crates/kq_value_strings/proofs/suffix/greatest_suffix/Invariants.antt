use Rattle.std.proofs.Common.{◌+◌, ◌-◌, ◌*◌, length}
use Rattle.memchr.proofs.lemmas.SuffixLemmas.{IsScan}
use Rattle.kq_value_strings.specs.Case.{seen}
use Rattle.kq_value_strings.specs.Suffixes.{Precedes}
use Rattle.kq_value_strings.proofs.suffix.greatest_suffix.Given as goal

abbrev pub invariant-loop-candidate : goal.invariant-loop-candidate
invariant-loop-candidate l = IsScan (Precedes l.order) (seen l.by l.text) (length l.text) l.start l.period l.candidate l.offset

abbrev pub decreases-loop-candidate : goal.decreases-loop-candidate
decreases-loop-candidate l = 2 * length l.text + 1 - (l.start + l.candidate + l.offset)
