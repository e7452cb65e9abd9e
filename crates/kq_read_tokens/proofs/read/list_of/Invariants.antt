use Rattle.std.proofs.Common.{◌-◌, length}
use Rattle.kq_read_tokens.proofs.ReadingLemmas.{InReading}
use Rattle.kq_read_tokens.proofs.read.list_of.Given as goal

abbrev pub invariant-loop-at : goal.invariant-loop-at
invariant-loop-at l = InReading l.text l.list.items l.at

abbrev pub decreases-loop-at : goal.decreases-loop-at
decreases-loop-at l = length l.text - l.at
