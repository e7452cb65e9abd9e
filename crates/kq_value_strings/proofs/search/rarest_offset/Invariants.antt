use Rattle.std.proofs.Common.{◌<◌, length}
use Rattle.kq_value_strings.proofs.search.rarest_offset.Given as goal

abbrev pub invariant-loop-place : goal.invariant-loop-place
invariant-loop-place l = l.rarest < length l.part
