use Rattle.std.proofs.Common.{◌≡◌}
use Rattle.kq_value_time.proofs.PartLemmas.{decimals_value}
use Rattle.kq_value_time.proofs.digits.fraction.Given as goal

abbrev pub invariant-loop-place : goal.invariant-loop-place
invariant-loop-place l = l.ticks ≡ decimals_value l.decimals l.place
