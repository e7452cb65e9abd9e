use Rattle.std.proofs.Common.{◌≡◌, ◌+◌, map, take}
use Rattle.kq_run_row_operators.proofs.choices.shifted.Given as goal

abbrev pub invariant-loop-place : goal.invariant-loop-place
invariant-loop-place l = l.shifted.items ≡ map (λ p. l.from + p) (take l.place-index l.places)
