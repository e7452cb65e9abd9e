use Rattle.std.proofs.Common.{◌≡◌, get_or, map, take}
use Rattle.kq_run_row_operators.proofs.choices.chosen_of.Given as goal

abbrev pub invariant-loop-number : goal.invariant-loop-number
invariant-loop-number l = l.chosen.items ≡ map (λ n. get_or l.places n 0) (take l.number-index l.numbers)
