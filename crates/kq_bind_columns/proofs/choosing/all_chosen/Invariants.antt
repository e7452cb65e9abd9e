use Rattle.std.proofs.Common.{◌≡◌, ◌++◌, drop}
use Rattle.std.specs.Prelude.{Ok}
use Rattle.kq_bind_columns.specs.Chosen.{all_chosen}
use Rattle.kq_bind_columns.proofs.choosing.all_chosen.Given as goal
use Rattle.kq_bind_expressions.specs.Verdicts.{and_then}

abbrev pub invariant-loop-i : goal.invariant-loop-i
invariant-loop-i l = all_chosen l.at 0 l.columns ≡ and_then (all_chosen l.at l.i (drop l.i l.columns)) (λ is. Ok (l.numbers.items ++ is))
