use Rattle.std.proofs.Common.{◌≡◌, false, [], ◌∷◌, map, drop}
use Rattle.kq_bind_columns.specs.Chosen.{chosen}
use Rattle.kq_bind_columns.proofs.choosing.chosen_by_second.Given as goal

abbrev pub invariant-loop-pair : goal.invariant-loop-pair
invariant-loop-pair l = chosen l.text l.columns false [] (l.fn.first.1 ∷ map (λ p. p.1) l.others) ≡ chosen l.text l.columns false l.numbers.items (map (λ p. p.1) (drop l.pair-index l.others))
