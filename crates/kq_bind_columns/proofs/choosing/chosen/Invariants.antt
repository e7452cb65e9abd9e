use Rattle.std.proofs.Common.{◌≡◌, [], ◌∷◌, drop}
use Rattle.kq_bind_columns.specs.Chosen.{chosen}
use Rattle.kq_bind_columns.proofs.choosing.chosen.Given as goal

abbrev pub invariant-loop-name : goal.invariant-loop-name
invariant-loop-name l = chosen l.text l.columns l.keys [] (l.fn.first ∷ l.others) ≡ chosen l.text l.columns l.keys l.numbers.items (drop l.name-index l.others)
