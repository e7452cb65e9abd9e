use Rattle.std.proofs.Common.{◌≡◌, ◌∷◌, ◌++◌, map, drop}
use Rattle.kq_bind_columns.proofs.renaming.first_names.Given as goal

abbrev pub invariant-loop-pair : goal.invariant-loop-pair
invariant-loop-pair l = l.fn.first.0 ∷ map (λ p. p.0) l.others ≡ l.names.items ++ map (λ p. p.0) (drop l.pair-index l.others)
