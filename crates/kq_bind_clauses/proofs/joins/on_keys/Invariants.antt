use Rattle.std.proofs.Common.{◌≡◌, ◌∷◌, ◌++◌, drop, Ok}
use Rattle.kq_bind_clauses.proofs.joins.on_keys.Given as goal
use Rattle.kq_bind_clauses.specs.Joins.{on_keys}
use Rattle.kq_bind_expressions.specs.Verdicts.{and_then}

abbrev pub invariant-loop-key : goal.invariant-loop-key
invariant-loop-key l = on_keys l.text l.left l.right (l.fn.first ∷ l.others) ≡ and_then (on_keys l.text l.left l.right (drop l.key-index l.others)) (λ xs. Ok (l.pairs.items ++ xs))
