use Rattle.std.proofs.Common.{◌≡◌, ◌∷◌, map, drop}
use Rattle.kq_bind_clauses.proofs.sorts.unsupported_keys.Given as goal
use Rattle.kq_bind_clauses.specs.Sorts.{unsupported_keys}
use Rattle.kq_read_grammar.specs.Views.{key_view}

abbrev pub invariant-loop-key : goal.invariant-loop-key
invariant-loop-key l = unsupported_keys l.text (key_view l.first ∷ map key_view l.others) ≡ unsupported_keys l.text (map key_view (drop l.key-index l.others))
