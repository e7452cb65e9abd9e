use Rattle.std.proofs.Common.{◌≡◌, ◌∷◌, ◌++◌, map, drop, Ok}
use Rattle.kq_bind_clauses.proofs.sorts.sort_keys.Given as goal
use Rattle.kq_bind_clauses.specs.Sorts.{sort_keys}
use Rattle.kq_bind_expressions.specs.Names.{names_of}
use Rattle.kq_bind_expressions.specs.Verdicts.{and_then}
use Rattle.kq_read_grammar.specs.Views.{key_view}
use Rattle.kq_plan.specs.Plans.{sorting_of}

abbrev pub invariant-loop-key : goal.invariant-loop-key
invariant-loop-key l = sort_keys (names_of l.scope) l.columns (key_view l.first ∷ map key_view l.others) ≡ and_then (sort_keys (names_of l.scope) l.columns (map key_view (drop l.key-index l.others))) (λ xs. Ok (map sorting_of l.keys.items ++ xs))
