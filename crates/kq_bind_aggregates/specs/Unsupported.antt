-- The place of the leftmost literal of aggregates that isn't supported.
use Rattle.std.specs.Prelude.{ℕ, List, [], ◌∷◌, Option, None}
use Rattle.kq_bind_expressions.specs.Unsupported.{or_later, unsupported_in}
use Rattle.kq_read_grammar.specs.Trees.{ArgumentTree, value, all, AggregateTree}

abbrev pub unsupported_argument : List ℕ → ArgumentTree → Option ℕ
unsupported_argument text (value e) = unsupported_in text e
unsupported_argument text (all t) = None

abbrev pub unsupported_arguments : List ℕ → List ArgumentTree → Option ℕ
unsupported_arguments text [] = None
unsupported_arguments text (a ∷ more) = or_later (unsupported_argument text a) (unsupported_arguments text more)

abbrev pub unsupported_aggregate : List ℕ → AggregateTree → Option ℕ
unsupported_aggregate text a = unsupported_arguments text a.arguments

abbrev pub unsupported_aggregates : List ℕ → List AggregateTree → Option ℕ
unsupported_aggregates text [] = None
unsupported_aggregates text (a ∷ more) = or_later (unsupported_aggregate text a) (unsupported_aggregates text more)
