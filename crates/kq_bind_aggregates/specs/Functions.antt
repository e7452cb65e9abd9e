-- The names of the functions of aggregates.
use Rattle.std.specs.Prelude.{ℕ, List, [], ◌∷◌, Option, Some, None, codes, nat_eq, if◌then◌else◌}
use Rattle.std.specs.Cmp.Lexicographic.{pointwise}
use Rattle.kq_bind_aggregates.specs.declared.function.AggregateFunction.{AggregateFunction}
use Rattle.kq_bind_aggregates.specs.declared.function.AggregateFunction.TheVariants as aggregate

abbrev pub aggregate_names : List (List ℕ × AggregateFunction)
aggregate_names =
    (codes "count", aggregate.Count) ∷
    (codes "sum", aggregate.Sum) ∷
    (codes "min", aggregate.Min) ∷
    (codes "max", aggregate.Max) ∷
    (codes "arg_max", aggregate.ArgMax) ∷
    (codes "arg_min", aggregate.ArgMin) ∷
    (codes "take_any", aggregate.TakeAny) ∷
    (codes "make_set", aggregate.MakeSet) ∷ []

-- the function of the first pair with this name
abbrev pub first_aggregate : List (List ℕ × AggregateFunction) → List ℕ → Option AggregateFunction
first_aggregate [] name = None
first_aggregate (p ∷ ps) name = if pointwise nat_eq p.0 name then Some p.1 else first_aggregate ps name

abbrev pub aggregate_named : List ℕ → Option AggregateFunction
aggregate_named = first_aggregate aggregate_names
