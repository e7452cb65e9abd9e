-- The aggregates of plans, and the types of what they give.
use Rattle.kq_plan.specs.Plans.{Aggregating, rows_counted, summed, least_of, greatest_of, at_greatest, at_least, any_of, set_of}
use Rattle.kq_run_aggregates.specs.declared.kind.Kind.{Kind}
use Rattle.kq_run_aggregates.specs.declared.kind.Kind.TheVariants as kind

abbrev pub aggregate_kind : Aggregating → Kind
aggregate_kind rows_counted = kind.Count
aggregate_kind (summed e) = kind.Sum
aggregate_kind (least_of e) = kind.Min
aggregate_kind (greatest_of e) = kind.Max
aggregate_kind (at_greatest e is) = kind.ArgMax
aggregate_kind (at_least e is) = kind.ArgMin
aggregate_kind (any_of is) = kind.TakeAny
aggregate_kind (set_of e n) = kind.MakeSet n
