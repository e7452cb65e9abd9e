-- What the code has bound and made, as the definitions speak of it.
use Rattle.std.specs.Prelude.{ℕ, List, [], ◌∷◌, Option, map, Vec}
use denote.Ref.{Bor}
use Rattle.std.specs.declared.alloc.Global.{Global}
use Rattle.std.specs.Option.{option_map}
use Rattle.kq_bind_aggregates.specs.Arguments.{Argued}
use Rattle.kq_bind_aggregates.specs.declared.arguments.Given.{Given}
use Rattle.kq_bind_aggregates.specs.declared.arguments.Given.TheVariants as given
use Rattle.kq_bind_aggregates.specs.declared.function.AggregateFunction.{AggregateFunction}
use Rattle.kq_bind_aggregates.specs.declared.function.Named.{Named}
use Rattle.kq_bind_aggregates.specs.declared.gathered.Gathered.{Gathered}
use Rattle.kq_bind_aggregates.specs.declared.made.Aggregated.{Aggregated}
use Rattle.kq_bind_aggregates.specs.Gathered.{Gathering}
use Rattle.kq_bind_aggregates.specs.Made.{Aggregated as Plain}
use Rattle.kq_plan_expressions.specs.declared.expr.Typed.{Typed}
use Rattle.kq_plan_expressions.specs.Terms.{Bound, typed_of}
use Rattle.kq_plan.specs.Plans.{aggregating_of}
use Rattle.kq_value.specs.declared.schema.Field.{Field}

abbrev pub named_of : Named → List ℕ × AggregateFunction
named_of n = (n.name.now, n.function)

abbrev pub argued_of : Option Typed → Argued
argued_of = option_map typed_of

abbrev pub all_seen : Vec (Option Typed) Global → List Argued
all_seen v = map argued_of v.items

abbrev pub given_of : Given → List Argued
given_of given.Nothing = []
given_of (given.From first others) = argued_of first ∷ all_seen others

abbrev pub several_of : Typed × Vec (Option Typed) Global → Bound × List Argued
several_of p = (typed_of p.0, all_seen p.1)

abbrev pub numbers_of : Vec ℕ Global → List ℕ
numbers_of v = v.items

abbrev pub aggregated_of : Aggregated → Plain
aggregated_of m = (aggregating_of m.aggregate, m.columns.items)

abbrev pub fields_of : Vec Field Global → List Field
fields_of v = v.items

abbrev pub gathering_of : Gathered → Gathering
gathering_of g = record { aggregates = map aggregating_of g.aggregates.items; fields = g.fields.items }

abbrev pub text_of : Bor (List ℕ) → List ℕ
text_of s = s.now
