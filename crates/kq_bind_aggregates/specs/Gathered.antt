-- What the aggregates of a summarize are bound to, one after another.
use Rattle.std.specs.Prelude.{ℕ, List, [], ◌∷◌, ◌++◌, Option, Some, None, Ok, Err, if◌then◌else◌}
use Rattle.kq_bind_aggregates.specs.Arguments.{all_argued, unkeyed}
use Rattle.kq_bind_aggregates.specs.Functions.{aggregate_named}
use Rattle.kq_bind_aggregates.specs.Made.{Aggregated, made}
use Rattle.kq_bind_columns.specs.Items.{field}
use Rattle.kq_bind_columns.specs.Naming.{is_taken, free_name}
use Rattle.kq_bind_expressions.specs.Names.{Names}
use Rattle.kq_bind_expressions.specs.Verdicts.{Verdict, mistyped, unknown, and_then, or_fault}
use Rattle.kq_read_grammar.specs.declared.expression.Name.{Name}
use Rattle.kq_read_grammar.specs.Trees.{AggregateTree}
use Rattle.kq_plan.specs.Plans.{Aggregating}
use Rattle.kq_bind_columns.specs.kq_read_meanings.Names.{name_said, name_place}
use Rattle.kq_bind_columns.specs.kq_read_meanings.Pieces.{piece}
use Rattle.kq_value.specs.declared.schema.Field.{Field}

-- what the aggregates do, and all columns so far, the keys' among them
pub record Gathering : Type 0 where
  pub aggregates : List Aggregating
  pub fields : List Field

abbrev pub no_aggregate : List Field → Gathering
no_aggregate keys = record { aggregates = []; fields = keys }

-- each under its own name, or with the least suffix that is free
abbrev pub put_defaults : List Field → List Field → List Field
put_defaults fields [] = fields
put_defaults fields (c ∷ cs) = put_defaults (fields ++ field (free_name fields [] c.name) c.ty ∷ []) cs

-- the first has this name, if there is one
abbrev pub put_named : List Field → List ℕ → List Field → List Field
put_named fields said [] = fields
put_named fields said (c ∷ cs) = put_defaults (fields ++ field said c.ty ∷ []) cs

-- a given name is that of the first column, and no column may have it before
abbrev pub put_columns : List ℕ → List Field → Option Name → List Field → Verdict (List Field)
put_columns text fields None cs = Ok (put_defaults fields cs)
put_columns text fields (Some n) cs = if is_taken fields (name_said text n) then Err (mistyped (name_place n)) else Ok (put_named fields (name_said text n) cs)

abbrev pub gathered : List ℕ → Gathering → Option Name → Aggregated → Verdict Gathering
gathered text g n x = and_then (put_columns text g.fields n x.1) (λ fields. Ok (record { aggregates = g.aggregates ++ x.0 ∷ []; fields = fields }))

-- the called name, then the arguments, then the types, and at last the given name
abbrev pub aggregate_made : Names → List Field → List ℕ → Gathering → AggregateTree → Verdict Gathering
aggregate_made s cs starred g a =
    and_then (or_fault (unknown a.function.from) (aggregate_named (piece s.text a.function))) (λ f.
    and_then (all_argued s cs a.arguments) (λ given.
    and_then (or_fault (mistyped a.function.from) (made f cs starred given)) (gathered s.text g a.given)))

abbrev pub each_made : Names → List Field → List ℕ → Gathering → List AggregateTree → Verdict Gathering
each_made s cs starred g [] = Ok g
each_made s cs starred g (a ∷ more) = and_then (aggregate_made s cs starred g a) (λ h. each_made s cs starred h more)

-- where `*` stands for the columns whose names aren't those of the keys
abbrev pub aggregates_made : Names → List Field → List Field → Gathering → List AggregateTree → Verdict Gathering
aggregates_made s cs keys g more = each_made s cs (unkeyed 0 cs keys) g more
