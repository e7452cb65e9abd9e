-- The values of an expression over rows, part by part over all of them. They are the value of each row, or an overflow where one overflows.
use Rattle.std.specs.Prelude.{Bool, not, List, [], ◌∷◌, map}
use Rattle.kq_value.specs.declared.ty.Ty.TheVariants as ty
use Rattle.kq_value.specs.declared.value.Value.{Value}
use Rattle.kq_value.specs.declared.value.Value.TheVariants.{Null}
use Rattle.kq_value.specs.Computed.{Computed, Is, and_then, each}
use Rattle.kq_eval_kernels.specs.Pairs.{each_two}
use Rattle.kq_plan_functions.specs.declared.function.Function.{Function}
use Rattle.kq_plan_functions.specs.declared.function.Function.TheVariants as f
use Rattle.kq_plan_expressions.specs.declared.expr.Expr.{Expr, fold-Expr}
use Rattle.kq_plan_expressions.specs.declared.expr.Expr.TheOpen.{Expr-F}
use Rattle.kq_plan_expressions.specs.declared.expr.Link.{Link}
use Rattle.kq_plan_expressions.specs.declared.expr.Link.TheVariants as link
use Rattle.kq_plan_expressions.specs.Operations.{function_of}
use Rattle.kq_value_arithmetic.specs.Logic.{is_yes}
use Rattle.kq_eval_row.specs.Applied.{applied}
use Rattle.kq_eval_row.specs.Val.{Surroundings, cell_of}
use Rattle.kq_eval_columns.specs.Choices.{picked, merged, is_present}

-- the values of rows
abbrev pub Values : Type 0
Values = List (List Value) → Computed (List Value)

abbrev pub Over : Type 0
Over = Surroundings → Values

-- the first over the rows with a true test, the second over the others
abbrev pub choosing : Values → Values → List Bool → Values
choosing a b ts rows = and_then (a (picked ts rows)) (λ ys. and_then (b (picked (map not ts) rows)) (λ zs. Is (merged ts ys zs)))

-- the values that are there, and what others give of the rows without one
abbrev pub keeping : Values → List Bool → List Value → Values
keeping others ts vs rows = and_then (others (picked (map not ts) rows)) (λ zs. Is (merged ts (picked ts vs) zs))

-- of tests, each with a value, and a last value, each over the rows that come to it
abbrev pub chosen_over : List Over → Over
chosen_over [] s rows = Is (map (λ r. Null ty.Long) rows)
chosen_over (o ∷ []) s rows = o s rows
chosen_over (p ∷ o ∷ os) s rows = and_then (p s rows) (λ vs. choosing (o s) (chosen_over os s) (map is_yes vs) rows)

-- each over the rows for which none before it gave a value that is there
abbrev pub present_over : List Over → Over
present_over [] s rows = Is (map (λ r. Null ty.Long) rows)
present_over (o ∷ []) s rows = o s rows
present_over (o ∷ n ∷ os) s rows = and_then (o s rows) (λ vs. keeping (present_over (n ∷ os) s) (map is_present vs) vs rows)

-- rows without a cell, as many
abbrev pub bare : List (List Value) → List (List Value)
bare rows = map (λ r. []) rows

-- the values of all, as a row for each row
abbrev pub values_over : List Over → Surroundings → List (List Value) → Computed (List (List Value))
values_over [] s rows = Is (bare rows)
values_over (o ∷ os) s rows = and_then (o s rows) (λ xs. and_then (values_over os s rows) (λ rs. each_two (λ x r. Is (x ∷ r)) xs rs))

abbrev pub called_over : Function → List Over → Over
called_over f.Iff os s rows = chosen_over os s rows
called_over f.Case os s rows = chosen_over os s rows
called_over f.Coalesce os s rows = present_over os s rows
called_over function os s rows = and_then (values_over os s rows) (each (applied function s.now))

-- values that stand there already
abbrev pub given : List Value → Over
given xs s rows = Is xs

-- the call that a link is, at what stands so far
abbrev pub linked_over : Over → Link Over → Over
linked_over o link.ToLong = called_over f.ToLong (o ∷ [])
linked_over o (link.With operation p) = called_over (function_of operation) (o ∷ p ∷ [])

-- the links of a chain, from the left
abbrev pub chained_over : Over → List (Link Over) → Over
chained_over o [] = o
chained_over o (l ∷ ls) = chained_over (linked_over o l) ls

abbrev pub over_step : Expr-F Over → Over
over_step (Expr-F.Literal v) s rows = Is (map (λ r. v) rows)
over_step (Expr-F.Column i) s rows = Is (map (λ r. cell_of r i) rows)
over_step (Expr-F.Cell i) s rows = Is (map (λ r. cell_of s.lets i) rows)
over_step (Expr-F.Call function args) s rows = called_over function args.items s rows
over_step (Expr-F.Chain o ls) s rows = chained_over o.value ls.items s rows

abbrev pub over : Expr → Over
over = fold-Expr Over over_step
