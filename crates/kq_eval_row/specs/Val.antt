-- What an expression gives of a row.
use Rattle.std.specs.Prelude.{ℕ, ℤ, List, [], ◌∷◌, slice_get, unwrap_or, if◌then◌else◌}
use Rattle.kq_value.specs.declared.ty.Ty.TheVariants as ty
use Rattle.kq_value.specs.declared.value.Value.{Value}
use Rattle.kq_value.specs.declared.value.Value.TheVariants.{Null}
use Rattle.kq_value.specs.Computed.{Computed, Is, and_then}
use Rattle.kq_plan_functions.specs.declared.function.Function.{Function}
use Rattle.kq_plan_functions.specs.declared.function.Function.TheVariants as f
use Rattle.kq_plan_expressions.specs.declared.expr.Expr.{Expr, fold-Expr}
use Rattle.kq_plan_expressions.specs.declared.expr.Expr.TheOpen.{Expr-F}
use Rattle.kq_plan_expressions.specs.declared.expr.Link.{Link}
use Rattle.kq_plan_expressions.specs.declared.expr.Link.TheVariants as link
use Rattle.kq_plan_expressions.specs.Operations.{function_of}
use Rattle.kq_plan_expressions.specs.Terms.{Term, literal, column, cell, call, Terms, no_term, and_term}
use Rattle.kq_value_arithmetic.specs.Logic.{is_yes}
use Rattle.kq_value_string_functions.specs.kq_value_conversions.Converted.{empty_test}
use Rattle.kq_eval_row.specs.Applied.{nothing, applied}

-- what stands around a row: the command's moment, and the cells of the scalar lets
pub record Surroundings : Type 0 where
  pub now : ℤ
  pub lets : List Value

abbrev pub surroundings : ℤ → List Value → Surroundings
surroundings now lets = record { now = now; lets = lets }

-- the meaning of an expression: what it gives of each row
abbrev pub Meaning : Type 0
Meaning = Surroundings → List Value → Computed Value

-- the cell, and a null past the end
abbrev pub cell_of : List Value → ℕ → Value
cell_of row i = unwrap_or (slice_get row i) (Null ty.Long)

-- the values of all, in order
abbrev pub values : List Meaning → Surroundings → List Value → Computed (List Value)
values [] s row = Is []
values (m ∷ ms) s row = and_then (m s row) (λ v. and_then (values ms s row) (λ vs. Is (v ∷ vs)))

-- KQL reference, iff() and case(): of tests, each with a value, and a last value, the value of the first test that is true, or the last. No more is
-- evaluated
abbrev pub first_chosen : List Meaning → Meaning
first_chosen [] s row = nothing
first_chosen (m ∷ []) s row = m s row
first_chosen (p ∷ m ∷ ms) s row = and_then (p s row) (λ v. if is_yes v then m s row else first_chosen ms s row)

-- KQL reference, coalesce(): the first value that is neither null nor empty, or the last. No more is evaluated
abbrev pub first_present : List Meaning → Meaning
first_present [] s row = nothing
first_present (m ∷ []) s row = m s row
first_present (m ∷ n ∷ ms) s row = and_then (m s row) (λ v. if is_yes (empty_test v) then first_present (n ∷ ms) s row else Is v)

-- a function of what stands in its place: three choose, and all others look at all their arguments
abbrev pub called : Function → List Meaning → Meaning
called f.Iff ms s row = first_chosen ms s row
called f.Case ms s row = first_chosen ms s row
called f.Coalesce ms s row = first_present ms s row
called function ms s row = and_then (values ms s row) (applied function s.now)

-- a link of a chain at the value that stands so far
abbrev pub linked_at : Link Meaning → Surroundings → List Value → Value → Computed Value
linked_at link.ToLong s row v = applied f.ToLong s.now (v ∷ [])
linked_at (link.With o m) s row v = and_then (m s row) (λ w. applied (function_of o) s.now (v ∷ w ∷ []))

-- the links of a chain, from the left
abbrev pub links_at : List (Link Meaning) → Surroundings → List Value → Value → Computed Value
links_at [] s row v = Is v
links_at (l ∷ ls) s row v = and_then (linked_at l s row v) (links_at ls s row)

-- one level, with the meaning of each part in its place
abbrev pub val_step : Expr-F Meaning → Meaning
val_step (Expr-F.Literal v) s row = Is v
val_step (Expr-F.Column i) s row = Is (cell_of row i)
val_step (Expr-F.Cell i) s row = Is (cell_of s.lets i)
val_step (Expr-F.Call function args) s row = called function args.items s row
val_step (Expr-F.Chain m ls) s row = and_then (m.value s row) (links_at ls.items s row)

abbrev pub val : Expr → Meaning
val = fold-Expr Meaning val_step

-- the same of plain terms
abbrev mutual
  pub meaning : Term → Meaning
  meaning (literal v) s row = Is v
  meaning (column i) s row = Is (cell_of row i)
  meaning (cell i) s row = Is (cell_of s.lets i)
  meaning (call function es) s row = called function (meanings es) s row

  pub meanings : Terms → List Meaning
  meanings no_term = []
  meanings (and_term e es) = meaning e ∷ meanings es
