-- Row operators as plain data, and what each makes of rows.
use Rattle.std.specs.Prelude.{ℕ, List, length, map, Option}
use Rattle.kq_value.specs.Computed.{Computed, Is, and_then, each}
use Rattle.kq_plan_expressions.specs.Terms.{Term, term_of}
use Rattle.kq_eval_pieces.specs.Operators.{Row, filtered, values_at}
use Rattle.kq_run_reshape.specs.MvExpand.{expanded, width_with}
use Rattle.kq_eval_pieces.specs.kq_eval_row.Val.{Surroundings, meaning}
use Rattle.kq_value.specs.declared.ty.Ty.{Ty}
use Rattle.kq_run_row_operators.specs.declared.operator.Operator.{Operator}
use Rattle.kq_run_row_operators.specs.declared.operator.Operator.TheVariants as operator

-- rows for which a term is true, the rows of some terms' values, or a row for each part of a value, in the column of this number
pub data Rowwise : Type 0 where
  keeping : Term → Rowwise
  making : List Term → Rowwise
  mv_expanding : Term → ℕ → Option Ty → Rowwise

abbrev pub rowwise_of : Operator → Rowwise
rowwise_of (operator.Keep e) = keeping (term_of e.now)
rowwise_of (operator.Make es) = making (map term_of es.now)
rowwise_of (operator.MvExpand e at t) = mv_expanding (term_of e.now) at t

-- what it makes of rows, or an overflow
abbrev pub applied : Rowwise → Surroundings → List Row → Computed (List Row)
applied (keeping e) s rows = filtered e s rows
applied (making es) s rows = each (values_at es s) rows
applied (mv_expanding e at t) s rows = and_then (each (meaning e s) rows) (λ vs. Is (expanded at t rows vs))

-- how many cells its rows have, where those that it takes have so many
abbrev pub width_after : Rowwise → ℕ → ℕ
width_after (keeping e) w = w
width_after (making es) w = length es
width_after (mv_expanding e at t) w = width_with w at
