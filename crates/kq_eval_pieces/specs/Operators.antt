-- What operators make of lists of rows.
use Rattle.std.specs.Prelude.{List, [], ◌∷◌, if◌then◌else◌, map}
use Rattle.kq_value.specs.declared.value.Value.{Value}
use Rattle.kq_value.specs.Computed.{Computed, Is, and_then}
use Rattle.kq_plan_expressions.specs.Terms.{Term}
use Rattle.kq_eval_columns.specs.kq_value_arithmetic.Logic.{is_yes}
use Rattle.kq_eval_columns.specs.kq_eval_row.Val.{Surroundings, meaning, values}

abbrev pub Row : Type 0
Row = List Value

-- the values of terms over a row
abbrev pub values_at : List Term → Surroundings → Row → Computed Row
values_at es s r = values (map meaning es) s r

-- the rows for which the condition is true
abbrev pub filtered : Term → Surroundings → List Row → Computed (List Row)
filtered e s [] = Is []
filtered e s (r ∷ rows) = and_then (meaning e s r) (λ v. and_then (filtered e s rows) (λ others. Is (if is_yes v then r ∷ others else others)))
