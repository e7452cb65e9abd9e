-- What the steps of a plan gave.
use Rattle.std.specs.Prelude.{ℕ, Bool, true, false, List, [], ◌∷◌, Option, Some, None, slice_get, unwrap_or}
use Rattle.kq_value.specs.declared.value.Value.{Value}
use Rattle.kq_run_plan.specs.declared.outcome.Outcome.{Outcome}
use Rattle.kq_run_plan.specs.declared.outcome.Outcome.TheVariants.{Table, Cell, Overflow, Full}

abbrev pub Row : Type 0
Row = List Value

-- whether it ends its plan
abbrev pub is_fault : Outcome → Bool
is_fault (Table ordered rows) = false
is_fault (Cell v) = false
is_fault (Overflow stage) = true
is_fault (Full limit) = true

-- what a number stands for that is no step's
abbrev pub no_rows : Outcome
no_rows = Table true []

-- the outcome of the step with this number
abbrev pub outcome_at : List Outcome → ℕ → Outcome
outcome_at done i = unwrap_or (slice_get done i) no_rows

abbrev pub rows_in : Outcome → List Row
rows_in (Table ordered rows) = rows
rows_in o = []

abbrev pub order_in : Outcome → Bool
order_in (Table ordered rows) = ordered
order_in o = true

-- its rows, and whether they are in an order
abbrev pub rows_of : List Outcome → ℕ → List Row
rows_of done i = rows_in (outcome_at done i)

abbrev pub order_of : List Outcome → ℕ → Bool
order_of done i = order_in (outcome_at done i)

-- the cells of the scalar lets, in their order
abbrev pub cells_of : List Outcome → List Value
cells_of [] = []
cells_of (Cell v ∷ done) = v ∷ cells_of done
cells_of (o ∷ done) = cells_of done
