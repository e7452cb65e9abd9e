-- The columns that the arguments of arg_max, arg_min and take_any stand for.
use Rattle.std.specs.Prelude.{◌≡◌, ◌≢◌, ℕ, suc, Bool, false, ◌&&◌, not, nat_eq, List, [], ◌∷◌, ◌++◌, Option, Some, None, filter, slice_get}
use Rattle.kq_bind_aggregates.specs.Arguments.{Argued}
use Rattle.kq_bind_columns.specs.Naming.{is_taken}
use Rattle.kq_plan_expressions.specs.Terms.{Term, column}
use Rattle.kq_value.specs.declared.schema.Field.{Field}

-- a column with its number
abbrev pub Placed : Type 0
Placed = ℕ × Field

abbrev pub number_of : Placed → ℕ
number_of p = p.0

abbrev pub field_of : Placed → Field
field_of p = p.1

-- the columns with their numbers from i on
abbrev pub placed_from : ℕ → List Field → List Placed
placed_from i [] = []
placed_from i (c ∷ cs) = (i, c) ∷ placed_from (suc i) cs

-- the column that a term is, if it is one
abbrev pub IsColumn : Term → Option ℕ → Type 0
IsColumn e (Some i) = e ≡ column i
IsColumn e None = (i : ℕ) → e ≢ column i

abbrev pub is_number : Option ℕ → ℕ → Bool
is_number (Some k) i = nat_eq i k
is_number None i = false

-- a column that has no key's name and isn't the value's own
abbrev pub is_starred : List Field → Option ℕ → Placed → Bool
is_starred keys own p = not (is_taken keys (field_of p).name) && not (is_number own (number_of p))

-- the columns that an argument stands for: one that is a column for itself, and `*`, which is no expression, for all of the input that have no key's
-- name and
-- aren't the value's own, in order
abbrev pub StandsFor : List Field → List Field → Option ℕ → Argued → List Placed → Type 0
StandsFor cs keys own None ps = ps ≡ filter (is_starred keys own) (placed_from 0 cs)
StandsFor cs keys own (Some x) ps = (p : Placed) × (x.0 ≡ column (number_of p)) × (slice_get cs (number_of p) ≡ Some (field_of p)) × (ps ≡ p ∷ [])

-- those of several arguments, one after another
abbrev pub StandFor : List Field → List Field → Option ℕ → List Argued → List Placed → Type 0
StandFor cs keys own [] ps = ps ≡ []
StandFor cs keys own (a ∷ more) ps =
    (first : List Placed) × (rest : List Placed) × StandsFor cs keys own a first × StandFor cs keys own more rest × (ps ≡ first ++ rest)
