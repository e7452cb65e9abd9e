-- Steps in a row that take rows of one another.
use Rattle.std.specs.Prelude.{◌≡◌, ◌+◌, ℕ, zero, suc, Bool, true, false, List, [], ◌∷◌, ◌++◌, Option, Some, None, length}
use Rattle.kq_plan.specs.Plans.{Doing, Stepping, written, kept, mapped, counted, summarized, expanded}
use Rattle.kq_run_row_operators.specs.Operators.{Rowwise, keeping, making, mv_expanding}
use Rattle.kq_value.specs.declared.schema.Field.{Field}
use Rattle.kq_run_gather.specs.Grouping.{all_made}

-- it makes its rows of one row at a time
abbrev pub is_rowwise : Doing → Bool
is_rowwise (kept i e) = true
is_rowwise (mapped i es) = true
is_rowwise (expanded i e c t) = true
is_rowwise d = false

-- the number of the step whose rows may flow into it
abbrev pub flows_from : Doing → Option ℕ
flows_from (kept i e) = Some i
flows_from (mapped i es) = Some i
flows_from (expanded i e c t) = Some i
flows_from (counted i) = Some i
flows_from (summarized i es gs) = Some i
flows_from d = None

-- all but the last make their rows of one row at a time, and these flow into the next; the first has this number
abbrev pub Linked : ℕ → List Stepping → Type 0
Linked n [] = ⊥
Linked n (s ∷ []) = Unit {0}
Linked n (s ∷ t ∷ ss) = (is_rowwise s.doing ≡ true) × (flows_from t.doing ≡ Some n) × Linked (suc n) (t ∷ ss)

abbrev pub operator_in : Doing → List Rowwise
operator_in (kept i e) = keeping e ∷ []
operator_in (mapped i es) = making es ∷ []
operator_in (expanded i e c t) = mv_expanding e c t ∷ []
operator_in d = []

abbrev pub operators_of : List Stepping → List Rowwise
operators_of [] = []
operators_of (s ∷ ss) = operator_in s.doing ++ operators_of ss

abbrev pub nothing_done : Stepping
nothing_done = record { stage = 0; doing = written []; columns = [] }

abbrev pub last_of : List Stepping → Stepping
last_of [] = nothing_done
last_of (s ∷ []) = s
last_of (s ∷ t ∷ ss) = last_of (t ∷ ss)

abbrev pub stage_at : List Stepping → ℕ → ℕ
stage_at [] n = 0
stage_at (s ∷ ss) zero = s.stage
stage_at (s ∷ ss) (suc n) = stage_at ss n

-- a summarize has a column for each key, and those of its aggregates
abbrev pub HasColumns : Doing → List Field → Type 0
HasColumns (summarized i es gs) cs = length cs ≡ length es + all_made gs
HasColumns d cs = Unit {0}
