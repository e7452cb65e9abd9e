-- Rows in groups by their keys, as a summarize gives them.
use Rattle.std.specs.Prelude.{◌≡◌, ◌⊎◌, ℕ, zero, suc, Bool, false, List, [], ◌∷◌, ◌++◌, drop, filter, length, map, take}
use Rattle.std.specs.List.{All, Any, Contains, IsDistinct}
use Rattle.kq_value.specs.Computed.{Computed, Is, Overflow, each}
use Rattle.kq_plan_expressions.specs.Terms.{Term}
use Rattle.kq_run_groups.specs.kq_run_aggregates.Aggregates.{aggregate_kind}
use Rattle.kq_run_groups.specs.kq_run_aggregates.Holds.{Cell, sum_in, total}
use Rattle.kq_run_gather.specs.Grouping.{arguments_at, arguments_over, columns_made}
use Rattle.kq_run_gather.specs.kq_eval_pieces.Operators.{Row, values_at}
use Rattle.kq_run_gather.specs.kq_eval_row.Val.{Surroundings, meaning}
use Rattle.kq_plan.specs.Fits.{ty_of}
use Rattle.kq_plan.specs.Plans.{Aggregating, summed}
use Rattle.kq_value.specs.Values.{is_same_row}
use Rattle.kq_value.specs.declared.schema.Field.{Field}
use Rattle.kq_value.specs.declared.ty.Ty.{Ty}

-- ---- keys

-- each key of the rows stands here, no other does, and none twice
pub record AreOnceEach (keys groups : List Row) : Type 0 where
  pub known : All (Contains keys) groups
  pub all : All (Contains groups) keys
  pub once : IsDistinct is_same_row groups

-- the keys of the groups, of so many cells; with no cells there is one group, even of no rows
abbrev pub AreGroupKeys : ℕ → List Row → List Row → Type 0
AreGroupKeys zero keys groups = groups ≡ [] ∷ []
AreGroupKeys (suc width) keys groups = AreOnceEach keys groups

-- no key overflows, and the keys of the groups are those of the rows
pub record AreKeysOf (es : List Term) (s : Surroundings) (rows groups : List Row) : Type 0 where
  pub keys : List Row
  pub keyed : each (values_at es s) rows ≡ Is keys
  pub one_each : AreGroupKeys (length es) keys groups

-- whether a key came of a row, and it is this one
abbrev pub is_key : Row → Computed Row → Bool
is_key k (Is key) = is_same_row k key
is_key k Overflow = false

-- the rows with this key
abbrev pub rows_of : List Term → Surroundings → List Row → Row → List Row
rows_of es s rows k = filter (λ r. is_key k (values_at es s r)) rows

-- ---- cells

-- of the types of columns, those behind the keys
abbrev pub types_behind : List Term → List Field → List Ty
types_behind es cs = map ty_of (drop (length es) cs)

-- the aggregate may give these cells over the rows
pub record MayGive (s : Surroundings) (rows : List Row) (g : Aggregating) (ts : List Ty) (cells : Row) : Type 0 where
  pub args : List Row
  pub taken : arguments_over s rows g ≡ Is args
  pub cell : Cell (aggregate_kind g) ts args (Is cells)

-- all of them, one after another
abbrev pub MayGiveAll : Surroundings → List Row → List Aggregating → List Ty → Row → Type 0
MayGiveAll s rows [] ts cells = cells ≡ []
MayGiveAll s rows (g ∷ gs) ts cells =
    (first : Row) × (others : Row) × (cells ≡ first ++ others)
    × MayGive s rows g (take (columns_made g) ts) first × MayGiveAll s rows gs (drop (columns_made g) ts) others

-- a row is a key, and behind it the cells that the aggregates may give over the rows with this key
abbrev pub IsRowOf : List Term → List Aggregating → List Field → Surroundings → List Row → Row → Type 0
IsRowOf es gs cs s rows made = MayGiveAll s (rows_of es s rows (take (length es) made)) gs (types_behind es cs) (drop (length es) made)

-- ---- a summary

-- an argument of an aggregate overflows on a row
abbrev pub ArgumentOverflows : List Aggregating → Surroundings → List Row → Type 0
ArgumentOverflows gs s rows = Any (λ g. Any (λ r. arguments_at g s r ≡ Overflow) rows) gs

-- one row for each key of the rows
pub record IsSummary (es : List Term) (gs : List Aggregating) (cs : List Field) (s : Surroundings) (rows made : List Row) : Type 0 where
  pub keys : AreKeysOf es s rows (map (take (length es)) made)
  pub taken : ArgumentOverflows gs s rows → ⊥
  pub each_row : All (IsRowOf es gs cs s rows) made

-- ---- an overflow

-- a key overflows on a row
abbrev pub KeyOverflows : List Term → Surroundings → List Row → Type 0
KeyOverflows es s rows = Any (λ r. values_at es s r ≡ Overflow) rows

-- the exact sum of what a sum takes of the rows is outside its type
abbrev pub SumOverflows : Surroundings → List Row → Aggregating → List Ty → Type 0
SumOverflows s rows (summed e) ts = (vs : Row) × (each (meaning e s) rows ≡ Is vs) × (sum_in ts (total vs) ≡ Overflow)
SumOverflows s rows g ts = ⊥

abbrev pub SomeSumOverflows : Surroundings → List Row → List Aggregating → List Ty → Type 0
SomeSumOverflows s rows [] ts = ⊥
SomeSumOverflows s rows (g ∷ gs) ts = SumOverflows s rows g (take (columns_made g) ts) ⊎ SomeSumOverflows s rows gs (drop (columns_made g) ts)

-- a key or an argument on a row, or a sum over the rows with some key
abbrev pub SomethingOverflows : List Term → List Aggregating → List Field → Surroundings → List Row → Type 0
SomethingOverflows es gs cs s rows =
    KeyOverflows es s rows ⊎ (ArgumentOverflows gs s rows ⊎ ((k : Row) × SomeSumOverflows s (rows_of es s rows k) gs (types_behind es cs)))
