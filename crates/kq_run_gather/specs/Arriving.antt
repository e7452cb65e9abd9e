-- What rows that come through row operators come to.
use Rattle.std.specs.Prelude.{◌≡◌, List, Option, Some, None, drop, length, map}
use Rattle.kq_value.specs.Computed.{Overflow}
use Rattle.kq_plan_expressions.specs.Terms.{Term}
use Rattle.kq_run_groups.specs.Groups.{Grouping, Starts}
use Rattle.kq_plan.specs.Fits.{ty_of}
use Rattle.kq_plan.specs.Plans.{Aggregating}
use Rattle.kq_run_scan.specs.kq_eval_row.Val.{Surroundings}
use Rattle.kq_run_row_operators.specs.Ran.{Ran, came, failed}
use Rattle.kq_value.specs.declared.schema.Field.{Field}
use Rattle.kq_run_gather.specs.Grouping.{GroupsOf, keyed, under}
use Rattle.kq_run_gather.specs.declared.arriving.Arrived.{Arrived}
use Rattle.kq_run_gather.specs.declared.arriving.Arrived.TheVariants as arrived

-- the groups of the rows that came, or an overflow where a key or an argument overflows on one of them; or else the number of the operator that
-- failed
abbrev pub ArriveAs : List Term → List Aggregating → List Field → Surroundings → Ran → Arrived → Type 0
ArriveAs es gs cs s (came rows) (arrived.Groups g) = GroupsOf es gs (map ty_of (drop (length es) cs)) s rows g
ArriveAs es gs cs s (came rows) arrived.Overflow = keyed es gs s rows ≡ Overflow
ArriveAs es gs cs s (came rows) (arrived.Failed n) = ⊥
ArriveAs es gs cs s (failed m) (arrived.Groups g) = ⊥
ArriveAs es gs cs s (failed m) arrived.Overflow = ⊥
ArriveAs es gs cs s (failed m) (arrived.Failed n) = n ≡ m

-- an overflow before these: an operator that failed on one of them goes first
abbrev pub overflow_before : Ran → Arrived
overflow_before (came rows) = arrived.Overflow
overflow_before (failed n) = arrived.Failed n

-- groups of no rows, by keys and with aggregates, whose columns stand behind those of the keys
abbrev pub BeginAs : List Term → List Aggregating → List Field → Grouping → Type 0
BeginAs es gs cs g = Starts (length es) (under gs (map ty_of (drop (length es) cs))) g

-- what arrives: groups, where nothing else does
abbrev pub groups_or : Grouping → Option Arrived → Arrived
groups_or g None = arrived.Groups g
groups_or g (Some other) = other
