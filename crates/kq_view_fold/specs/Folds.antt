-- What comes of rows that are folded behind those of a view's part.
use Rattle.std.specs.Prelude.{List, ◌++◌, Result, Ok, Err}
use Rattle.kq_run_groups.specs.Groups.{Grouping}
use Rattle.kq_run_gather.specs.Arriving.{ArriveAs}
use Rattle.kq_run_gather.specs.Bodies.{OverflowsAt, StandsFor, aggregates_of, alone, columns_made, keys_of, ran_by}
use Rattle.kq_run_gather.specs.declared.arriving.Arrived.{Arrived}
use Rattle.kq_run_gather.specs.kq_eval_pieces.Operators.{Row}
use Rattle.kq_plan.specs.Plans.{Planned}
use Rattle.kq_view_fold.specs.declared.group.GroupFault.{GroupFault}
use Rattle.kq_view_fold.specs.declared.group.GroupFault.TheVariants as fault

-- what rows of a body's table come to
abbrev pub Arrives : Planned → List Row → Arrived → Type 0
Arrives p rows = ArriveAs (keys_of p) (aggregates_of p) (columns_made p) alone (ran_by p rows)

-- the groups of the rows, or the stage at which one overflows
abbrev pub GroupsTo : Planned → List Row → Result Grouping GroupFault → Type 0
GroupsTo p rows (Ok g) = StandsFor p rows g
GroupsTo p rows (Err (fault.Overflow stage)) = OverflowsAt p rows stage
GroupsTo p rows (Err fault.Memory) = Unit {0}

-- the groups stand for some rows
pub record IsPartOf (p : Planned) (part : Grouping) : Type 0 where
  pub had : List Row
  pub stands : StandsFor p had part

-- for whatever rows the part stands, with these behind them; or the stage at which one of these overflows
abbrev pub FoldsTo : Planned → Grouping → List Row → Result Grouping GroupFault → Type 0
FoldsTo p part delta (Ok new) = (had : List Row) → StandsFor p had part → StandsFor p (had ++ delta) new
FoldsTo p part delta (Err (fault.Overflow stage)) = OverflowsAt p delta stage
FoldsTo p part delta (Err fault.Memory) = Unit {0}
