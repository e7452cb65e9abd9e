-- What the tables of states keep, by the groups' numbers.
use Rattle.std.specs.Prelude.{◌≡◌, List, map}
use Rattle.kq_value.specs.declared.ty.Ty.{Ty}
use Rattle.kq_run_aggregates.specs.Holds.{Kept, counted, summed, extreme, chosen, collected}
use Rattle.kq_run_aggregates.specs.declared.kind.Kind.{Kind}
use Rattle.kq_run_aggregates.specs.declared.kind.Kind.TheVariants as kind
use Rattle.kq_run_aggregates.specs.declared.kind.Side.{Side}
use Rattle.kq_run_aggregates.specs.declared.kind.Side.TheVariants as side
use Rattle.kq_run_aggregates.specs.declared.kind.Choice.{Choice}
use Rattle.kq_run_aggregates.specs.declared.kind.Choice.TheVariants as choice
use Rattle.kq_run_aggregates.specs.declared.table.Table.{Table}
use Rattle.kq_run_aggregates.specs.declared.table.Table.TheVariants as table

abbrev pub side_kind : Side → Kind
side_kind side.Least = kind.Min
side_kind side.Greatest = kind.Max

abbrev pub choice_kind : Choice → Kind
choice_kind (choice.By side.Least) = kind.ArgMin
choice_kind (choice.By side.Greatest) = kind.ArgMax
choice_kind choice.Any = kind.TakeAny

abbrev pub kind_of : Table → Kind
kind_of (table.Counts counts) = kind.Count
kind_of (table.Sums sums) = kind.Sum
kind_of (table.Extremes side values) = side_kind side
kind_of (table.Chosen choice rows) = choice_kind choice
kind_of (table.Sets most sets) = kind.MakeSet most

abbrev pub kept_of : Table → List Kept
kept_of (table.Counts counts) = map counted counts.items
kept_of (table.Sums sums) = map summed sums.items
kept_of (table.Extremes side values) = map extreme values.items
kept_of (table.Chosen choice rows) = map chosen rows.items
kept_of (table.Sets most sets) = map collected sets.items

-- the states of all groups of one aggregate: its kind, the types of its columns, and what is kept of each group
pub record Numbered : Type 0 where
  pub kind : Kind
  pub types : List Ty
  pub kept : List Kept

abbrev pub SameShape : Numbered → Numbered → Type 0
SameShape old new = (new.kind ≡ old.kind) × (new.types ≡ old.types)
