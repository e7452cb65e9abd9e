-- What rows come to whose parts were gathered by themselves.
use Rattle.std.specs.Prelude.{◌≡◌, min, map}
use Rattle.kq_run_groups.specs.Groups.{Grouping, HasAllGroups, shape_of}
use Rattle.kq_run_groups.specs.Merges.{Merges}
use Rattle.kq_run_gather.specs.declared.arriving.Arrived.{Arrived}
use Rattle.kq_run_gather.specs.declared.arriving.Arrived.TheVariants as arrived

-- groups under the same keys and aggregates
pub record Alike (g h : Grouping) : Type 0 where
  pub whole : HasAllGroups g
  pub other : HasAllGroups h
  pub width : h.width ≡ g.width
  pub shapes : map shape_of h.states ≡ map shape_of g.states

abbrev pub AreAlike : Arrived → Arrived → Type 0
AreAlike (arrived.Groups g) (arrived.Groups h) = Alike g h
AreAlike (arrived.Groups g) arrived.Overflow = Unit {0}
AreAlike (arrived.Groups g) (arrived.Failed m) = Unit {0}
AreAlike arrived.Overflow b = Unit {0}
AreAlike (arrived.Failed n) b = Unit {0}

-- the least number of an operator that failed, or an overflow, or the groups of both
abbrev pub JoinTo : Arrived → Arrived → Arrived → Type 0
JoinTo (arrived.Groups g) (arrived.Groups h) c = (m : Grouping) × (c ≡ arrived.Groups m) × Merges h g m
JoinTo (arrived.Groups g) arrived.Overflow c = c ≡ arrived.Overflow
JoinTo (arrived.Groups g) (arrived.Failed m) c = c ≡ arrived.Failed m
JoinTo arrived.Overflow (arrived.Groups h) c = c ≡ arrived.Overflow
JoinTo arrived.Overflow arrived.Overflow c = c ≡ arrived.Overflow
JoinTo arrived.Overflow (arrived.Failed m) c = c ≡ arrived.Failed m
JoinTo (arrived.Failed n) (arrived.Groups h) c = c ≡ arrived.Failed n
JoinTo (arrived.Failed n) arrived.Overflow c = c ≡ arrived.Failed n
JoinTo (arrived.Failed n) (arrived.Failed m) c = c ≡ arrived.Failed (min n m)
