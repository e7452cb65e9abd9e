-- What contracts see of the tables beside a batch, and of what a plan gives over them.
use Rattle.std.specs.Prelude.{ℕ, List}
use Rattle.kq_catalog_journal.specs.declared.event.Event.{Event}
use Rattle.kq_catalog_journal.specs.Derived.{Row}
use Rattle.kq_run_plan.specs.declared.outcome.Outcome.{Outcome}
use Rattle.kq_run_plan.specs.declared.outcome.Outcome.TheVariants as outcome
use Rattle.kq_plan.specs.declared.plan.Plan.{Plan}

-- the events in order, the number of the source, the rows of the batch, and the plan that reads them
pub record BesideView : Type 0 where
  pub history : List Event
  pub source : ℕ
  pub rows : List Row
  pub plan : Plan

-- rows, or a fault
abbrev pub IsNoCell : Outcome → Type 0
IsNoCell (outcome.Table ordered rows) = Unit {0}
IsNoCell (outcome.Cell v) = ⊥
IsNoCell (outcome.Overflow stage) = Unit {0}
IsNoCell (outcome.Full limit) = Unit {0}
