-- What is kept up of what stood at a history's end, once it has gone on.
use Rattle.std.specs.Prelude.{◌≡◌, ◌⊎◌, ◌<◌, ◌≤◌, ℕ, List, ◌∷◌, ◌++◌, length, take}
use Rattle.kq_engine.specs.kq_engine_prepare.Folds.{OverflowsBeyond}
use Rattle.kq_engine.specs.Upkeeps.{IsThere}
use Rattle.kq_engine.specs.declared.upkeep.Upkeep.{Upkeep}
use Rattle.kq_engine.specs.declared.upkeep.Upkeep.TheVariants as upkeeps
use Rattle.kq_catalog_journal.specs.declared.event.By.{By}
use Rattle.kq_catalog_journal.specs.declared.event.Operation.TheVariants as operation
use Rattle.kq_catalog_journal.specs.History.{History, cursor, log, view_cursor}
use Rattle.kq_catalog_journal.specs.Records.{picked}

-- a place of a history that isn't before the end of an earlier one
pub record IsLate (first h : History) (place : ℕ) : Type 0 where
  pub since : length first ≤ place
  pub within : place ≤ length h

-- at a late place the view's body overflows over the rows that the view doesn't hold
pub record OverflowsLate (first h : History) (view : ℕ) : Type 0 where
  pub place : ℕ
  pub late : IsLate first h place
  pub stage : ℕ
  pub overflows : OverflowsBeyond (take place h) view stage

-- the view is materialized up to the earlier history's cursor or a later one, or its fold overflows
abbrev pub IsForward : History → History → ℕ → Type 0
IsForward first h view = (cursor first ≤ view_cursor h view) ⊎ OverflowsLate first h view

-- a merge of the table stands in the history after the end of the earlier one
pub record MergedSince (first h : History) (table : ℕ) : Type 0 where
  pub before : History
  pub by : By
  pub old : List ℕ
  pub new : ℕ
  pub after : History
  pub since : length first ≤ length before
  pub is : h ≡ before ++ record { by = by; operation = operation.Merge table old new } ∷ after

-- at a late place fewer than two extents of the table could be merged
pub record HasFewLate (first h : History) (table : ℕ) : Type 0 where
  pub place : ℕ
  pub late : IsLate first h place
  pub few : length (picked (take place h) table) < 2

-- the table was merged, or there was nothing to merge
abbrev pub IsMerged : History → History → ℕ → Type 0
IsMerged first h table = MergedSince first h table ⊎ HasFewLate first h table

-- one or the other
abbrev pub IsKept : History → History → Upkeep → Type 0
IsKept first h (upkeeps.Fold view) = IsForward first h view
IsKept first h (upkeeps.Merge table) = IsMerged first h table

-- the first so many views, or tables, are kept up
abbrev pub AreKeptBelow : History → History → (ℕ → Upkeep) → ℕ → Type 0
AreKeptBelow first h of count = (n : ℕ) → n < count → IsKept first h (of n)

-- each view and each table that stood at the end of the earlier history is kept up
abbrev pub AreKept : History → History → Type 0
AreKept first h = (upkeep : Upkeep) → IsThere (log first) upkeep → IsKept first h upkeep
