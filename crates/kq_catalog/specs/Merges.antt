-- When an extent is what some extents of a table become, and what putting it in their place makes.
use Rattle.std.specs.Prelude.{◌≡◌, ◌≤◌, ℕ, Bool, true, false, List, [], ◌∷◌, length, take, nat_eq, All, Contains}
use Rattle.std.specs.List.{list_any}
use Rattle.kq_store_extent.specs.Seen.{ExtentView}
use Rattle.kq_catalog_journal.specs.declared.event.By.{By}
use Rattle.kq_catalog_journal.specs.declared.event.Event.{Event}
use Rattle.kq_catalog_journal.specs.declared.event.Operation.TheVariants as operation
use Rattle.kq_catalog_journal.specs.History.{History, log}
use Rattle.kq_catalog_journal.specs.Records.{ExtentItem, extents, item_ids, picked, records, small_items, united}
use Rattle.kq_catalog.specs.declared.merging.Merging.{Merging}
use Rattle.kq_catalog.specs.declared.merging.MergeFault.{MergeFault}
use Rattle.kq_catalog.specs.declared.merging.MergeFault.TheVariants.{Moved, Memory}
use Rattle.kq_catalog.specs.Held.{extent_item}

-- the old ids are those of the first that are picked in a table, two or more, and the extent has just their records and the union of their tags
pub record IsUnion (h : History) (t : ℕ) (old : List ℕ) (e : ExtentView) : Type 0 where
  pub count : ℕ
  pub some : 2 ≤ count
  pub within : count ≤ length (picked h t)
  pub first : old ≡ item_ids (take count (picked h t))
  pub same : extent_item e ≡ united e.id (take count (picked h t))
  pub rows : All (Contains (records (log h) t)) e.records

-- they were picked at some place of the history
pub record WasPicked (h : History) (m : Merging) : Type 0 where
  pub place : ℕ
  pub union : IsUnion (take place h) m.table m.old m.extent

-- the event of a merge, by the id of the new extent
abbrev pub merge_event : By → ℕ → Merging → Event
merge_event by new m = record { by = by; operation = operation.Merge m.table m.old new }

-- whether the first of some extents has this id
abbrev pub comes_first : ℕ → List ExtentItem → Bool
comes_first id [] = false
comes_first id (i ∷ is) = nat_eq i.id id

-- the first of the old ids is still that of the table's first small extent
pub record IsInFront (small : List ExtentItem) (old : List ℕ) : Type 0 where
  pub id : ℕ
  pub others : List ℕ
  pub is : old ≡ id ∷ others
  pub front : comes_first id small ≡ true

-- the first of the old ids is that of no extent of the table
pub record IsGone (h : History) (m : Merging) (id : ℕ) : Type 0 where
  pub others : List ℕ
  pub is : m.old ≡ id ∷ others
  pub gone : list_any (nat_eq id) (item_ids (extents h m.table)) ≡ false

-- why a merge isn't staged: an old extent is gone, or none is and memory was wanting
abbrev pub Moves : History → Merging → MergeFault → Type 0
Moves h m (Moved id) = IsGone h m id
Moves h m Memory = IsInFront (small_items h m.table) m.old
