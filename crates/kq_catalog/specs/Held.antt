-- What is held of a table, and when it is what a history says of the table.
use Rattle.std.specs.Prelude.{◌≡◌, ℕ, not, List, map, All, Option, MatchOption, None, Some}
use Rattle.std.specs.Borrow.{Bor}
use Rattle.std.specs.List.{filter}
use Rattle.std.specs.List.Sorted.{IsPermutation}
use Rattle.kq_value.specs.Typed.{HasTypes}
use Rattle.kq_store_extent.specs.Seen.{ExtentView, HeldExtents, held_records, row_of}
use Rattle.kq_store_extent.specs.Wide.{wide_held}
use Rattle.kq_catalog_journal.specs.declared.table.Table.{Table}
use Rattle.kq_catalog_journal.specs.History.{table_numbered}
use Rattle.kq_catalog_journal.specs.Records.{ExtentItem, ids_of, is_small_item}
use Rattle.kq_catalog_journal.specs.Tables.{TableState}

-- a table, and its extents
pub record HeldTable : Type 0 where
  pub table : Table
  pub extents : HeldExtents

abbrev pub tables_in : List HeldTable → List Table
tables_in = map (λ (h : HeldTable). h.table)

-- an extent by the ids of its records
abbrev pub extent_item : ExtentView → ExtentItem
extent_item e = record { id = e.id; records = ids_of e.records; tags = e.tags }

-- the extents of a history are those that are held: the small ones in order, and the others in order
pub record AreItems (items : List ExtentItem) (held : HeldExtents) : Type 0 where
  pub small : map extent_item held.small ≡ filter is_small_item items
  pub big : map extent_item held.big ≡ filter (λ i. not (is_small_item i)) items

-- what is held of a table is what the history says of it: each of its records stands once in the extents, widened to the table's columns, and nothing
-- else does, the extents are those of the history, and the rows have the table's types
pub record IsHeld (held : HeldTable) (state : TableState) : Type 0 where
  pub table : held.table ≡ state.table
  pub once : IsPermutation (held_records (wide_held held.table.schema held.extents)) state.records
  pub in_order : AreItems state.items held.extents
  pub typed : All (HasTypes state.table.schema) (map row_of state.records)

-- what a name finds among tables: the table with its number, or nothing where there is none
abbrev pub FindsTable : List ℕ → List Table → Option (ℕ × Bor Table) → Type 0
FindsTable name ts found = MatchOption found (table_numbered name ts ≡ None) (λ p. table_numbered name ts ≡ Some (record { number = p.0; table = p.1.now }))
