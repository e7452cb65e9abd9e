-- The smallest steps that commits are made of, and what each leaves of the tables.
use Rattle.std.specs.Prelude.{◌≡◌, ◌<◌, ◌^◌, ℕ, ◌+◌, List, [], ◌∷◌, ◌++◌, length, map, All, Some, None}
use Rattle.std.specs.List.{slice_get}
use Rattle.kq_value.specs.declared.record.Record.{Record}
use Rattle.kq_value.specs.declared.schema.Field.{Field}
use Rattle.kq_value.specs.Typed.{HasTypes}
use Rattle.kq_store_rows.specs.Numbered.{numbered}
use Rattle.kq_catalog_journal.specs.declared.batch.Batch.{Batch}
use Rattle.kq_catalog_journal.specs.declared.event.Commit.{Commit}
use Rattle.kq_catalog_journal.specs.declared.event.Commit.TheVariants.{CreateTable, SetPolicy, CreateView, AlterMerge, Ingest}
use Rattle.kq_catalog_journal.specs.declared.table.Table.{Table}
pub use Rattle.kq_catalog_journal.specs.Changed.{changed}
use Rattle.kq_catalog_journal.specs.History.{table_named, widened_table}
use Rattle.kq_catalog_journal.specs.Records.{rows_to}

-- a table put last, further columns of a table at a cursor, or an extent of a table put last, with its id, its records and its tags
pub data Edit : Type 0 where
  NewTable : Table → Edit
  NewColumns : ℕ → ℕ → List Field → Edit
  NewExtent : ℕ → ℕ → List Record → List (List ℕ) → Edit

-- the extents of batches: ids go on from a number, and ordinals behind the rows that batches before gave the same table
abbrev pub new_extents : ℕ → ℕ → List Batch → List Batch → List Edit
new_extents cursor id before [] = []
new_extents cursor id before (b ∷ bs) = NewExtent b.table id (numbered cursor (rows_to b.table before) b.rows) b.tags ∷ new_extents cursor (id + 1) (before ++ b ∷ []) bs

-- the edits of a commit, by its cursor and the id of the next extent; a view edits no table
abbrev pub edits_of : ℕ → ℕ → Commit → List Edit
edits_of cursor id (CreateTable name schema) = NewTable (record { name = name; schema = schema; made = cursor; widened = cursor }) ∷ []
edits_of cursor id (CreateView view) = []
edits_of cursor id (SetPolicy table entries) = []
edits_of cursor id (AlterMerge table columns) = NewColumns table cursor columns ∷ []
edits_of cursor id (Ingest batches failures) = new_extents cursor id [] batches

-- a new table's name is new, and its number is one of 32 bits; columns and an extent go to a table that stands, and the extent's rows have the
-- table's types
abbrev pub FitsTables : List Table → Edit → Type 0
FitsTables ts (NewTable table) = (table_named table.name ts ≡ None) × (length ts < 2 ^ 32)
FitsTables ts (NewColumns n cursor columns) = n < length ts
FitsTables ts (NewExtent n id records tags) = (n < length ts) × ((t : Table) → slice_get ts n ≡ Some t → All (HasTypes t.schema) (map (λ (r : Record). r.row) records))

-- the tables after an edit
abbrev pub tables_after : List Table → Edit → List Table
tables_after ts (NewTable table) = ts ++ table ∷ []
tables_after ts (NewColumns n cursor columns) = changed (widened_table cursor columns) n ts
tables_after ts (NewExtent n id records tags) = ts

-- each of the edits fits the tables after those before it
abbrev pub FitAll : List Table → List Edit → Type 0
FitAll ts [] = Unit {0}
FitAll ts (e ∷ es) = FitsTables ts e × FitAll (tables_after ts e) es
