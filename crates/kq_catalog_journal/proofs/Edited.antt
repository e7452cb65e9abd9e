-- What edits, and a merge, leave of the tables.
use Rattle.std.specs.Prelude.{ℕ, List, [], ◌∷◌, ◌++◌}
use Rattle.kq_value.specs.declared.record.Record.{Record}
use Rattle.kq_value.specs.declared.schema.Field.{Field}
use Rattle.kq_catalog_journal.specs.declared.table.Table.{Table}
use Rattle.kq_catalog_journal.specs.History.{widened_table}
use Rattle.kq_catalog_journal.specs.Records.{ExtentItem, ids_of, merged}
use Rattle.kq_catalog_journal.specs.Tables.{TableState}
use Rattle.kq_store_rows.specs.Widened.{widened_records}
use Rattle.kq_catalog_journal.specs.Changed.{changed}
use Rattle.kq_catalog_journal.specs.Edits.{Edit}
use Rattle.kq_catalog_journal.specs.Edits.Edit.{NewTable, NewColumns, NewExtent}

-- a table before it has records
abbrev pub empty_state : Table → TableState
empty_state table = record { table = table; records = []; items = [] }

abbrev pub item_with : ℕ → List Record → List (List ℕ) → ExtentItem
item_with id records tags = record { id = id; records = ids_of records; tags = tags }

-- a table with further columns, to which its records are widened
abbrev pub with_columns : ℕ → List Field → TableState → TableState
with_columns cursor columns t = record t { table = widened_table cursor columns t.table; records = widened_records (t.table.schema ++ columns) t.records }

-- a table with an extent more, whose records are widened to the table's columns
abbrev pub with_records : ℕ → List Record → List (List ℕ) → TableState → TableState
with_records id records tags t = record t { records = t.records ++ widened_records t.table.schema records; items = t.items ++ item_with id records tags ∷ [] }

abbrev pub edited : List TableState → Edit → List TableState
edited ts (NewTable table) = ts ++ empty_state table ∷ []
edited ts (NewColumns n cursor columns) = changed (with_columns cursor columns) n ts
edited ts (NewExtent n id records tags) = changed (with_records id records tags) n ts

-- one edit after another
abbrev pub edited_by : List TableState → List Edit → List TableState
edited_by ts [] = ts
edited_by ts (e ∷ es) = edited_by (edited ts e) es

-- a table after a merge of its extents: its records stay
abbrev pub with_merged : List ℕ → ℕ → TableState → TableState
with_merged old new t = record t { items = merged old new t.items }
