-- Edits as the program makes them, and what each leaves of the tables that are held.
use Rattle.std.specs.Prelude.{◌≡◌, ℕ, nat_eq, List, [], ◌∷◌, ◌++◌, length, map, sum_by}
use Rattle.std.specs.Arc.{arc_value}
use Rattle.std.specs.HashMap.{get, HashMap}
use Rattle.std.specs.Option.{unwrap_or}
use Rattle.kq_value.specs.declared.schema.Field.{Field}
use Rattle.kq_store_extent.specs.Seen.{ExtentView}
use Rattle.kq_store_extent.specs.Split.{put, without_first}
use Rattle.kq_catalog_journal.specs.declared.batch.Batch.{Batch}
use Rattle.kq_catalog_journal.specs.declared.table.Table.{Table}
use Rattle.kq_catalog_journal.specs.Edits.{Edit, edits_of, changed}
use Rattle.kq_catalog_journal.specs.Edits.Edit.{NewTable, NewColumns, NewExtent}
use Rattle.kq_catalog_journal.specs.History.{widened_table}
use Rattle.kq_catalog_journal.specs.Records.{commit_extents}
use Rattle.kq_catalog.specs.declared.edit.Change.{Change}
use Rattle.kq_catalog.specs.declared.edit.Change.TheVariants.{PutTable, PutColumns, PutExtent}
use Rattle.kq_catalog.specs.declared.intent.Intent.{Intent}
use Rattle.kq_catalog.specs.declared.edits.Edits.{Edits}
use Rattle.kq_catalog.specs.Held.{HeldTable}
use Rattle.kq_catalog.specs.Intents.{commit_of, view_by}

abbrev pub edit_with : ℕ → ExtentView → Edit
edit_with n e = NewExtent n e.id e.records e.tags

-- the edit of the history that a change makes
abbrev pub edit_of : Change → Edit
edit_of (PutTable table) = NewTable (arc_value table)
edit_of (PutColumns n cursor columns) = NewColumns n cursor columns
edit_of (PutExtent n extent) = edit_with n (arc_value extent)

abbrev pub edits_by : List Change → List Edit
edits_by = map edit_of

-- a table before it has extents
abbrev pub empty_table : Table → HeldTable
empty_table table = record { table = table; extents = record { small = []; big = [] } }

-- a table with further columns; its extents stay as they are
abbrev pub wider_table : ℕ → List Field → HeldTable → HeldTable
wider_table cursor columns h = record h { table = widened_table cursor columns h.table }

-- a table with an extent more
abbrev pub with_extent : ExtentView → HeldTable → HeldTable
with_extent e h = record h { extents = put h.extents e }

-- a table with the first of its small extents replaced by one
abbrev pub with_merged : ℕ → ExtentView → HeldTable → HeldTable
with_merged count e h = record h { extents = put (without_first count h.extents) e }

abbrev pub put_in : List HeldTable → Change → List HeldTable
put_in hs (PutTable table) = hs ++ empty_table (arc_value table) ∷ []
put_in hs (PutColumns n cursor columns) = changed (wider_table cursor columns) n hs
put_in hs (PutExtent n extent) = changed (with_extent (arc_value extent)) n hs

-- one change after another
abbrev pub put_all : List HeldTable → List Change → List HeldTable
put_all hs [] = hs
put_all hs (c ∷ cs) = put_all (put_in hs c) cs

-- it has the commit, the changes that are its edits, the view that it makes, and the number of extents that it makes
pub record AreEdits (cursor id : ℕ) (intent : Intent) (staged : Edits) : Type 0 where
  pub is : staged.commit ≡ commit_of intent
  pub edits : edits_by staged.changes.items ≡ edits_of cursor id (commit_of intent)
  pub view : staged.view ≡ view_by cursor intent
  pub made : staged.made ≡ commit_extents (commit_of intent)

abbrev pub total_rows : List Batch → ℕ
total_rows = sum_by (λ (b : Batch). length b.rows)

-- how many rows a table was given
abbrev pub count_given : {S : Type 0} → HashMap ℕ ℕ S → ℕ → ℕ
count_given given t = unwrap_or (get nat_eq given t) 0
