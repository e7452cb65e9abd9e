-- The records that a log gives a table, and the extents that a history leaves them in.
use Rattle.std.specs.Prelude.{ℕ, ◌+◌, Bool, not, List, [], ◌∷◌, ◌++◌, length, map, take, nat_eq, nat_lt, if◌then◌else◌, option_map, unwrap_or}
use Rattle.std.specs.List.{filter, flat_map, list_any, slice_get}
use Rattle.kq_value_text_sets.specs.EachOnce.{each_once}
use Rattle.kq_value.specs.declared.record_id.RecordId.{RecordId}
use Rattle.kq_value.specs.declared.schema.Field.{Field}
use Rattle.kq_value.specs.declared.value.Value.{Value}
use Rattle.kq_value.specs.declared.record.Record.{Record}
use Rattle.kq_store_rows.specs.Numbered.{numbered}
use Rattle.kq_catalog_journal.specs.declared.batch.Batch.{Batch}
use Rattle.kq_catalog_journal.specs.declared.event.Commit.{Commit}
use Rattle.kq_catalog_journal.specs.declared.event.Commit.TheVariants.{CreateTable, SetPolicy, CreateView, AlterMerge, Ingest}
use Rattle.kq_catalog_journal.specs.declared.event.Operation.{Operation}
use Rattle.kq_catalog_journal.specs.declared.event.Operation.TheVariants as operation
use Rattle.kq_catalog_journal.specs.declared.table.Table.{Table}
use Rattle.kq_catalog_journal.specs.History.{History, Log, log, commits_of, tables}
use Rattle.kq_store_rows.specs.Widened.{widened_records}

-- the batches of one commit give a table their rows, numbered through from an ordinal on
abbrev pub batch_records : ℕ → ℕ → ℕ → List Batch → List Record
batch_records t cursor ordinal [] = []
batch_records t cursor ordinal (b ∷ bs) =
    if nat_eq b.table t then numbered cursor ordinal b.rows ++ batch_records t cursor (ordinal + length b.rows) bs
    else batch_records t cursor ordinal bs

-- how many rows the batches give a table
abbrev pub rows_to : ℕ → List Batch → ℕ
rows_to t [] = 0
rows_to t (b ∷ bs) = (if nat_eq b.table t then length b.rows else 0) + rows_to t bs

-- the records that a commit at a cursor gives a table
abbrev pub commit_records : ℕ → ℕ → Commit → List Record
commit_records t cursor (CreateTable name schema) = []
commit_records t cursor (CreateView view) = []
commit_records t cursor (SetPolicy table entries) = []
commit_records t cursor (AlterMerge table columns) = []
commit_records t cursor (Ingest batches failures) = batch_records t cursor 0 batches

abbrev pub records_from : ℕ → ℕ → Log → List Record
records_from t n [] = []
records_from t n (c ∷ l) = commit_records t (n + 1) c ++ records_from t (n + 1) l

-- the records that the commits give a table by its number, in the order of commits and batches, as they were given
abbrev pub records_given : Log → ℕ → List Record
records_given l t = records_from t 0 l

-- the columns of a table by its number after the log; a number that no table has has none
abbrev pub schema_of : Log → ℕ → List Field
schema_of l t = unwrap_or (option_map (λ (x : Table). x.schema) (slice_get (tables l) t)) []

-- the records of a table by its number, in the order of commits and batches, each widened to the table's columns
abbrev pub records : Log → ℕ → List Record
records l t = widened_records (schema_of l t) (records_given l t)

-- the rows of a table in the world of a history
abbrev pub rows_in : History → ℕ → List (List Value)
rows_in h t = map (λ (r : Record). r.row) (records (log h) t)

-- an extent by the ids of its records
pub record ExtentItem : Type 0 where
  pub id : ℕ
  pub records : List RecordId
  pub tags : List (List ℕ)

-- an extent of fewer records is small
abbrev pub is_small_item : ExtentItem → Bool
is_small_item i = nat_lt (length i.records) 4096

abbrev pub item_ids : List ExtentItem → List ℕ
item_ids = map (λ (i : ExtentItem). i.id)

abbrev pub ids_of : List Record → List RecordId
ids_of = map (λ (r : Record). r.id)

abbrev pub batch_item : ℕ → ℕ → ℕ → Batch → ExtentItem
batch_item id cursor ordinal b = record { id = id; records = ids_of (numbered cursor ordinal b.rows); tags = b.tags }

-- each batch of a commit is one extent of its table; extents are numbered over all tables
abbrev pub batch_items : ℕ → ℕ → ℕ → ℕ → List Batch → List ExtentItem
batch_items t cursor ordinal id [] = []
batch_items t cursor ordinal id (b ∷ bs) =
    if nat_eq b.table t then batch_item id cursor ordinal b ∷ batch_items t cursor (ordinal + length b.rows) (id + 1) bs
    else batch_items t cursor ordinal (id + 1) bs

abbrev pub commit_items : ℕ → ℕ → ℕ → Commit → List ExtentItem
commit_items t cursor id (CreateTable name schema) = []
commit_items t cursor id (CreateView view) = []
commit_items t cursor id (SetPolicy table entries) = []
commit_items t cursor id (AlterMerge table columns) = []
commit_items t cursor id (Ingest batches failures) = batch_items t cursor 0 id batches

-- one extent with the record ids of some, in order, and the union of their tags
abbrev pub united : ℕ → List ExtentItem → ExtentItem
united id is = record {
  id = id;
  records = flat_map (λ (i : ExtentItem). i.records) is;
  tags = each_once (flat_map (λ (i : ExtentItem). i.tags) is);
}

-- whether an extent has one of these ids
abbrev pub has_id_of : List ℕ → ExtentItem → Bool
has_id_of ids i = list_any (nat_eq i.id) ids

-- the old extents are gone, and one with all that they had comes last
abbrev pub merged : List ℕ → ℕ → List ExtentItem → List ExtentItem
merged old new is = filter (λ i. not (has_id_of old i)) is ++ united new (filter (has_id_of old) is) ∷ []

-- the number of extents that a commit makes
abbrev pub commit_extents : Commit → ℕ
commit_extents (CreateTable name schema) = 0
commit_extents (CreateView view) = 0
commit_extents (SetPolicy table entries) = 0
commit_extents (AlterMerge table columns) = 0
commit_extents (Ingest batches failures) = length batches

-- the number of extents that an operation makes: a merge makes one
abbrev pub operation_extents : Operation → ℕ
operation_extents (operation.Commit c) = commit_extents c
operation_extents (operation.Fold view to) = 0
operation_extents (operation.Merge table old new) = 1

-- the number of extents that were made, in any table
abbrev pub extents_made : History → ℕ
extents_made [] = 0
extents_made (e ∷ h) = operation_extents e.operation + extents_made h

-- the extents of a table after one more operation, by its cursor if it is a commit, and the id of the next extent
abbrev pub items_after : ℕ → ℕ → ℕ → Operation → List ExtentItem → List ExtentItem
items_after t cursor id (operation.Commit c) is = is ++ commit_items t cursor id c
items_after t cursor id (operation.Fold view to) is = is
items_after t cursor id (operation.Merge table old new) is = if nat_eq table t then merged old new is else is

abbrev pub extents_from : ℕ → ℕ → ℕ → List ExtentItem → History → List ExtentItem
extents_from t n id is [] = is
extents_from t n id is (e ∷ h) = extents_from t (n + length (commits_of e.operation)) (id + operation_extents e.operation) (items_after t (n + 1) id e.operation is) h

-- the extents of a table in order, with ids from 1 over all tables in the order of making
abbrev pub extents : History → ℕ → List ExtentItem
extents h t = extents_from t 0 1 [] h

-- those of fewer than 4096 records
abbrev pub small_items : History → ℕ → List ExtentItem
small_items h t = filter is_small_item (extents h t)

-- those that a merge may replace: the first 64 small ones, or all where there are fewer
abbrev pub picked : History → ℕ → List ExtentItem
picked h t = take 64 (small_items h t)
