-- What is shown of a journal.
use Rattle.std.specs.Prelude.{ℕ, ◌+◌, List, [], ◌∷◌, length, option_map, unwrap_or, codes}
use Rattle.std.specs.List.{slice_get}
use Rattle.kq_value.specs.declared.schema.Field.{Field}
use Rattle.kq_value.specs.declared.ty.Ty.TheVariants as ty
use Rattle.kq_value.specs.declared.value.Value.{Value}
use Rattle.kq_value.specs.declared.value.Value.TheVariants.{Text}
use Rattle.kq_catalog_journal.specs.declared.table.Table.{Table}
use Rattle.kq_catalog_journal.specs.declared.event.Commit.TheVariants.{CreateTable, SetPolicy, CreateView, AlterMerge, Ingest}
use Rattle.kq_catalog_journal.specs.declared.event.Operation.{Operation}
use Rattle.kq_catalog_journal.specs.declared.event.Operation.TheVariants as operation
use Rattle.kq_catalog_journal.specs.declared.event.Event.{Event}
use Rattle.kq_catalog_journal.specs.History.{History, Log, Viewed, commits_of, log, tables, views}
use Rattle.kq_engine_show.specs.Cells.{column, number_cell}

abbrev pub journal_columns : List Field
journal_columns =
    column (codes "Place") ty.Long ∷ column (codes "Kind") ty.Text ∷ column (codes "Cursor") ty.Long ∷ column (codes "Actor") ty.Long
    ∷ column (codes "Number") ty.Long ∷ column (codes "Entity") ty.Text ∷ []

abbrev pub kind_of : Operation → List ℕ
kind_of (operation.Commit (CreateTable name schema)) = codes "CreateTable"
kind_of (operation.Commit (SetPolicy table entries)) = codes "SetPolicy"
kind_of (operation.Commit (CreateView view)) = codes "CreateView"
kind_of (operation.Commit (AlterMerge table columns)) = codes "AlterMerge"
kind_of (operation.Commit (Ingest batches failures)) = codes "Ingest"
kind_of (operation.Fold view to) = codes "Fold"
kind_of (operation.Merge table old new) = codes "Merge"

-- the name of a table by its number; a number that no table has has no name
abbrev pub name_of : Log → ℕ → List ℕ
name_of l number = unwrap_or (option_map (λ (t : Table). t.name) (slice_get (tables l) number)) []

-- and that of a view
abbrev pub view_name_of : Log → ℕ → List ℕ
view_name_of l number = unwrap_or (option_map (λ (v : Viewed). v.view.name) (slice_get (views l) number)) []

-- the table that an event makes or widens, whose policy it sets, that its own batch is for, or whose extents it merges, or the view that it makes or
-- folds, where all these commits were made
abbrev pub entity_of : Log → Operation → List ℕ
entity_of l (operation.Commit (CreateTable name schema)) = name
entity_of l (operation.Commit (SetPolicy table entries)) = name_of l table
entity_of l (operation.Commit (CreateView view)) = view.name
entity_of l (operation.Commit (AlterMerge table columns)) = name_of l table
entity_of l (operation.Commit (Ingest [] failures)) = []
entity_of l (operation.Commit (Ingest (own ∷ derived) failures)) = name_of l own.table
entity_of l (operation.Fold view to) = view_name_of l view
entity_of l (operation.Merge table old new) = name_of l table

-- the cursor that is shown of an operation: a fold's target, and else the cursor after it
abbrev pub cursor_of : ℕ → Operation → ℕ
cursor_of cursor (operation.Commit c) = cursor
cursor_of cursor (operation.Fold view to) = to
cursor_of cursor (operation.Merge table old new) = cursor

-- the event's place, its kind, its cursor, its request id, and its table or view
abbrev pub event_row : Log → ℕ → ℕ → Event → List Value
event_row l place cursor e =
    number_cell place ∷ Text (kind_of e.operation) ∷ number_cell (cursor_of cursor e.operation) ∷ number_cell e.by.actor ∷ number_cell e.by.number
    ∷ Text (entity_of l e.operation) ∷ []

-- the cursor after an event
abbrev pub cursor_after : ℕ → Event → ℕ
cursor_after cursor e = cursor + length (commits_of e.operation)

-- a row for each event behind so many events and commits
abbrev pub rows_behind : Log → ℕ → ℕ → History → List (List Value)
rows_behind l place cursor [] = []
rows_behind l place cursor (e ∷ h) =
    event_row l (place + 1) (cursor_after cursor e) e ∷ rows_behind l (place + 1) (cursor_after cursor e) h

-- a row for each event, in order
abbrev pub journal_rows : History → List (List Value)
journal_rows h = rows_behind (log h) 0 0 h
