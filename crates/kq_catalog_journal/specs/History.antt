-- What a list of events says: its commits, its cursor and its tables.
use Rattle.std.specs.Prelude.{ℕ, ◌+◌, Bool, List, [], ◌∷◌, ◌++◌, length, map, Option, Some, None, nat_eq, if◌then◌else◌, unwrap_or}
use Rattle.std.specs.List.{find, flat_map, slice_get}
use Rattle.std.specs.Option.{option_map}
use Rattle.std.specs.Cmp.Lexicographic.{pointwise}
use Rattle.kq_value.specs.declared.schema.Field.{Field}
use Rattle.kq_catalog_journal.specs.declared.table.Table.{Table}
use Rattle.kq_catalog_journal.specs.declared.event.By.{By}
use Rattle.kq_catalog_journal.specs.declared.event.Commit.{Commit}
use Rattle.kq_catalog_journal.specs.declared.event.Commit.TheVariants.{CreateTable, SetPolicy, CreateView, AlterMerge, Ingest}
use Rattle.kq_catalog_journal.specs.declared.event.Operation.{Operation}
use Rattle.kq_catalog_journal.specs.declared.event.Operation.TheVariants as operation
use Rattle.kq_catalog_journal.specs.declared.event.Event.{Event}
use Rattle.kq_catalog_journal.specs.declared.view.View.{View}
use Rattle.kq_catalog_journal.specs.Changed.{changed}
use Rattle.kq_value_text_sets.specs.Names.{is_among}

abbrev pub History : Type 0
History = List Event

abbrev pub Log : Type 0
Log = List Commit

-- the commits of an operation: one or none
abbrev pub commits_of : Operation → Log
commits_of (operation.Commit c) = c ∷ []
commits_of (operation.Fold view to) = []
commits_of (operation.Merge table old new) = []

-- the commits, in order
abbrev pub log : History → Log
log = flat_map (λ (e : Event). commits_of e.operation)

-- the number of commits; the cursor of a commit is its place in the log, from 1
abbrev pub cursor : History → ℕ
cursor h = length (log h)

-- a table with further columns behind its own, widened at a cursor
abbrev pub widened_table : ℕ → List Field → Table → Table
widened_table at columns t = record t { schema = t.schema ++ columns; widened = at }

-- the tables after one more commit, whose cursor is given
abbrev pub tables_with : ℕ → Commit → List Table → List Table
tables_with at (CreateTable name schema) tables = tables ++ record { name = name; schema = schema; made = at; widened = at } ∷ []
tables_with at (CreateView view) tables = tables
tables_with at (SetPolicy table entries) tables = tables
tables_with at (AlterMerge table columns) tables = changed (widened_table at columns) table tables
tables_with at (Ingest batches failures) tables = tables

abbrev pub tables_from : ℕ → List Table → Log → List Table
tables_from n tables [] = tables
tables_from n tables (c ∷ l) = tables_from (n + 1) (tables_with (n + 1) c tables) l

-- the tables, in the order of their creation
abbrev pub tables : Log → List Table
tables = tables_from 0 []

-- the table of a name
abbrev pub table_named : List ℕ → List Table → Option Table
table_named name = find (λ (t : Table). pointwise nat_eq t.name name)

-- a table and its number: its place, from 0
pub record NumberedTable : Type 0 where
  pub number : ℕ
  pub table : Table

abbrev pub numbered_from : ℕ → List ℕ → List Table → Option NumberedTable
numbered_from n name [] = None
numbered_from n name (t ∷ ts) = if pointwise nat_eq t.name name then Some (record { number = n; table = t }) else numbered_from (n + 1) name ts

-- the table of a name, with its number
abbrev pub table_numbered : List ℕ → List Table → Option NumberedTable
table_numbered = numbered_from 0

-- a commit's place in the journal, from 1, and its cursor
pub record CommitAt : Type 0 where
  pub place : ℕ
  pub by : By

-- an event's commit at its place, if it has one
abbrev pub commit_at : Event → ℕ → List CommitAt
commit_at e place = map (λ (c : Commit). record { place = place; by = e.by }) (commits_of e.operation)

abbrev pub commits_from : ℕ → History → List CommitAt
commits_from n [] = []
commits_from n (e ∷ h) = commit_at e (n + 1) ++ commits_from (n + 1) h

-- the commits with their places and request ids, in order
abbrev pub commits_at : History → List CommitAt
commits_at = commits_from 0

-- ---- views

-- a view with the cursor of the commit that made it
pub record Viewed : Type 0 where
  pub view : View
  pub made : ℕ

-- the view that a commit makes, by the commit's cursor: one or none
abbrev pub views_by : ℕ → Commit → List Viewed
views_by at (CreateTable name schema) = []
views_by at (CreateView view) = record { view = view; made = at } ∷ []
views_by at (SetPolicy table entries) = []
views_by at (AlterMerge table columns) = []
views_by at (Ingest batches failures) = []

abbrev pub views_from : ℕ → Log → List Viewed
views_from n [] = []
views_from n (c ∷ l) = views_by (n + 1) c ++ views_from (n + 1) l

-- the views, in the order of their creation
abbrev pub views : Log → List Viewed
views = views_from 0

abbrev pub view_count : Log → ℕ
view_count l = length (views l)

abbrev pub names_of_views : List Viewed → List (List ℕ)
names_of_views = map (λ (v : Viewed). v.view.name)

-- whether a view has the name
abbrev pub is_view : List ℕ → Log → Bool
is_view name l = is_among name (names_of_views (views l))

-- the cursor up to which a view, by its number, is materialized after one more operation
abbrev pub view_cursor_after : ℕ → ℕ → Operation → ℕ
view_cursor_after n at (operation.Commit c) = at
view_cursor_after n at (operation.Fold view to) = if nat_eq view n then to else at
view_cursor_after n at (operation.Merge table old new) = at

abbrev pub view_cursor_from : ℕ → ℕ → History → ℕ
view_cursor_from n at [] = at
view_cursor_from n at (e ∷ h) = view_cursor_from n (view_cursor_after n at e.operation) h

-- the cursor above which a view covers records; a number that no view has has 0
abbrev pub base_of : Log → ℕ → ℕ
base_of l n = unwrap_or (option_map (λ (v : Viewed). v.view.base) (slice_get (views l) n)) 0

-- the cursor up to which a view, by its number, is materialized: that of its last fold, or its base without one
abbrev pub view_cursor : History → ℕ → ℕ
view_cursor h n = view_cursor_from n (base_of (log h) n) h
