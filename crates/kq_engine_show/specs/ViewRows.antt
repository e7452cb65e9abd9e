-- What is shown of a view.
use Rattle.std.specs.Prelude.{ℕ, List, [], ◌∷◌, Option, Some, None, codes}
use Rattle.std.specs.List.{slice_get}
use Rattle.std.specs.Option.{option_map}
use Rattle.kq_value.specs.declared.schema.Field.{Field}
use Rattle.kq_value.specs.declared.ty.Ty.TheVariants as ty
use Rattle.kq_value.specs.declared.value.Value.{Value}
use Rattle.kq_value.specs.declared.value.Value.TheVariants.{Text}
use Rattle.kq_catalog_journal.specs.declared.view.View.{View}
use Rattle.kq_catalog_journal.specs.History.{History, Viewed, log, view_cursor, views}
use Rattle.kq_engine_show.specs.Cells.{column, number_cell}
use Rattle.kq_engine_show.specs.JournalRows.{name_of}

abbrev pub view_columns : List Field
view_columns =
    column (codes "Name") ty.Text ∷ column (codes "SourceTable") ty.Text ∷ column (codes "Query") ty.Text ∷ column (codes "Base") ty.Long
    ∷ column (codes "MaterializedTo") ty.Long ∷ []

-- its name, that of its table, its query, the cursor above which it covers records, and the one up to which it is materialized
abbrev pub view_row : History → ℕ → View → List Value
view_row h number v = Text v.name ∷ Text (name_of (log h) v.source) ∷ Text v.text ∷ number_cell v.base ∷ number_cell (view_cursor h number) ∷ []

-- a row for the view that there is
abbrev pub rows_for : History → ℕ → Option View → List (List Value)
rows_for h number None = []
rows_for h number (Some v) = view_row h number v ∷ []

-- the row of the view of a number
abbrev pub view_rows : History → ℕ → List (List Value)
view_rows h number = rows_for h number (option_map (λ (v : Viewed). v.view) (slice_get (views (log h)) number))
