-- The world of a history: what its names stand for, and which rows they may give.
use Rattle.std.specs.Prelude.{ℕ, List, All, Option, Some, None}
use Rattle.std.specs.Option.{option_and_then, option_map, option_or}
use Rattle.kq_value.specs.Computed.{Computed, Is, Overflow}
use Rattle.kq_run_plan.specs.kq_run_gather.Bodies.{columns_made}
use Rattle.kq_catalog_journal.specs.declared.view.View.{View}
use Rattle.kq_catalog_journal.specs.History.{History, NumberedTable, log, names_of_views, tables, table_numbered, views}
use Rattle.kq_catalog_journal.specs.Records.{rows_in}
use Rattle.kq_catalog_indexes.specs.Places.{place_of}
use Rattle.kq_plan.specs.declared.names.NameKind.TheVariants as name
use Rattle.kq_plan.specs.declared.work.LeafKind.{LeafKind}
use Rattle.kq_plan.specs.declared.work.LeafKind.TheVariants as kind
use Rattle.kq_plan.specs.Names.{Known}
use Rattle.kq_plan.specs.Plans.{planned_of}
use Rattle.kq_value.specs.declared.schema.Field.{Field}
use Rattle.kq_value.specs.declared.value.Value.{Value}
use Rattle.kq_value.specs.Same.{Same}
use Rattle.kq_value.specs.Typed.{HasTypes}
use Rattle.kq_engine_query.specs.Views.{ViewGives, view_numbered}

-- ---- what names stand for

abbrev pub table_found : History → List ℕ → Option NumberedTable
table_found h said = table_numbered said (tables (log h))

-- a view and its number
pub record NumberedView : Type 0 where
  pub number : ℕ
  pub view : View

abbrev pub with_number : ℕ → View → NumberedView
with_number number v = record { number = number; view = v }

abbrev pub view_at : History → ℕ → Option NumberedView
view_at h number = option_map (with_number number) (view_numbered h number)

abbrev pub view_found : History → List ℕ → Option NumberedView
view_found h said = option_and_then (view_at h) (place_of said (names_of_views (views (log h))))

abbrev pub known_table : NumberedTable → Known
known_table found = (name.Table, found.table.schema)

abbrev pub known_view : NumberedView → Known
known_view found = (name.View, columns_made (planned_of found.view.body))

-- the names of tables and of views, with their columns; none is both
abbrev pub known_in : History → List ℕ → Option Known
known_in h said = option_or (option_map known_table (table_found h said)) (option_map known_view (view_found h said))

-- ---- what they give

-- a table gives its rows in any order, and they have the types of its columns; what is no table gives nothing
abbrev pub TableGives : History → Option NumberedTable → Computed (List (List Value)) → Type 0
TableGives h (Some found) (Is rows) = Same rows (rows_in h found.number) × All (HasTypes found.table.schema) rows
TableGives h (Some found) Overflow = ⊥
TableGives h None given = ⊥

-- what is no view gives nothing
abbrev pub FoundGives : History → LeafKind → Option NumberedView → Computed (List (List Value)) → Type 0
FoundGives h kind (Some found) given = ViewGives h kind found.number found.view given
FoundGives h kind None given = ⊥

abbrev pub MayGive : History → List ℕ → LeafKind → List Field → Computed (List (List Value)) → Type 0
MayGive h said kind.Table columns given = TableGives h (table_found h said) given
MayGive h said kind.View columns given = FoundGives h kind.View (view_found h said) given
MayGive h said kind.Part columns given = FoundGives h kind.Part (view_found h said) given
