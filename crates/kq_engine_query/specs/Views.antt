-- What a view may give: what its body may give over the rows that it covers.
use Rattle.std.specs.Prelude.{◌≡◌, ℕ, pos, Bool, List, All, Option, length, map, nat_lt, sum_by, if◌then◌else◌}
use Rattle.std.specs.List.{list_any, slice_get}
use Rattle.std.specs.Option.{option_map}
use Rattle.kq_value.specs.Computed.{Computed, Is, Overflow}
use Rattle.kq_run_plan.specs.kq_run_gather.Bodies.{columns_made}
use Rattle.kq_catalog_journal.specs.declared.view.View.{View}
use Rattle.kq_catalog_journal.specs.History.{History, Viewed, cursor, log, view_cursor, views}
use Rattle.kq_catalog_journal.specs.Records.{ExtentItem, extents}
use Rattle.kq_catalog_journal.specs.Views.{covered}
use Rattle.kq_run_plan.specs.declared.outcome.Outcome.{Outcome}
use Rattle.kq_run_plan.specs.declared.outcome.Outcome.TheVariants as outcome
use Rattle.kq_run_plan.specs.Gives.{Gives, World}
use Rattle.kq_run_plan.specs.Outcomes.{Row}
use Rattle.kq_plan.specs.declared.work.LeafKind.{LeafKind}
use Rattle.kq_plan.specs.declared.work.LeafKind.TheVariants as kind
use Rattle.kq_plan.specs.Plans.{Planned, planned_of}
use Rattle.kq_value.specs.declared.record_id.RecordId.{RecordId}
use Rattle.kq_value.specs.declared.schema.Field.{Field}
use Rattle.kq_value.specs.Typed.{HasTypes}

abbrev pub view_of : Viewed → View
view_of v = v.view

-- the view of a number
abbrev pub view_numbered : History → ℕ → Option View
view_numbered h number = option_map view_of (slice_get (views (log h)) number)

-- the columns of a view's rows
abbrev pub columns_of_view : Viewed → List Field
columns_of_view v = columns_made (planned_of v.view.body)

abbrev pub columns_of_views : History → List (List Field)
columns_of_views h = map columns_of_view (views (log h))

-- every name gives these rows
abbrev pub alone_world : List Row → World
alone_world rows said kind columns given = given ≡ Is rows

-- an outcome's rows, which have the types of these columns, or its overflow
abbrev pub TellsRows : List Field → Outcome → Computed (List Row) → Type 0
TellsRows columns (outcome.Table ordered rows) given = (given ≡ Is rows) × All (HasTypes columns) rows
TellsRows columns (outcome.Cell v) given = ⊥
TellsRows columns (outcome.Overflow stage) given = given ≡ Overflow
TellsRows columns (outcome.Full limit) given = ⊥

-- what a body may give over rows of its table, or that it may overflow; it asks for no moment
pub record BodyGives (p : Planned) (rows : List Row) (given : Computed (List Row)) : Type 0 where
  pub outcome : Outcome
  pub gives : Gives p (alone_world rows) (pos 0) outcome
  pub told : TellsRows (columns_made p) outcome given

-- up to which cursor a leaf reads the records of a view: a part up to the view's cursor, and the view up to the last commit
abbrev pub up_to : LeafKind → ℕ → ℕ → ℕ
up_to kind.Part view_cursor cursor = view_cursor
up_to _ view_cursor cursor = cursor

abbrev pub read_to : History → LeafKind → ℕ → ℕ
read_to h kind number = up_to kind (view_cursor h number) (cursor h)

-- a view gives what its body may give over the records that it covers, cut to the columns that its table had when it was made
abbrev pub ViewGives : History → LeafKind → ℕ → View → Computed (List Row) → Type 0
ViewGives h kind number v = BodyGives (planned_of v.body) (covered (log h) v v.base (read_to h kind number))

-- ---- what is looked at

-- whether an extent has a record above a cursor
abbrev pub has_later : ℕ → ExtentItem → Bool
has_later above i = list_any (λ (id : RecordId). nat_lt above id.cursor) i.records

-- how many records there are in the extents of a table that have one above a cursor
abbrev pub records_later : History → ℕ → ℕ → ℕ
records_later h t above = sum_by (λ (i : ExtentItem). if has_later above i then length i.records else 0) (extents h t)

-- how many records are looked at for the rows of a view: those of the extents that have one above its cursor, and none for its part alone
abbrev pub looked_at : History → LeafKind → ℕ → View → ℕ
looked_at h kind.Part number v = 0
looked_at h _ number v = records_later h v.source (view_cursor h number)
